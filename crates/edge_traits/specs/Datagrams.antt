-- What a link delivers and takes, and what a clock shows, where they tell it.
use Rattle.std.specs.Prelude.{◌≡◌, ℕ, ◌+◌, ◌<◌, ◌≤◌, List, [], ◌∷◌, take, drop, length, slice_index, Option, None, Some, Result, Ok, Err, MatchResult}
use Rattle.edge_traits.specs.Content.{Gains}

-- the datagrams to come before and after a poll: it takes the first, and there is none only
-- where none is to come
abbrev pub Polls : {E : Type 0} → Option (List (List ℕ)) → Option (List (List ℕ)) → Result (Option ℕ) E → List ℕ → Type 0
Polls None now result buf = Unit {0}
Polls (Some coming) None result buf = ⊥
Polls (Some coming) (Some now) (Err e) buf = now ≡ coming
Polls (Some []) (Some now) (Ok None) buf = now ≡ []
Polls (Some []) (Some now) (Ok (Some n)) buf = ⊥
Polls (Some (first ∷ later)) (Some now) (Ok None) buf = ⊥
Polls (Some (first ∷ later)) (Some now) (Ok (Some n)) buf =
    (n ≡ length first) × (take n buf ≡ first) × (now ≡ later)

-- a poll's datagram lies within the buffer
abbrev pub PollsAtMost : {E : Type 0} → Result (Option ℕ) E → List ℕ → Type 0
PollsAtMost (Ok (Some n)) buf = n ≤ length buf
PollsAtMost (Ok None) buf = Unit {0}
PollsAtMost (Err e) buf = Unit {0}

-- a datagram that was sent is the last of those gone; where the sending failed they are as before
abbrev pub SendGains : {E : Type 0} → Option (List (List ℕ)) → Option (List (List ℕ)) → Result (Unit {0}) E → List ℕ → Type 0
SendGains before now result datagram =
    MatchResult result (λ _. Gains before now (datagram ∷ [])) (λ _. now ≡ before)

-- the texts that lie end to end in octets, by their lengths
abbrev pub texts_of : List ℕ → List ℕ → List (List ℕ)
texts_of [] octets = []
texts_of (n ∷ lengths) octets = take n octets ∷ texts_of lengths (drop n octets)

-- the readings of a clock before and after it is read: the first is the answer, and the last
-- is shown again and again
abbrev pub Reads : Option (List ℕ) → Option (List ℕ) → ℕ → Type 0
Reads None now moment = Unit {0}
Reads (Some readings) None moment = ⊥
Reads (Some []) (Some now) moment = ⊥
Reads (Some (last ∷ [])) (Some now) moment = (moment ≡ last) × (now ≡ last ∷ [])
Reads (Some (first ∷ second ∷ later)) (Some now) moment = (moment ≡ first) × (now ≡ second ∷ later)

-- no reading is below the one before it
abbrev pub IsRising : List ℕ → Type 0
IsRising readings = (k : ℕ) → k + 1 < length readings → slice_index readings k ≤ slice_index readings (k + 1)

-- every reading is below the moment
abbrev pub AreBelow : ℕ → List ℕ → Type 0
AreBelow moment readings = (k : ℕ) → k < length readings → slice_index readings k < moment
