-- What a sink holds, or a link sent, where it tells it. A version in memory stops telling once
-- it is full, so each word here goes backwards: what is told now was told before.
use Rattle.std.specs.Io.KnownBytes.{Consumes, IsAtEnd}
use Rattle.std.specs.Prelude.{◌≡◌, ℕ, ◌+◌, ◌<◌, List, [], ◌∷◌, ◌++◌, take, length, Option, Result, IfSome, IsSomeAnd, MatchResult, IfOk}

-- texts one after the other
abbrev pub joined : List (List ℕ) → List ℕ
joined [] = []
joined (text ∷ texts) = text ++ joined texts

-- ---- what comes

-- the most octets of an input that a command looks at: 64 MiB
abbrev pub most_input : ℕ
most_input = 67108864

-- the octets that are read of an input: one more than the most, where there are so many
unfoldable pub read_front : ℕ → List ℕ → List ℕ
read_front most input = take (most + 1) input

-- one read that gave these octets: they are the next of those left, and none came only at the end
pub record Took (before now : Option (List ℕ)) (came : List ℕ) : Type 0 where
  pub read : Consumes before now came
  pub ends : came ≡ [] → IsAtEnd now

-- ---- what goes

-- where it is told what is held now, it was told before, and xs were added
abbrev pub Gains : {X : Type 0} → Option (List X) → Option (List X) → List X → Type 0
Gains before now xs = IfSome now (λ after. IsSomeAnd before (λ held. after ≡ held ++ xs))

-- the same, of some front of xs
abbrev pub GainsFront : {X : Type 0} → Option (List X) → Option (List X) → List X → Type 0
GainsFront {X} before now xs = IfSome now (λ after. IsSomeAnd before (λ held.
    (front : List X) × (rest : List X) × (xs ≡ front ++ rest) × (after ≡ held ++ front)))

-- a write took the first n octets of the piece at Ok n, and left what is held where it failed
abbrev pub WriteGains : {E : Type 0} → Option (List ℕ) → Option (List ℕ) → Result ℕ E → List ℕ → Type 0
WriteGains before now result piece =
    MatchResult result (λ n. Gains before now (take n piece)) (λ _. now ≡ before)

-- a write takes at least one octet of a piece that has one, or it fails
abbrev pub TakesSome : {E : Type 0} → Result ℕ E → List ℕ → Type 0
TakesSome result piece = IfOk result (λ n. 0 < length piece → 0 < n)
