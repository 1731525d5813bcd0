-- When a session's red part can be handed up twice, by a face that remembers numbers only for a time.

use Rattle.std.specs.Prelude.{◌≡◌, ℕ, ◌+◌, ◌^◌, ◌<◌, ◌≤◌, true, false, List, [], ◌∷◌, ◌++◌}
use Rattle.ltp_session.specs.Engine.{is_closed}
use Rattle.peer_once.specs.Runs.{Face, TimedEvent, sessions_in, sessions_at, AreInOrder, ComeBetween, SomeOf, EachOf, ForgetsNothing, is_kept, is_known, brings, opens, hands_up, is_there, IsForgotten}

-- Where a red part is handed up with two events, its session opened anew after the first of them, at the
-- latest with the second.
abbrev pub HandedUpAgain : Type 0
HandedUpAgain = (f : Face) (n : ℕ) (second first : TimedEvent) (between earlier : List TimedEvent)
    → hands_up f n first earlier ≡ true → hands_up f n second (between ++ (first ∷ earlier)) ≡ true
    → SomeOf (λ event before. opens f n event before ≡ true) (second ∷ between) (first ∷ earlier)

-- A number that is remembered for good from the beginning is never handed up.
abbrev pub NoneOfTheMarked : Type 0
NoneOfTheMarked = (f : Face) (n : ℕ) (event : TimedEvent) (earlier : List TimedEvent)
    → n < 2 ^ 64 → is_closed n f.marks ≡ true → hands_up f n event earlier ≡ false

-- For as long as a number is remembered after a session was there, it is known: it is kept, or remembered.
-- Unless runs are forgotten since then before their time.
pub record StaysKnown (f : Face) (n : ℕ) (event : TimedEvent) (since earlier : List TimedEvent) : Type 0 where
  pub now : is_known n (sessions_in f (since ++ (event ∷ earlier))) ≡ true
  pub later : (moment : ℕ) → event.0 ≤ moment → moment < event.0 + f.keys.remember_ms
      → is_known n (sessions_at f (since ++ (event ∷ earlier)) moment) ≡ true

abbrev pub KnownForATime : Type 0
KnownForATime = (f : Face) (n : ℕ) (event : TimedEvent) (since earlier : List TimedEvent)
    → n < 2 ^ 64 → is_there f n event earlier ≡ true
    → ComeBetween event.0 (event.0 + f.keys.remember_ms) since → EachOf (ForgetsNothing f) since (event ∷ earlier)
    → StaysKnown f n event since earlier

-- A session opens anew: wherever it was there in the time before, it was forgotten since then before its
-- time, and that was told.
pub record OpensAnew (f : Face) (n : ℕ) (event : TimedEvent) (earlier : List TimedEvent) : Type 0 where
  pub opens_now : opens f n event earlier ≡ true
  pub forgotten : (there : TimedEvent) (since before : List TimedEvent) → earlier ≡ since ++ (there ∷ before)
      → is_there f n there before ≡ true → event.0 < there.0 + f.keys.remember_ms
      → SomeOf (IsForgotten f n) since (there ∷ before)

-- Where moments don't fall, and a red part is handed up with two events, its session opened anew in this
-- way after the first of them, at the latest with the second.
abbrev pub HandedUpOnceInTime : Type 0
HandedUpOnceInTime = (f : Face) (n : ℕ) (second first : TimedEvent) (between earlier : List TimedEvent)
    → n < 2 ^ 64 → 1 ≤ (f.keys.bounds).sessions → AreInOrder (second ∷ (between ++ (first ∷ earlier)))
    → hands_up f n first earlier ≡ true → hands_up f n second (between ++ (first ∷ earlier)) ≡ true
    → SomeOf (OpensAnew f n) (second ∷ between) (first ∷ earlier)

-- Where moments don't fall, and no runs are forgotten before their time, a red part isn't handed up twice
-- within the time.
abbrev pub HandedUpApart : Type 0
HandedUpApart = (f : Face) (n : ℕ) (second first : TimedEvent) (between earlier : List TimedEvent)
    → n < 2 ^ 64 → AreInOrder (second ∷ (between ++ (first ∷ earlier))) → EachOf (ForgetsNothing f) between (first ∷ earlier)
    → hands_up f n first earlier ≡ true → hands_up f n second (between ++ (first ∷ earlier)) ≡ true
    → first.0 + f.keys.remember_ms ≤ second.0

-- A session that a datagram finds kept had a segment within the time: an unfinished one of an earlier use of
-- its number is gone by then.
abbrev pub KeptWhereHeard : Type 0
KeptWhereHeard = (f : Face) (n now : ℕ) (events : List TimedEvent) → 1 ≤ (f.keys.bounds).sessions
    → is_kept n (sessions_at f events now) ≡ true
    → SomeOf (λ event before. (brings f.keys n event.1 ≡ true) × (now < event.0 + f.keys.remember_ms)) events []
