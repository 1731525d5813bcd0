-- What two clocks show, where they tell it.

use Rattle.std.specs.Prelude.{◌≡◌, ℕ, ◌^◌, ◌<◌, ◌≤◌, List, [], ◌∷◌, Option, None, Some}
use Rattle.outbox.specs.declared.reading.Reading.{Reading}

-- the readings to come before and after one: the first is the answer, and the last is shown again and
-- again
abbrev pub ReadsBoth : Option (List Reading) → Option (List Reading) → Reading → Type 0
ReadsBoth None now reading = Unit {0}
ReadsBoth (Some readings) None reading = ⊥
ReadsBoth (Some []) (Some now) reading = ⊥
ReadsBoth (Some (last ∷ [])) (Some now) reading = (reading ≡ last) × (now ≡ last ∷ [])
ReadsBoth (Some (first ∷ second ∷ later)) (Some now) reading =
    (reading ≡ first) × (now ≡ second ∷ later)

-- the monotonic clock shows no less than this at the first of them, and never falls after that; the
-- wall clock may jump, and shows less than 2^62
abbrev pub ArePlausible : ℕ → List Reading → Type 0
ArePlausible shown [] = Unit {0}
ArePlausible shown (reading ∷ later) =
    (shown ≤ reading.monotonic) × (reading.wall < 2 ^ 62) × ArePlausible reading.monotonic later

-- clocks in memory as they stand: the readings to come, the last of them again and again, and what the
-- monotonic clock showed last
pub record MemClocksNow : Type 0 where
  pub to_come : List Reading
  pub shown : ℕ
