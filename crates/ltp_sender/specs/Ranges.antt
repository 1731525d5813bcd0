-- The claimed ranges that a walk along the segments has still before it.

use Rattle.std.specs.Prelude.{◌≡◌, ℕ, ◌≤◌, Bool, false, ◌&&◌, nat_lt, nat_le, List, [], ◌∷◌, Option, None, Some, if◌then◌else◌}
use Rattle.spans.specs.declared.range.Run.{Run}
use Rattle.spans.specs.Places.{is_covered}
use Rattle.spans.specs.Runs.{has_place}

-- the range at hand, where there is one, and those after it
abbrev pub from_here : Option Run → List Run → List Run
from_here None later = []
from_here (Some run) later = run ∷ later

-- the first range ends before a place
abbrev pub ends_before : ℕ → List Run → Bool
ends_before place [] = false
ends_before place (run ∷ runs) = nat_lt run.to place

-- the ranges from the first on that doesn't
unfoldable pub reaching : ℕ → List Run → List Run
reaching place [] = []
reaching place (run ∷ runs) = if nat_lt run.to place then reaching place runs else run ∷ runs

-- the first range has all places from `from` to before `to`
abbrev pub first_has : ℕ → ℕ → List Run → Bool
first_has from to [] = false
first_has from to (run ∷ runs) = nat_le run.from from && nat_le to run.to

-- from a place on the ranges have the claimed places
abbrev pub Tell : ℕ → List Run → List Bool → Type 0
Tell place runs claimed = (k : ℕ) → place ≤ k → has_place runs k ≡ is_covered claimed k

-- ranges that lost no place from this one on
abbrev pub Forgets : ℕ → List Run → List Run → Type 0
Forgets place old new = (k : ℕ) → place ≤ k → has_place new k ≡ has_place old k
