-- A gap that some octets fill.

use Rattle.std.specs.Prelude.{ℕ, ◌-◌, List, Option, nat_lt, slice_range, if◌then◌else◌}
use Rattle.cells.specs.Cells.{filled}

-- the cells, with the octets that a body at `offset` has for the places from `from` to before `to`
unfoldable pub filled_gap : List (Option ℕ) → ℕ → List ℕ → ℕ → ℕ → List (Option ℕ)
filled_gap cells offset body from to =
    if nat_lt from to then filled cells from (slice_range body (from - offset) (to - offset))
    else cells
