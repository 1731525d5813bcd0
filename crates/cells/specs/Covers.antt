-- The places that have an octet.

use Rattle.std.specs.Prelude.{◌≡◌, ℕ, ◌≤◌, Bool, List, length, Option, is_some}
use Rattle.spans.specs.Places.{is_covered}
use Rattle.cells.specs.Cells.{cell}

-- these places, up to a limit, are covered where the cells are filled
pub record Covers (most : ℕ) (places : List Bool) (cells : List (Option ℕ)) : Type 0 where
  pub limit : length places ≡ most
  pub within : length cells ≤ most
  pub each : (k : ℕ) → is_covered places k ≡ is_some (cell cells k)
