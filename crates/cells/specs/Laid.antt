-- Octets in the order in which they came, and the places that they are for.

use Rattle.std.specs.Prelude.{◌≡◌, ℕ, ◌+◌, ◌<◌, List, [], ◌∷◌, length, take, drop, Option, Some}
use Rattle.std.specs.Prelude.{slice_index}
use Rattle.cells.specs.Cells.{cell, filled, or_else}
use Rattle.cells.specs.declared.log.Held.{Held}

-- how many octets there are for some ranges
abbrev pub size_of : List Held → ℕ
size_of [] = 0
size_of (held ∷ later) = held.size + size_of later

-- the cells, with these octets for these ranges laid over them in turn
unfoldable pub laid : List (Option ℕ) → List Held → List ℕ → List (Option ℕ)
laid cells [] octets = cells
laid cells (held ∷ later) octets =
    laid (filled cells held.offset (take held.size octets)) later (drop held.size octets)

-- octets that are kept: each is for one place, and the reach is that of the cells
pub record IsLog (ranges : List Held) (octets : List ℕ) (reach : ℕ) : Type 0 where
  pub size : size_of ranges ≡ length octets
  pub reaches : reach ≡ length (laid [] ranges octets)

-- an octet of a buffer stands after those of the cells
pub record StandsAfter (cells : List (Option ℕ)) (buffer : List ℕ) (all : List (Option ℕ))
    : Type 0 where
  pub each : (k : ℕ) → k < length buffer
      → or_else (cell cells k) (Some (slice_index buffer k)) ≡ or_else (cell all k) (Some 0)
