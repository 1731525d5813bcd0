-- The octets of a whole that came in fragments, place by place.

use Rattle.std.specs.Prelude.{ℕ, ◌+◌, Bool, true, ◌&&◌, List, [], ◌∷◌, Option, Some, is_some}
use Rattle.cells.specs.Cells.{cell, filled, whole_part}

-- the cells, with these octets from a place on where none is yet; no octets fill no place
abbrev pub with_octets : List (Option ℕ) → ℕ → List ℕ → List (Option ℕ)
with_octets cells offset [] = cells
with_octets cells offset (octet ∷ body) = filled cells offset (octet ∷ body)

-- each of these octets is for a place that has one
unfoldable pub has_all : List (Option ℕ) → ℕ → List ℕ → Bool
has_all cells offset [] = true
has_all cells offset (octet ∷ body) = is_some (cell cells offset) && has_all cells (offset + 1) body

-- the octets of a whole that has so many, where each place below it has one
abbrev pub whole_octets : List (Option ℕ) → ℕ → Option (List ℕ)
whole_octets cells total = whole_part cells (Some total)
