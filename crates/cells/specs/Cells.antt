-- Octets of which some came, place by place.
--
-- A cell is a place's octet, where one came. The list of cells ends with the last place that has
-- one; the places after it are empty. The first octet that came for a place stays.

use Rattle.std.specs.Prelude.{ℕ, zero, suc, ◌+◌, ◌-◌, ◌==◌, ◌&&◌, nat_lt, nat_le, List, [], ◌∷◌}
use Rattle.std.specs.Prelude.{length, slice_index, slice_index_or, Option, None, Some}
use Rattle.std.specs.Prelude.{if◌then◌else◌}
use Rattle.std.specs.Option.{option_map}

-- the octet of a place, where one came
abbrev pub cell : List (Option ℕ) → ℕ → Option ℕ
cell cells place = slice_index_or cells place None

-- the place after the last octet that came
abbrev pub reach_of : List (Option ℕ) → ℕ
reach_of cells = length cells

-- the place after the last of some octets from a place on
abbrev pub stop_of : ℕ → List ℕ → ℕ
stop_of offset body = offset + length body

-- the octet that they have for a place
abbrev pub octet_in : ℕ → List ℕ → ℕ → Option ℕ
octet_in offset body place =
    if nat_le offset place && nat_lt place (stop_of offset body)
    then Some (slice_index body (place - offset)) else None

-- the first of two, where there is one
abbrev pub or_else : {X : Type 0} → Option X → Option X → Option X
or_else None second = second
or_else (Some first) second = Some first

-- ---- filling

-- the cells, with these octets from the first place on, where no octet is yet
abbrev pub laid_over : List (Option ℕ) → List ℕ → List (Option ℕ)
laid_over cells [] = cells
laid_over [] (octet ∷ body) = Some octet ∷ laid_over [] body
laid_over (None ∷ cells) (octet ∷ body) = Some octet ∷ laid_over cells body
laid_over (Some first ∷ cells) (octet ∷ body) = Some first ∷ laid_over cells body

-- the same, from a place on
unfoldable pub filled : List (Option ℕ) → ℕ → List ℕ → List (Option ℕ)
filled cells zero body = laid_over cells body
filled [] (suc offset) body = None ∷ filled [] offset body
filled (cell ∷ cells) (suc offset) body = cell ∷ filled cells offset body

-- ---- the whole

-- the octets of all cells, where each has one
unfoldable pub all_octets : List (Option ℕ) → Option (List ℕ)
all_octets [] = Some []
all_octets (None ∷ cells) = None
all_octets (Some octet ∷ cells) = option_map (λ body. octet ∷ body) (all_octets cells)

-- the whole, once it is known where it ends: the cells end there, and each of them has an octet
abbrev pub whole_part : List (Option ℕ) → Option ℕ → Option (List ℕ)
whole_part cells None = None
whole_part cells (Some end) = if end == reach_of cells then all_octets cells else None
