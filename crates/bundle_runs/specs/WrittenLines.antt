-- The lines that are written.
use Rattle.std.specs.Prelude.{ℕ, List, [], ◌∷◌, ◌++◌, codes}
use Rattle.std.specs.Fmt.{decimal}
use Rattle.serde_json.specs.Written.{compact_text}
use Rattle.edge_traits.specs.Content.{joined}
use Rattle.bundle_runs.specs.declared.front.Bundle.{Bundle}
use Rattle.bundle_runs.specs.Show.{shown}

-- the version of a bundle and how many octets it has
abbrev pub check_line : ℕ → ℕ → List ℕ
check_line version size = joined (decimal version ∷ codes " " ∷ decimal size ∷ codes "\n" ∷ [])

-- its values as JSON
abbrev pub show_line : Bundle → List ℕ
show_line bundle = compact_text (shown bundle) ++ codes "\n"

-- bundle n is invalid, by the field at a place of the input
abbrev pub refused_line : ℕ → ℕ → List ℕ → List ℕ
refused_line n at word = joined
    (codes "refused " ∷ decimal n ∷ codes " " ∷ decimal at ∷ codes " " ∷ word ∷ codes "\n" ∷ [])

-- the command refuses bundle n, which is valid
abbrev pub turned_down_line : ℕ → List ℕ → List ℕ
turned_down_line n word = joined (codes "refused " ∷ decimal n ∷ codes " " ∷ word ∷ codes "\n" ∷ [])
