-- The lines of a text, by how they begin.
use Rattle.std.specs.Prelude.{ℕ, List, [], ◌∷◌, codes, if◌then◌else◌}
use Rattle.command_frame.specs.InputLines.{lines_of}
use Rattle.endpoint.specs.Endpoints.{begins}

-- those that begin so
unfoldable pub lines_with : List ℕ → List (List ℕ) → List (List ℕ)
lines_with front [] = []
lines_with front (line ∷ lines) =
    if begins front line then line ∷ lines_with front lines else lines_with front lines

-- the lines that say that a block, or a red part, is handed up
abbrev pub up_lines : List ℕ → List (List ℕ)
up_lines text = lines_with (codes "up ") (lines_of text)
