-- A run: halves of the old face and of the new one in turn.

use Rattle.std.specs.Prelude.{ℕ, Bool, List, [], ◌∷◌, Option}
use Rattle.gate_cases.specs.declared.face.Face.{Face}
use Rattle.gate_cases.specs.declared.face.Face.TheVariants.{Old}
use Rattle.gate_cases.specs.Faces.{other_of}
use Rattle.gate_config.specs.declared.file.GateFile.{GateFile}
use Rattle.journal_file.specs.Values.{KeptValue}
use Rattle.peer_half.specs.Standing.{Standing}
use Rattle.peer_half.specs.Starts.{starts_at}
use Rattle.peer_half.specs.Acts.{Act, Acted, stands, and_then}
use Rattle.peer_half.specs.Parts.{makes_anew}
use Rattle.peer_half.specs.Half.{Came, half}

unfoldable pub halves : (board : Bool) → Face → List Came → Standing → Acted
halves board face [] s = stands s
halves board face (came ∷ more) s =
    and_then (half board face came s) (halves board (other_of face) more)

-- a run begins as its file and what earlier runs kept have it, with the first reading of the wall clock:
-- where a journal is kept, its file is made anew of what is recovered, before anything else
abbrev pub recovers : GateFile → Option KeptValue → ℕ → Acted
recovers file kept wall = makes_anew (starts_at file kept wall)

-- the acts of a run, to whose halves this comes
abbrev pub run : GateFile → Option KeptValue → (board : Bool) → List Came → List Act
run file kept board [] = []
run file kept board (came ∷ more) =
    (and_then (recovers file kept (came.reading).wall) (halves board Old (came ∷ more))).acts
