-- What is shown of a configuration file is read again as what was shown.

use Rattle.std.specs.Prelude.{ℕ, List}
use Rattle.gate_config.specs.declared.file.GateFile.{GateFile}
use Rattle.gate_config.specs.Shown.{shown}
use Rattle.gate_config.specs.Reading.{Means}

-- where octets mean a file, the text that is shown of the file means the same file
abbrev pub ShownMeansTheSame : Type 0
ShownMeansTheSame = (octets : List ℕ) (file : GateFile) → Means octets file → Means (shown file) file
