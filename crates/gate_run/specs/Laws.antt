-- What holds of every run.

use Rattle.std.specs.Prelude.{ℕ, List}
use Rattle.gate_config.specs.declared.file.GateFile.{GateFile}
use Rattle.gate_config.specs.Reading.{Means}
use Rattle.peer_half.specs.Setup.{IsRunnable}

-- by what a configuration file means a gateway can be set up
abbrev pub IsRunnableAsRead : Type 0
IsRunnableAsRead = (octets : List ℕ) (file : GateFile) → Means octets file → IsRunnable file
