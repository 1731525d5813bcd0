-- The names of the refusals of a line.

use Rattle.std.specs.Prelude.{ℕ, List, codes}
use Rattle.replay_script.specs.declared.fault.LineFault.{LineFault}
use Rattle.replay_script.specs.declared.fault.LineFault.TheVariants as faults

abbrev pub word_of : LineFault → List ℕ
word_of faults.Word = codes "Word"
word_of faults.Name = codes "Name"
word_of faults.Number = codes "Number"
word_of faults.Hex = codes "Hex"
word_of faults.Memory = codes "Memory"
