-- The names of the faults.

use Rattle.std.specs.Prelude.{ℕ, List, codes}
use Rattle.bundle_meaning.specs.declared.fault.BlockFault.{BlockFault}
use Rattle.bundle_meaning.specs.declared.fault.BlockFault.TheVariants.{Bad, Memory}

abbrev pub word_of : BlockFault → List ℕ
word_of Bad = codes "Bad"
word_of Memory = codes "Memory"
