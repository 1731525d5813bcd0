-- The names of the faults.

use Rattle.std.specs.Prelude.{ℕ, List, codes}
use Rattle.sdnv.specs.declared.fault.SdnvFault.{SdnvFault}
use Rattle.sdnv.specs.declared.fault.SdnvFault.TheVariants as faults

abbrev pub word_of : SdnvFault → List ℕ
word_of faults.Short = codes "Short"
word_of faults.TooLong = codes "TooLong"
word_of faults.TooLarge = codes "TooLarge"
