-- The names of the faults.

use Rattle.std.specs.Prelude.{ℕ, List, codes}
use Rattle.endpoint.specs.declared.fault.EndpointFault.{EndpointFault}
use Rattle.endpoint.specs.declared.fault.EndpointFault.TheVariants.{Scheme, Ssp, Number, Memory}

abbrev pub word_of : EndpointFault → List ℕ
word_of Scheme = codes "Scheme"
word_of Ssp = codes "Ssp"
word_of Number = codes "Number"
word_of Memory = codes "Memory"
