-- The word of each fault.
use Rattle.std.specs.Prelude.{ℕ, List, codes}
use Rattle.cbor_lite.specs.declared.fault.CborFault.{CborFault}
use Rattle.cbor_lite.specs.declared.fault.CborFault.TheVariants.{Kind, Short, NotShortest}

-- the octets of the name of a fault
abbrev pub word_of : CborFault → List ℕ
word_of Kind = codes "Kind"
word_of Short = codes "Short"
word_of NotShortest = codes "NotShortest"
