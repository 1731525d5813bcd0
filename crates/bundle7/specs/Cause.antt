-- The names of the causes, and what a refusal says.
use Rattle.std.specs.Prelude.{ℕ, List, codes, Option, Some, None}
use Rattle.wire_fields.specs.Refusal.{Stop, truncated, because}
use Rattle.wire_fields.specs.declared.miss.Miss.{Miss}
use Rattle.wire_fields.specs.declared.miss.Miss.TheVariants as misses
use Rattle.bundle7.specs.declared.fault.Cause7.{Cause7}
use Rattle.bundle7.specs.declared.fault.Cause7.TheVariants.{Start, Head, Version, Number, CrcType, ItemCount, Eid, Timestamp, Crc, BlockHead, TooManyBlocks, Repeated, BlockNumber, Body, FragmentRange, ExtensionBody, Break, Truncated, TooLong}
use Rattle.bundle7.specs.declared.fault.Refused7.{Refused7}
use Rattle.bundle7.specs.declared.fault.Fail7.{Fail7}
use Rattle.bundle7.specs.declared.fault.Fail7.TheVariants.{Refused, Memory}
use Rattle.bundle7.specs.declared.fault.EidFault.{EidFault}
use Rattle.bundle7.specs.declared.fault.EidFault.TheVariants as eid_faults

abbrev pub word_of : Cause7 → List ℕ
word_of Start = codes "Start"
word_of Head = codes "Head"
word_of Version = codes "Version"
word_of Number = codes "Number"
word_of CrcType = codes "CrcType"
word_of ItemCount = codes "ItemCount"
word_of Eid = codes "Eid"
word_of Timestamp = codes "Timestamp"
word_of Crc = codes "Crc"
word_of BlockHead = codes "BlockHead"
word_of TooManyBlocks = codes "TooManyBlocks"
word_of Repeated = codes "Repeated"
word_of BlockNumber = codes "BlockNumber"
word_of Body = codes "Body"
word_of FragmentRange = codes "FragmentRange"
word_of ExtensionBody = codes "ExtensionBody"
word_of Break = codes "Break"
word_of Truncated = codes "Truncated"
word_of TooLong = codes "TooLong"

abbrev pub eid_word_of : EidFault → List ℕ
eid_word_of eid_faults.Eid = codes "Eid"
eid_word_of eid_faults.Memory = codes "Memory"

-- the end of the input is a reason of its own
abbrev pub why : Cause7 → Stop Cause7
why Truncated = truncated
why cause = because cause

-- a field that isn't there at a place, with its cause
abbrev pub missed : ℕ → Miss → Cause7 → Refused7
missed at misses.Truncated cause = record { at = at; cause = Truncated }
missed at misses.Absent cause = record { at = at; cause = cause }

-- a refusal of a place for a cause
abbrev pub refusal_at : ℕ → Cause7 → Refused7
refusal_at at cause = record { at = at; cause = cause }

-- the place and the reason of a refusal
abbrev pub stop_of : Refused7 → ℕ × Stop Cause7
stop_of r = (r.at, why r.cause)

abbrev pub refused : Refused7 → Option (ℕ × Stop Cause7)
refused r = Some (stop_of r)

-- the refusal that a failure answers; want of memory is none
abbrev pub refusal : Fail7 → Option (ℕ × Stop Cause7)
refusal (Refused at cause) = Some (at, why cause)
refusal Memory = None
