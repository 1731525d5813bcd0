-- The names of the causes, and a fault as a refusal.

use Rattle.std.specs.Prelude.{ℕ, List, codes, Option, Some, None}
use Rattle.wire_fields.specs.Refusal.{Stop, truncated, because}
use Rattle.wire_fields.specs.declared.miss.Miss.{Miss}
use Rattle.wire_fields.specs.declared.miss.Miss.TheVariants as misses
use Rattle.bundle6.specs.declared.fault.Cause6.{Cause6}
use Rattle.bundle6.specs.declared.fault.Cause6.TheVariants.{Version, Number, Names, PrimaryEnd, SecondPayload, TooManyBlocks, NoPayload, BlockRefs, FragmentRange, Truncated, TooLong}
use Rattle.bundle6.specs.declared.names.Unresolved.{Unresolved}
use Rattle.bundle6.specs.declared.names.Unresolved.TheVariants as reasons
use Rattle.bundle6.specs.declared.fault.Refused6.{Refused6}
use Rattle.bundle6.specs.declared.fault.Fail6.{Fail6}
use Rattle.bundle6.specs.declared.fault.Fail6.TheVariants.{Refused, Memory}

abbrev pub word_of : Cause6 → List ℕ
word_of Version = codes "Version"
word_of Number = codes "Number"
word_of Names = codes "Names"
word_of PrimaryEnd = codes "PrimaryEnd"
word_of SecondPayload = codes "SecondPayload"
word_of TooManyBlocks = codes "TooManyBlocks"
word_of NoPayload = codes "NoPayload"
word_of BlockRefs = codes "BlockRefs"
word_of FragmentRange = codes "FragmentRange"
word_of Truncated = codes "Truncated"
word_of TooLong = codes "TooLong"

-- the end of the input is a reason of its own
abbrev pub why : Cause6 → Stop Cause6
why Truncated = truncated
why cause = because cause

-- the place and the reason of a refusal
abbrev pub stop_of : Refused6 → ℕ × Stop Cause6
stop_of refused = (refused.at, why refused.cause)

-- the same of what may also be want of memory, which is no refusal
abbrev pub refusal : Fail6 → Option (ℕ × Stop Cause6)
refusal (Refused at cause) = Some (at, why cause)
refusal Memory = None

-- ---- what code makes of them

abbrev pub refused : ℕ → Cause6 → Refused6
refused at cause = record { at = at; cause = cause }

-- a field that isn't there at a place, with its cause
abbrev pub missed : ℕ → Miss → Cause6 → Refused6
missed at misses.Truncated cause = refused at Truncated
missed at misses.Absent cause = refused at cause

-- two numbers at a place that name no endpoint, with the field's cause
abbrev pub fault_named : Unresolved → ℕ → Cause6 → Fail6
fault_named reasons.Unknown at cause = Refused at cause
fault_named reasons.Memory at cause = Memory

abbrev pub refused_at : Refused6 → Option (ℕ × Stop Cause6)
refused_at refused = Some (stop_of refused)
