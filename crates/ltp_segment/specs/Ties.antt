-- What private functions promise beside the definitions.

use Rattle.std.specs.Prelude.{ℕ, Bool, true, false, List, Option, Some, None}
use Rattle.std.specs.Borrow.{Bor}
use Rattle.wire_fields.specs.Refusal.{Stop}
use Rattle.wire_fields.specs.declared.miss.Miss.{Miss}
use Rattle.wire_fields.specs.declared.miss.Miss.TheVariants as misses
use Rattle.ltp_segment.specs.declared.fault.SegmentCause.{SegmentCause}
use Rattle.ltp_segment.specs.declared.fault.SegmentCause.TheVariants as causes
use Rattle.ltp_segment.specs.declared.fault.SegmentFault.{SegmentFault}
use Rattle.ltp_segment.specs.Cause.{why}

-- a reader's fault as the refusal that reading gives
abbrev pub refusal : SegmentFault → Option (ℕ × Stop SegmentCause)
refusal fault = Some (fault.at, why fault.cause)

-- the cause where a field isn't there, of which this is the field's own
abbrev pub missed : SegmentCause → Miss → SegmentCause
missed cause misses.Truncated = causes.Truncated
missed cause misses.Absent = cause

-- what code lends, as a list
abbrev pub lent : {A : Type 0} → Option (A × Bor (List ℕ)) → Option (A × List ℕ)
lent (Some x) = Some (x.0, x.1.now)
lent None = None

-- the types of a cancel and of its acknowledgement, where the sender's side is true
abbrev pub cancel_type : Bool → ℕ
cancel_type true = 12
cancel_type false = 14

abbrev pub cancel_ack_type : Bool → ℕ
cancel_ack_type true = 13
cancel_ack_type false = 15
