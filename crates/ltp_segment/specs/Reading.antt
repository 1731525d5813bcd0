-- What a datagram is: a segment, or refused at one place for one cause.

use Rattle.std.specs.Prelude.{ℕ, List, [], Result, Ok, Err}
use Rattle.wire_fields.specs.Format.{Spells}
use Rattle.wire_fields.specs.Refusal.{Stop}
use Rattle.wire_fields.specs.Whole.{read_whole, WholeRefusal}
use Rattle.ltp_segment.specs.declared.fault.SegmentCause.{SegmentCause}
use Rattle.ltp_segment.specs.declared.fault.SegmentCause.TheVariants as causes
use Rattle.ltp_segment.specs.declared.fault.SegmentFault.{SegmentFault}
use Rattle.ltp_segment.specs.declared.segment.Segment.{Segment}
use Rattle.ltp_segment.specs.Cause.{why, cause_of}
use Rattle.ltp_segment.specs.Values.{SegmentValue}
use Rattle.ltp_segment.specs.Views.{segment_value}
use Rattle.ltp_segment.specs.Table.{segment}

-- the datagram is a spelling of the segment: of all its fields, and nothing follows
abbrev pub SpellsSegment : SegmentValue → List ℕ → Type 0
SpellsSegment s datagram = Spells segment [] datagram s

-- the datagram isn't a segment: so many octets are as they should be, and the next field isn't, for
-- this cause
abbrev pub RefusesSegment : ℕ → SegmentCause → List ℕ → Type 0
RefusesSegment at cause datagram = WholeRefusal segment causes.Trailing datagram at (why cause)

abbrev pub told :
    Result SegmentValue (ℕ × Stop SegmentCause) → Result SegmentValue (ℕ × SegmentCause)
told (Ok s) = Ok s
told (Err refusal) = Err (refusal.0, cause_of refusal.1)

-- what a datagram is
unfoldable pub segment_of : List ℕ → Result SegmentValue (ℕ × SegmentCause)
segment_of datagram = told (read_whole segment causes.Trailing datagram)

-- what decode returned, as values
abbrev pub seen : Result Segment SegmentFault → Result SegmentValue (ℕ × SegmentCause)
seen (Ok s) = Ok (segment_value s)
seen (Err fault) = Err (fault.at, fault.cause)
