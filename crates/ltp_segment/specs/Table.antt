-- The table of LTP segments (RFC 5326, section 3): the fields in their order, each with its
-- conditions and causes. It is written out in docs/formats-ltp.md.

use Rattle.std.specs.Prelude.{ℕ, ◌/◌, ◌%◌, ◌==◌, Option, Some, None, is_some}
use Rattle.wire_fields.specs.Format.{Format, give, such_that, ◌>>=◌}
use Rattle.wire_fields.specs.Words.{needs, ◌also◌, any_octet, any_octets, any_number, repeated}
use Rattle.ltp_segment.specs.declared.fault.SegmentCause.{SegmentCause}
use Rattle.ltp_segment.specs.declared.fault.SegmentCause.TheVariants.{Version, Number}
use Rattle.ltp_segment.specs.declared.fault.SegmentCause.TheVariants as causes
use Rattle.ltp_segment.specs.declared.segment.SegmentType.{SegmentType}
use Rattle.ltp_segment.specs.declared.segment.SegmentType.TheVariants as types
use Rattle.ltp_segment.specs.Types.{type_at}
use Rattle.ltp_segment.specs.Pieces.{piece_of}
use Rattle.ltp_segment.specs.Reports.{report_fields}
use Rattle.ltp_segment.specs.Values.{ContentValue, a_report_ack, a_sender_cancel}
use Rattle.ltp_segment.specs.Values.{a_sender_cancel_ack, a_receiver_cancel, a_receiver_cancel_ack}
use Rattle.ltp_segment.specs.Values.{SegmentValue}

-- ---- the fields that each segment has

-- the high half is the version, the low half a segment type that is in use
unfoldable pub control : Format SegmentCause (Option SegmentType)
control = do
  octet ← such_that (any_octet Version) (λ b.
      needs (b / 16 == 0) Version also needs (is_some (type_at (b % 16))) causes.Kind)
  give (type_at (octet % 16))

-- a tag, a length, and octets that are passed over
unfoldable pub extension : Format SegmentCause (Unit {0})
extension = do
  tag ← any_octet Number
  size ← any_number Number
  value ← any_octets size Number
  give tt

unfoldable pub extensions : ℕ → Format SegmentCause (Unit {0})
extensions count = repeated count (λ _. extension) tt

-- ---- what follows the header

unfoldable pub report_ack_fields : Format SegmentCause ContentValue
report_ack_fields = do
  number ← any_number Number
  give (a_report_ack number)

unfoldable pub sender_cancel_fields : Format SegmentCause ContentValue
sender_cancel_fields = do
  reason ← any_octet Number
  give (a_sender_cancel reason)

unfoldable pub receiver_cancel_fields : Format SegmentCause ContentValue
receiver_cancel_fields = do
  reason ← any_octet Number
  give (a_receiver_cancel reason)

-- a type that is not in use has no content; `control` has refused it before
unfoldable pub unused : Format SegmentCause ContentValue
unused = such_that (give a_sender_cancel_ack) (λ _. Some causes.Kind)

-- what follows the header of a segment of a type
abbrev pub content_of : Option SegmentType → Format SegmentCause ContentValue
content_of (Some (types.Piece kind)) = piece_of kind
content_of (Some types.Report) = report_fields
content_of (Some types.ReportAck) = report_ack_fields
content_of (Some types.SenderCancel) = sender_cancel_fields
content_of (Some types.SenderCancelAck) = give a_sender_cancel_ack
content_of (Some types.ReceiverCancel) = receiver_cancel_fields
content_of (Some types.ReceiverCancelAck) = give a_receiver_cancel_ack
content_of None = unused

-- ---- a segment

unfoldable pub segment : Format SegmentCause SegmentValue
segment = do
  kind ← control
  originator ← any_number Number
  session ← any_number Number
  counts ← any_octet Number
  headers ← extensions (counts / 16)
  content ← content_of kind
  trailers ← extensions (counts % 16)
  give (record { originator = originator; session = session; content = content })
