-- A recording: what came to an engine and left it, the last entry first. Its segments are those
-- entries that are one and stand on their side.

use Rattle.std.specs.Prelude.{ℕ, ◌+◌, zero, suc, Bool, true, false, ◌==◌, ◌&&◌, List, [], ◌∷◌, Option, None}
use Rattle.std.specs.Prelude.{Some, Result, Ok, Err, is_some, if◌then◌else◌}
use Rattle.ltp_segment.specs.declared.fault.SegmentCause.{SegmentCause}
use Rattle.ltp_segment.specs.declared.segment.Claim.{Claim}
use Rattle.ltp_segment.specs.Kinds.{is_red, is_checkpoint, ends_red_part}
use Rattle.ltp_segment.specs.Values.{PieceValue, ContentValue, a_piece, a_report, a_report_ack}
use Rattle.ltp_segment.specs.Values.{a_sender_cancel, a_sender_cancel_ack, a_receiver_cancel}
use Rattle.ltp_segment.specs.Values.{a_receiver_cancel_ack, SegmentValue}
use Rattle.ltp_segment.specs.Reading.{segment_of}
use Rattle.ltp_session.specs.Cells.{octet_in}
use Rattle.ltp_session.specs.RedPart.{RedPiece}
use Rattle.ltp_audit.specs.declared.entry.Entry.{Entry}
use Rattle.ltp_audit.specs.Sides.{is_on_its_side}

-- ---- the segments of a session

abbrev pub if_on_its_side :
    ℕ → ℕ → Bool → Result SegmentValue (ℕ × SegmentCause) → Option SegmentValue
if_on_its_side own peer out (Err refusal) = None
if_on_its_side own peer out (Ok s) = if is_on_its_side own peer out s then Some s else None

-- the segment that an entry is, where it stands on its side
unfoldable pub segment_in : ℕ → ℕ → Entry → Option SegmentValue
segment_in own peer entry = if_on_its_side own peer entry.out (segment_of entry.datagram)

abbrev pub with_segment :
    ℕ → ℕ → Option SegmentValue → List ContentValue → List ContentValue
with_segment originator session None earlier = earlier
with_segment originator session (Some s) earlier =
    if (s.originator == originator) && (s.session == session)
    then s.content ∷ earlier else earlier

-- what the segments of a session say, the last one first
unfoldable pub said_in : ℕ → ℕ → List Entry → ℕ → ℕ → List ContentValue
said_in own peer [] originator session = []
said_in own peer (entry ∷ history) originator session =
    with_segment originator session (segment_in own peer entry)
    (said_in own peer history originator session)

-- ---- its red pieces

abbrev pub red_piece : PieceValue → RedPiece
red_piece p = record { offset = p.offset; ends = ends_red_part p.kind; body = p.body }

abbrev pub with_red : ContentValue → List RedPiece → List RedPiece
with_red (a_piece piece) pieces = if is_red piece.kind then red_piece piece ∷ pieces else pieces
with_red (a_report report) pieces = pieces
with_red (a_report_ack serial) pieces = pieces
with_red (a_sender_cancel reason) pieces = pieces
with_red a_sender_cancel_ack pieces = pieces
with_red (a_receiver_cancel reason) pieces = pieces
with_red a_receiver_cancel_ack pieces = pieces

abbrev pub red_pieces : List ContentValue → List RedPiece
red_pieces [] = []
red_pieces (content ∷ earlier) = with_red content (red_pieces earlier)

-- so many places from one on have an octet
abbrev pub are_held : (ℕ → Option ℕ) → ℕ → ℕ → Bool
are_held octet place zero = true
are_held octet place (suc count) =
    is_some (octet place) && are_held octet (place + 1) count

-- all places that the claims name have an octet; their offsets count from the lower bound
abbrev pub are_claims_held : (ℕ → Option ℕ) → ℕ → List Claim → Bool
are_claims_held octet lower [] = true
are_claims_held octet lower (claim ∷ claims) =
    are_held octet (lower + claim.offset) claim.length && are_claims_held octet lower claims

-- a place has no other octet than this
abbrev pub has_no_other : Option ℕ → ℕ → Bool
has_no_other None octet = true
has_no_other (Some held) octet = held == octet

-- no place has another octet than these have, from the first place on
abbrev pub agrees : (ℕ → Option ℕ) → ℕ → List ℕ → Bool
agrees held place [] = true
agrees held place (octet ∷ body) =
    has_no_other (held place) octet && agrees held (place + 1) body

-- two pieces have the same octets where they overlap
abbrev pub are_alike : RedPiece → RedPiece → Bool
are_alike piece earlier = agrees (octet_in earlier.offset earlier.body) piece.offset piece.body

-- ---- its serial numbers and cancels

abbrev pub is_checkpoint_of : ℕ → ContentValue → Bool
is_checkpoint_of serial (a_piece piece) = is_checkpoint piece.kind && (piece.checkpoint == serial)
is_checkpoint_of serial (a_report report) = false
is_checkpoint_of serial (a_report_ack report) = false
is_checkpoint_of serial (a_sender_cancel reason) = false
is_checkpoint_of serial a_sender_cancel_ack = false
is_checkpoint_of serial (a_receiver_cancel reason) = false
is_checkpoint_of serial a_receiver_cancel_ack = false

abbrev pub is_report_of : ℕ → ContentValue → Bool
is_report_of serial (a_piece piece) = false
is_report_of serial (a_report report) = report.serial == serial
is_report_of serial (a_report_ack report) = false
is_report_of serial (a_sender_cancel reason) = false
is_report_of serial a_sender_cancel_ack = false
is_report_of serial (a_receiver_cancel reason) = false
is_report_of serial a_receiver_cancel_ack = false

abbrev pub is_sender_cancel : ContentValue → Bool
is_sender_cancel (a_piece piece) = false
is_sender_cancel (a_report report) = false
is_sender_cancel (a_report_ack serial) = false
is_sender_cancel (a_sender_cancel reason) = true
is_sender_cancel a_sender_cancel_ack = false
is_sender_cancel (a_receiver_cancel reason) = false
is_sender_cancel a_receiver_cancel_ack = false

abbrev pub is_receiver_cancel : ContentValue → Bool
is_receiver_cancel (a_piece piece) = false
is_receiver_cancel (a_report report) = false
is_receiver_cancel (a_report_ack serial) = false
is_receiver_cancel (a_sender_cancel reason) = false
is_receiver_cancel a_sender_cancel_ack = false
is_receiver_cancel (a_receiver_cancel reason) = true
is_receiver_cancel a_receiver_cancel_ack = false
