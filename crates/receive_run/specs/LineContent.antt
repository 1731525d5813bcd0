-- What a line of `receive` says: its content. A line is one datagram in hex.
use Rattle.std.specs.Prelude.{ℕ, ◌==◌, ◌&&◌, List, Result, Ok, Err, if◌then◌else◌}
use Rattle.hex_text.specs.Hex.{FromHexError, decode_of}
use Rattle.ltp_segment.specs.declared.fault.SegmentCause.{SegmentCause}
use Rattle.ltp_segment.specs.Reading.{segment_of}
use Rattle.ltp_segment.specs.Values.{SegmentValue, ContentValue, a_piece, a_report, a_report_ack, a_sender_cancel, a_sender_cancel_ack, a_receiver_cancel, a_receiver_cancel_ack, PieceValue}
use Rattle.ltp_segment.specs.Kinds.{is_red, ends_red_part}
use Rattle.ltp_session.specs.declared.name.SessionName.{SessionName}
use Rattle.ltp_session.specs.RedPart.{RedPiece}

-- a piece of a red part, and whose session it is of
pub record NamedPiece : Type 0 where
  pub name : SessionName
  pub piece : RedPiece

-- a line is no hex; its datagram is no segment, by the field at a place; it is a segment that is
-- no red piece of service 1; or it is one
pub data LineContent : Type 0 where
  no_hex : LineContent
  no_segment : ℕ → SegmentCause → LineContent
  other : LineContent
  red : NamedPiece → LineContent

abbrev pub piece_content : SessionName → PieceValue → LineContent
piece_content name p =
    if is_red p.kind && (p.service == 1)
    then red (record {
      name = name;
      piece = record { offset = p.offset; ends = ends_red_part p.kind; body = p.body };
    })
    else other

abbrev pub content_in : SessionName → ContentValue → LineContent
content_in name (a_piece p) = piece_content name p
content_in name (a_report r) = other
content_in name (a_report_ack serial) = other
content_in name (a_sender_cancel reason) = other
content_in name a_sender_cancel_ack = other
content_in name (a_receiver_cancel reason) = other
content_in name a_receiver_cancel_ack = other

-- the content of a datagram, by what it is read as
abbrev pub segment_content : Result SegmentValue (ℕ × SegmentCause) → LineContent
segment_content (Ok s) = content_in (record { originator = s.originator; number = s.session }) s.content
segment_content (Err refusal) = no_segment refusal.0 refusal.1

abbrev pub datagram_content : Result (List ℕ) FromHexError → LineContent
datagram_content (Ok datagram) = segment_content (segment_of datagram)
datagram_content (Err e) = no_hex

-- the content of a line
unfoldable pub content_of : List ℕ → LineContent
content_of line = datagram_content (decode_of line)
