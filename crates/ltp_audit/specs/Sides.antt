-- Which of two engines sends a segment (RFC 5326, section 3).

use Rattle.std.specs.Prelude.{ℕ, Bool, true, false, not, ◌==◌, ◌&&◌, ◌||◌, if◌then◌else◌}
use Rattle.ltp_segment.specs.Values.{ContentValue, a_piece, a_report, a_report_ack}
use Rattle.ltp_segment.specs.Values.{a_sender_cancel, a_sender_cancel_ack, a_receiver_cancel}
use Rattle.ltp_segment.specs.Values.{a_receiver_cancel_ack, SegmentValue}

-- the sender of a session sends its pieces and its cancel, and acknowledges reports and the
-- receiver's cancel; the receiver sends all else
abbrev pub is_of_sender : ContentValue → Bool
is_of_sender (a_piece piece) = true
is_of_sender (a_report report) = false
is_of_sender (a_report_ack serial) = true
is_of_sender (a_sender_cancel reason) = true
is_of_sender a_sender_cancel_ack = false
is_of_sender (a_receiver_cancel reason) = false
is_of_sender a_receiver_cancel_ack = true

-- the engine sends it: what the sender sends in its own sessions, and what the receiver sends in
-- all others
abbrev pub is_sent_by : ℕ → SegmentValue → Bool
is_sent_by own s =
    if is_of_sender s.content then s.originator == own else not (s.originator == own)

-- it is of a session of one of the two engines, and it went out where the engine sends it, and came
-- in where its peer does
abbrev pub is_on_its_side : ℕ → ℕ → Bool → SegmentValue → Bool
is_on_its_side own peer out s =
    ((s.originator == own) || (s.originator == peer))
    && (if out then is_sent_by own s else not (is_sent_by own s))
