-- What a segment's content is for a receiving session, as the code asks.

use Rattle.std.specs.Prelude.{ℕ, Bool, true, false, not, if◌then◌else◌, List, length}
use Rattle.std.specs.List.{list_any}
use Rattle.ltp_segment.specs.declared.session.Note.{Note}
use Rattle.ltp_segment.specs.declared.session.Note.TheVariants as notes
use Rattle.ltp_segment.specs.Kinds.{is_red}
use Rattle.ltp_segment.specs.Values.{ContentValue, a_piece, a_report, a_report_ack, a_sender_cancel, a_sender_cancel_ack, a_receiver_cancel, a_receiver_cancel_ack}

-- how many octets it may add to a red part
abbrev pub red_octets : ContentValue → ℕ
red_octets (a_piece piece) = if is_red piece.kind then length piece.body else 0
red_octets (a_report report) = 0
red_octets (a_report_ack serial) = 0
red_octets (a_sender_cancel reason) = 0
red_octets a_sender_cancel_ack = 0
red_octets (a_receiver_cancel reason) = 0
red_octets a_receiver_cancel_ack = 0

-- a note says that a piece left its session as it was
abbrev pub is_left : Note → Bool
is_left (notes.Sent session) = false
is_left (notes.Failed session reason) = false
is_left (notes.Refused session service) = true
is_left (notes.Cancelled session reason) = false
is_left (notes.Evicted session) = false
is_left notes.Stranger = false
is_left (notes.BadSegment at cause) = false
is_left (notes.BadBounds session) = true
is_left (notes.Closed session) = true
is_left (notes.HistoryFull session) = false

-- it touched its session, where that is kept then; a piece did, where it didn't leave it as it was
abbrev pub touches_by : ContentValue → Bool → Bool
touches_by (a_piece piece) left = not left
touches_by (a_report report) left = false
touches_by (a_report_ack serial) left = true
touches_by (a_sender_cancel reason) left = false
touches_by a_sender_cancel_ack left = false
touches_by (a_receiver_cancel reason) left = false
touches_by a_receiver_cancel_ack left = false

-- by what was noted
abbrev pub touches : ContentValue → List Note → Bool
touches content remarks = touches_by content (list_any is_left remarks)
