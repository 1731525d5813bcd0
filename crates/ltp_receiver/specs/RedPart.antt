-- The receiver's law (RFC 5326, section 6.9): which pieces of a session count, and with which event
-- its red part is handed up. What the red part is, is said place by place in `ltp_session`.

use Rattle.std.specs.Prelude.{◌≡◌, ℕ, ◌↔◌, Bool, not, ◌&&◌, List, [], ◌∷◌, Option, None, Some}
use Rattle.std.specs.Prelude.{if◌then◌else◌}
use Rattle.ltp_segment.specs.Kinds.{is_red, ends_red_part}
use Rattle.ltp_segment.specs.Policy.{PolicyValue}
use Rattle.ltp_segment.specs.Values.{PieceValue}
use Rattle.ltp_session.specs.RedPart.{RedPiece, BecomesWhole}
use Rattle.ltp_session.specs.Step.{StepValue, after, stays, sending}
use Rattle.ltp_session.specs.Receiver.{Receiving, fresh, is_cancelling, is_outside}
use Rattle.ltp_session.specs.Receiver.{is_miscoloured, piece_step, on_report_ack}
use Rattle.ltp_session.specs.Receiver.{on_receiver_cancel_ack, on_receiver_tick}

-- ---- which pieces count

-- what comes to a session: a piece, the acknowledgement of a report or of its cancel, or a moment
pub data Event : Type 0 where
  a_piece_comes : PieceValue → ℕ → Event
  a_report_is_acknowledged : ℕ → Event
  the_cancel_is_acknowledged : Event
  time_passes : ℕ → Event

-- a piece counts where its octets are taken: it is red, and no earlier rule turns it away
abbrev pub is_taken : Receiving → PieceValue → Bool
is_taken r piece =
    not (is_cancelling r.phase) && (is_red piece.kind
    && (not (is_outside r piece) && not (is_miscoloured r piece)))

-- the same as a piece of the red part
abbrev pub red_piece : PieceValue → RedPiece
red_piece piece = record {
  offset = piece.offset;
  ends = ends_red_part piece.kind;
  body = piece.body;
}

-- the pieces that count, once one more comes
abbrev pub with_piece : Option Receiving → PieceValue → List RedPiece → List RedPiece
with_piece None piece pieces = pieces
with_piece (Some r) piece pieces = if is_taken r piece then red_piece piece ∷ pieces else pieces

abbrev pub with_event : Option Receiving → Event → List RedPiece → List RedPiece
with_event kept (a_piece_comes piece now) pieces = with_piece kept piece pieces
with_event kept (a_report_is_acknowledged serial) pieces = pieces
with_event kept the_cancel_is_acknowledged pieces = pieces
with_event kept (time_passes now) pieces = pieces

-- a piece comes to a session; one that is cancelling or over does nothing
abbrev pub piece_comes : PolicyValue → Option Receiving → PieceValue → ℕ → StepValue Receiving
piece_comes policy None piece now = sending stays []
piece_comes policy (Some r) piece now =
    if is_cancelling r.phase then sending stays [] else piece_step policy r piece now

-- what a session does in answer to an event
abbrev pub event_step : PolicyValue → Option Receiving → Event → StepValue Receiving
event_step policy kept (a_piece_comes piece now) = piece_comes policy kept piece now
event_step policy kept (a_report_is_acknowledged serial) = on_report_ack kept serial
event_step policy kept the_cancel_is_acknowledged = on_receiver_cancel_ack kept
event_step policy kept (time_passes now) = on_receiver_tick policy kept now

-- what is kept of a session, and the pieces that count, once these events came, the newest first
unfoldable pub kept_after : PolicyValue → ℕ → List Event → Option Receiving
kept_after policy session [] = Some (fresh session)
kept_after policy session (event ∷ earlier) =
    after (event_step policy (kept_after policy session earlier) event).next
    (kept_after policy session earlier)

unfoldable pub taken : PolicyValue → ℕ → List Event → List RedPiece
taken policy session [] = []
taken policy session (event ∷ earlier) =
    with_event (kept_after policy session earlier) event (taken policy session earlier)

-- ---- the law

-- a session hands up its red part with the event that makes it whole, and with no other
abbrev pub HandsUpOnce : Type 0
HandsUpOnce =
    (policy : PolicyValue) (session : ℕ) (earlier : List Event) (event : Event) (body : List ℕ)
    → ((event_step policy (kept_after policy session earlier) event).up ≡ Some body)
    ↔ BecomesWhole (taken policy session earlier) (taken policy session (event ∷ earlier)) body
