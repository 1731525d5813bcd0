-- One session of a receiver (RFC 5326, section 8.2): each step as a function of the state before
-- it, of what came, and of the moment.
--
-- A piece is what a data segment carries: octets of a block, the offset of the first, and its
-- colour. A place is an offset in the block. A cancel is a cancel segment: CS from the sender of
-- the block, CR from its receiver; CAS and CAR acknowledge them. A note says what happened to
-- whoever runs the engine, and isn't sent. An own rule isn't in the RFC; it says where it departs
-- from that.
--
-- A step keeps a session in a new state, ends it, or leaves it as it is (`stays`). What is kept
-- anew counts as touched, also where nothing of it changed: an engine that has no room for another
-- session ends the one that is longest untouched.
--
-- Not here: asynchronous reports (section 6.11), and timers that wait while the link is closed (6.5
-- and 6.6). A timer starts with the step that sends, and not once its segment leaves (6.3 and
-- 6.15).

use Rattle.std.specs.Prelude.{ℕ, ◌+◌, Bool, true, false, not, ◌==◌, ◌&&◌, ◌||◌, nat_lt, min, List, [], ◌∷◌, Option, None, Some, is_some, if◌then◌else◌}
use Rattle.std.specs.Option.{option_map}
use Rattle.ltp_segment.specs.Kinds.{is_red, is_checkpoint, ends_red_part, ends_block}
use Rattle.ltp_segment.specs.Values.{PieceValue, ReportValue, ContentValue, a_piece, a_report, a_report_ack, a_sender_cancel, a_sender_cancel_ack, a_receiver_cancel, a_receiver_cancel_ack}
use Rattle.ltp_segment.specs.Policy.{PolicyValue}
use Rattle.ltp_session.specs.declared.timer.Timer.{Timer}
use Rattle.ltp_session.specs.Timer.{first_timer, next_timer, is_due, may_repeat, first_serial, is_past_serials}
use Rattle.ltp_session.specs.Cells.{filled, reach_of, stop_of, whole_part, length_after, is_past, is_below, is_misplaced, is_no_part}
use Rattle.ltp_session.specs.Claims.{report_on, is_whole_claim}
use Rattle.ltp_session.specs.Step.{Change, stays, keeps, ends, GreenValue, StepValue, sending, noting, note_failed, note_refused, note_cancelled, note_bad_bounds, note_closed, note_history_full, unreachable, sent_too_often, miscoloured, by_system}

-- a report that isn't acknowledged yet
pub record Pending : Type 0 where
  pub report : ReportValue
  pub timer : Timer

-- An open session has at most one pending report: a new one takes its place. In the RFC each has a
-- timer of its own (sections 6.3 and 6.8; own rule). A cancelling session has sent a cancel for
-- this reason, and waits for its acknowledgement.
pub data ReceivingPhase : Type 0 where
  receiver_open : Option Pending → ReceivingPhase
  receiver_cancelling : ℕ → Timer → ReceivingPhase

-- the red octets that came; the length of the red part, once a piece came that ends it; the lowest
-- offset of the green data that came while the session was kept; whether the red part was handed
-- up; and the serial of the next report, which names no other report of this session
pub record Receiving : Type 0 where
  pub cells : List (Option ℕ)
  pub length : Option ℕ
  pub green : Option ℕ
  pub handed_up : Bool
  pub serial : ℕ
  pub phase : ReceivingPhase

-- a session of which nothing came yet; its first serial is computed from its number, where the RFC
-- wants a random one (section 3.2.2; own rule)
abbrev pub fresh : ℕ → Receiving
fresh session = record {
  cells = [];
  length = None;
  green = None;
  handed_up = false;
  serial = first_serial session;
  phase = receiver_open None;
}

abbrev pub is_cancelling : ReceivingPhase → Bool
is_cancelling (receiver_open pending) = false
is_cancelling (receiver_cancelling reason timer) = true

abbrev pub receiving_timer : ReceivingPhase → Option Timer
receiving_timer (receiver_open None) = None
receiving_timer (receiver_open (Some pending)) = Some pending.timer
receiving_timer (receiver_cancelling reason timer) = Some timer

-- when its timer is due, where one runs
abbrev pub receiver_deadline : Receiving → Option ℕ
receiver_deadline r = option_map (λ timer. timer.deadline) (receiving_timer r.phase)

-- the place after a piece's last octet
abbrev pub piece_stop : PieceValue → ℕ
piece_stop piece = stop_of piece.offset piece.body

-- the session is cancelled (sections 6.15 and 6.19); `up` is the red part, where the same step
-- hands it up
abbrev pub rejects : PolicyValue → Receiving → ℕ → ℕ → Option (List ℕ) → StepValue Receiving
rejects policy r reason now up = record {
  next = keeps (record r { phase = receiver_cancelling reason (first_timer policy now) });
  out = a_receiver_cancel reason ∷ [];
  up = up;
  green = None;
  note = Some (note_failed reason);
}

-- ---- A piece comes to an open session. Rules 1 and 2, in this order, say which pieces are
-- refused. Else a green piece follows rule 3, and a red one rules 4, 5 and 6.

-- 1. A red piece that can't be one of this red part is noted, and no more. Where it is miscoloured
-- too, this rule decides all the same, though the RFC cancels the session (section 6.21; own rule).
abbrev pub is_outside : Receiving → PieceValue → Bool
is_outside r piece = is_red piece.kind
    && is_misplaced (reach_of r.cells) r.length (ends_red_part piece.kind) (piece_stop piece)

-- 2. A miscoloured piece is dropped, and the session cancelled (section 6.21): a red one that stops
-- past the lowest green offset, or a green one that begins below the end of the red octets that
-- came or below the known length. The RFC compares the offsets where pieces begin; here each octet
-- counts (own rule).
abbrev pub is_miscoloured : Receiving → PieceValue → Bool
is_miscoloured r piece =
    if is_red piece.kind then is_past r.green (piece_stop piece)
    else (nat_lt piece.offset (reach_of r.cells) || is_below r.length piece.offset)

-- 3. Green data is handed up at once (section 6.10), and its offset kept where it is the lowest.
abbrev pub lowest : Option ℕ → ℕ → Option ℕ
lowest None offset = Some offset
lowest (Some low) offset = Some (min low offset)

abbrev pub green_of : PieceValue → GreenValue
green_of piece =
    record { offset = piece.offset; last = ends_block piece.kind; body = piece.body }

abbrev pub hands_up_green : Change Receiving → PieceValue → StepValue Receiving
hands_up_green next piece =
    record { next = next; out = []; up = None; green = Some (green_of piece); note = None }

abbrev pub takes_green : Receiving → PieceValue → StepValue Receiving
takes_green r piece =
    hands_up_green (keeps (record r { green = lowest r.green piece.offset })) piece

-- 4. Red data fills empty places only: an octet that came stays. A piece that ends the red part
-- says how long that is.
abbrev pub with_red : Receiving → PieceValue → Receiving
with_red r piece = record r {
  cells = filled r.cells piece.offset piece.body;
  length = length_after r.length (ends_red_part piece.kind) (piece_stop piece);
}

-- 5. Each checkpoint makes one new report (section 6.11). One that comes again does too, where the
-- RFC sends the old report again (section 6.8; own rule). A report's scope is from 0 to the length
-- of the red part, or to the checkpoint's stop while that is unknown. The RFC takes the bounds from
-- the checkpoint and from earlier reports, and may make more reports than one (own rule).
abbrev pub bound_of : Option ℕ → ℕ → ℕ
bound_of None stop = stop
bound_of (Some end) stop = end

unfoldable pub report_of : Receiving → PieceValue → ReportValue
report_of r piece =
    report_on r.serial piece.checkpoint (bound_of r.length (piece_stop piece)) r.cells

-- 6. The red part is handed up once, as soon as its length is known and all of it came (section
-- 6.9). Any red piece may complete it, where the RFC waits for a checkpoint (own rule).
abbrev pub red_part : Receiving → Option (List ℕ)
red_part r = if r.handed_up then None else whole_part r.cells r.length

abbrev pub with_handed_up : Receiving → Receiving
with_handed_up r = record r { handed_up = r.handed_up || is_some (red_part r) }

-- rules 5 and 6: the report has the next serial and is sent; it is pending, in place of an earlier
-- one
abbrev pub reports : PolicyValue → Receiving → ReportValue → ℕ → StepValue Receiving
reports policy r report now = record {
  next = keeps (record (with_handed_up r) {
    serial = r.serial + 1;
    phase = receiver_open (Some (record { report = report; timer = first_timer policy now }));
  });
  out = a_report report ∷ [];
  up = red_part r;
  green = None;
  note = None;
}

-- where no serial is left the session is cancelled (SYS_CNCLD, sections 3.2.4 and 6.22), and a
-- whole red part still goes up
abbrev pub takes_checkpoint : PolicyValue → Receiving → PieceValue → ℕ → StepValue Receiving
takes_checkpoint policy r piece now =
    if is_past_serials r.serial
    then rejects policy (with_handed_up r) by_system now (red_part r)
    else reports policy r (report_of r piece) now

-- rules 5 and 6, once the piece's octets are there
abbrev pub takes_red : PolicyValue → Receiving → PieceValue → ℕ → StepValue Receiving
takes_red policy r piece now =
    if is_checkpoint piece.kind then takes_checkpoint policy r piece now
    else record {
      next = keeps (with_handed_up r);
      out = [];
      up = red_part r;
      green = None;
      note = None;
    }

unfoldable pub piece_step : PolicyValue → Receiving → PieceValue → ℕ → StepValue Receiving
piece_step policy r piece now =
    if is_outside r piece then noting stays [] note_bad_bounds
    else if is_miscoloured r piece then rejects policy r miscoloured now None
    else if is_red piece.kind then takes_red policy (with_red r piece) piece now
    else takes_green r piece

-- ---- a report is acknowledged (sections 6.14 and 6.20)

-- the pending report is pending no more; where it claimed the whole red part the session is closed
-- (own rule: no other report's timer can be left)
abbrev pub settles : Receiving → ReportValue → StepValue Receiving
settles r report =
    if is_whole_claim r.length report.claims then sending ends []
    else sending (keeps (record r { phase = receiver_open None })) []

-- an acknowledgement that names no pending report touches the session and changes nothing
abbrev pub acknowledged_in : Receiving → ReceivingPhase → ℕ → StepValue Receiving
acknowledged_in r (receiver_open None) serial = sending (keeps r) []
acknowledged_in r (receiver_open (Some pending)) serial =
    if pending.report.serial == serial then settles r pending.report else sending (keeps r) []
acknowledged_in r (receiver_cancelling reason timer) serial = sending (keeps r) []

unfoldable pub acknowledged : Receiving → ℕ → StepValue Receiving
acknowledged r serial = acknowledged_in r r.phase serial

-- ---- a timer is due (sections 6.8 and 6.16)

-- A report is sent again. Where it was sent as often as it may be, the session is cancelled (RLEXC,
-- section 6.8). If the red part was handed up, it is closed without a cancel (own rule).
abbrev pub report_due : PolicyValue → Receiving → Pending → ℕ → StepValue Receiving
report_due policy r pending now =
    if may_repeat policy pending.timer
    then
    sending
    (keeps (record r {
      phase = receiver_open (Some (record pending {
        timer = next_timer policy pending.timer now;
      }));
    }))
    (a_report pending.report ∷ [])
    else if r.handed_up then sending ends [] else rejects policy r sent_too_often now None

-- a cancel is sent again; where it was sent as often as it may be, the session is closed
abbrev pub cancel_due : PolicyValue → Receiving → ℕ → Timer → ℕ → StepValue Receiving
cancel_due policy r reason timer now =
    if may_repeat policy timer
    then
    sending
    (keeps (record r { phase = receiver_cancelling reason (next_timer policy timer now) }))
    (a_receiver_cancel reason ∷ [])
    else sending ends []

-- a timer that isn't due does nothing
abbrev pub receiver_due : PolicyValue → Receiving → ReceivingPhase → ℕ → StepValue Receiving
receiver_due policy r (receiver_open None) now = sending stays []
receiver_due policy r (receiver_open (Some pending)) now =
    if is_due pending.timer now then report_due policy r pending now else sending stays []
receiver_due policy r (receiver_cancelling reason timer) now =
    if is_due timer now then cancel_due policy r reason timer now else sending stays []

unfoldable pub receiver_tick : PolicyValue → Receiving → ℕ → StepValue Receiving
receiver_tick policy r now = receiver_due policy r r.phase now

-- ---- what comes, for a session that is kept or not

-- What its engine knows besides: the session's number; the greatest length of a block; and what
-- decides whether a red piece may open the session, which is whether the number is closed, and
-- whether the record of closed numbers has no room for it. Each session that opens needs room
-- there, since it is closed some day.
pub record Admission : Type 0 where
  pub session : ℕ
  pub most : ℕ
  pub closed : Bool
  pub full : Bool

-- A piece of a session that isn't kept: green data is handed up, also where the number is closed,
-- and nothing is remembered of it, so that no later red piece can be miscoloured by it (own rule).
-- Red data opens the session. Where the number is closed, or the record of closed numbers is full,
-- a red piece is noted, and no more (own rule: the RFC has no such record).
abbrev pub first_piece : PolicyValue → Admission → PieceValue → ℕ → StepValue Receiving
first_piece policy admission piece now =
    if not (is_red piece.kind) then hands_up_green stays piece
    else if admission.closed then noting stays [] note_closed
    else if admission.full then noting stays [] note_history_full
    else piece_step policy (fresh admission.session) piece now

-- a piece for a cancelling session is noted as a red one for a closed number is, and no more; a
-- green one isn't handed up either
abbrev pub piece_for :
    PolicyValue → Admission → Option Receiving → PieceValue → ℕ → StepValue Receiving
piece_for policy admission None piece now = first_piece policy admission piece now
piece_for policy admission (Some r) piece now =
    if is_cancelling r.phase then noting stays [] note_closed else piece_step policy r piece now

-- First of all: client service 1 is the Bundle Protocol. A piece for any other is noted, and
-- answered by a cancel (UNREACH, section 3.2.4). That is sent once, without a timer, and a session
-- of that number stays as it is (own rule). A piece that is empty, or stops past the greatest
-- block, is noted, and no more (own rule).
abbrev pub on_piece :
    PolicyValue → Admission → Option Receiving → PieceValue → ℕ → StepValue Receiving
on_piece policy admission kept piece now =
    if not (piece.service == 1)
    then noting stays (a_receiver_cancel unreachable ∷ []) (note_refused piece.service)
    else if is_no_part admission.most piece.offset piece.body then noting stays [] note_bad_bounds
    else piece_for policy admission kept piece now

abbrev pub on_report_ack : Option Receiving → ℕ → StepValue Receiving
on_report_ack None serial = sending stays []
on_report_ack (Some r) serial = acknowledged r serial

-- the sender's cancel is acknowledged, and closes the session where it is kept (section 6.17)
abbrev pub on_sender_cancel : Option Receiving → ℕ → StepValue Receiving
on_sender_cancel None reason = sending stays (a_sender_cancel_ack ∷ [])
on_sender_cancel (Some r) reason =
    noting ends (a_sender_cancel_ack ∷ []) (note_cancelled reason)

-- the acknowledgement of a cancel closes a cancelling session, and does nothing to an open one
-- (section 6.18)
abbrev pub on_receiver_cancel_ack : Option Receiving → StepValue Receiving
on_receiver_cancel_ack None = sending stays []
on_receiver_cancel_ack (Some r) =
    if is_cancelling r.phase then sending ends [] else sending stays []

abbrev pub on_receiver_tick : PolicyValue → Option Receiving → ℕ → StepValue Receiving
on_receiver_tick policy None now = sending stays []
on_receiver_tick policy (Some r) now = receiver_tick policy r now

-- None: what comes is for a sender's session. A step that changes nothing is still some step.
unfoldable pub receiver_answers :
    PolicyValue → Admission → Option Receiving → ContentValue → ℕ → Option (StepValue Receiving)
receiver_answers policy admission kept (a_piece piece) now =
    Some (on_piece policy admission kept piece now)
receiver_answers policy admission kept (a_report report) now = None
receiver_answers policy admission kept (a_report_ack serial) now = Some (on_report_ack kept serial)
receiver_answers policy admission kept (a_sender_cancel reason) now =
    Some (on_sender_cancel kept reason)
receiver_answers policy admission kept a_sender_cancel_ack now = None
receiver_answers policy admission kept (a_receiver_cancel reason) now = None
receiver_answers policy admission kept a_receiver_cancel_ack now =
    Some (on_receiver_cancel_ack kept)
