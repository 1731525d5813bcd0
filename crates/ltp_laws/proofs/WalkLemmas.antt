-- All ways in which a receiver's step ends, once for all facts on it.

use Rattle.std.proofs.Common.{◌≡◌, ℕ, Bool, true, false, not, ◌==◌, ◌||◌, [], ◌∷◌}
use Rattle.std.proofs.Common.{length, Option, None, Some, refl, nat_lt, nat_le}
use Rattle.std.proofs.lemmas.Bool.{eqb-true}
use Rattle.ltp_segment.specs.Kinds.{is_red, is_checkpoint}
use Rattle.ltp_segment.specs.Policy.{PolicyValue}
use Rattle.ltp_segment.specs.Values.{PieceValue, ContentValue, a_piece, a_report, a_report_ack}
use Rattle.ltp_segment.specs.Values.{a_sender_cancel, a_sender_cancel_ack, a_receiver_cancel}
use Rattle.ltp_segment.specs.Values.{a_receiver_cancel_ack}
use Rattle.ltp_session.specs.Claims.{is_whole_claim}
use Rattle.ltp_session.specs.Receiver.{Receiving, ReceivingPhase, receiver_open}
use Rattle.ltp_session.specs.Receiver.{receiver_cancelling, Pending, Admission, fresh, piece_stop}
use Rattle.ltp_session.specs.Receiver.{is_outside, is_miscoloured, rejects, takes_green, with_red}
use Rattle.ltp_session.specs.Receiver.{red_part, with_handed_up, report_of, reports, piece_step}
use Rattle.ltp_session.specs.Receiver.{acknowledged_in, acknowledged, receiver_due, receiver_tick}
use Rattle.ltp_session.specs.Receiver.{is_cancelling, piece_for, on_piece, hands_up_green}
use Rattle.ltp_session.specs.Receiver.{receiver_answers}
use Rattle.ltp_session.specs.Step.{StepValue, stays, keeps, ends, NoteValue, note_refused}
use Rattle.ltp_session.specs.Step.{note_cancelled, sending, noting}
use Rattle.ltp_session.specs.Timer.{next_timer, is_past_serials}
use Rattle.ltp_session.specs.declared.timer.Timer.{Timer}
use Rattle.ltp_laws.proofs.ListLemmas.{both_arms, by_arms, answered}

-- P holds of all that a piece does to a receiver that isn't cancelling
pub record OnPiece (policy : PolicyValue) (r : Receiving) (q : PieceValue) (now : ℕ)
    (P : StepValue Receiving → Type 0) : Type 0 where
  pub outside : (note : NoteValue) → P (noting stays [] note)
  pub miscoloured : P (rejects policy r 3 now None)
  pub greener : is_red q.kind ≡ false → P (takes_green r q)
  pub filled : is_red q.kind ≡ true → is_checkpoint q.kind ≡ false
      → P (record {
        next = keeps (with_handed_up (with_red r q));
        out = [];
        up = red_part (with_red r q);
        green = None;
        note = None;
      })
  pub serials_out : is_red q.kind ≡ true → is_checkpoint q.kind ≡ true
      → P (rejects policy (with_handed_up (with_red r q)) 4 now (red_part (with_red r q)))
  pub reported : is_red q.kind ≡ true → is_checkpoint q.kind ≡ true
      → is_past_serials r.serial ≡ false → P (reports policy (with_red r q) (report_of (with_red r q) q) now)

pub walk-piece : (policy : PolicyValue) (r : Receiving) (q : PieceValue) (now : ℕ)
    (P : StepValue Receiving → Type 0) → OnPiece policy r q now P → P (piece_step policy r q now)
unfolding piece_step
walk-piece policy r q now P on =
    both_arms P (is_outside r q) _ _ (on.outside _)
    (both_arms P (is_miscoloured r q) _ _ on.miscoloured
    (by_arms P (is_red q.kind) _ _
    (λ red_kind. by_arms P (is_checkpoint q.kind) _ _
    (λ asks. by_arms P (is_past_serials r.serial) _ _ (λ past. on.serials_out red_kind asks)
    (λ more. on.reported red_kind asks more)) (λ plain. on.filled red_kind plain))
    (λ green_kind. on.greener green_kind)))

-- ... of all that a segment does in a session, whose kept receiver, if there is one, is r
pub record OnSegment (policy : PolicyValue) (place : Admission) (kept : Option Receiving)
    (content : ContentValue) (now : ℕ) (P : StepValue Receiving → Type 0) : Type 0 where
  pub rests : (note : Option NoteValue)
      → P (record { next = stays; out = []; up = None; green = None; note = note })
  pub refused_service : (q : PieceValue) → content ≡ a_piece q → (q.service == 1) ≡ false
      → P (noting stays (a_receiver_cancel 1 ∷ []) (note_refused q.service))
  pub echoed : kept ≡ None → P (sending stays (a_sender_cancel_ack ∷ []))
  pub green_alone : (q : PieceValue) → content ≡ a_piece q → kept ≡ None
      → P (hands_up_green stays q)
  pub opened : (q : PieceValue) → content ≡ a_piece q → kept ≡ None → place.closed ≡ false
      → OnPiece policy (fresh place.session) q now P
  pub came : (q : PieceValue) (r : Receiving) → content ≡ a_piece q → kept ≡ Some r
      → is_cancelling r.phase ≡ false → OnPiece policy r q now P
  pub unmoved : (r : Receiving) → kept ≡ Some r → P (sending (keeps r) [])
  pub closed_whole : (r : Receiving) (p : Pending) (serial : ℕ) → kept ≡ Some r
      → r.phase ≡ receiver_open (Some p) → content ≡ a_report_ack serial → p.report.serial ≡ serial
      → is_whole_claim r.length p.report.claims ≡ true
      → P (sending ends [])
  pub dropped : (r : Receiving) (p : Pending) (serial : ℕ) → kept ≡ Some r
      → r.phase ≡ receiver_open (Some p) → content ≡ a_report_ack serial
      → is_whole_claim r.length p.report.claims ≡ false
      → P (sending (keeps (record r { phase = receiver_open None })) [])
  pub called_off : (r : Receiving) (reason : ℕ) → kept ≡ Some r
      → P (noting ends (a_sender_cancel_ack ∷ []) (note_cancelled reason))
  pub answered_off : (r : Receiving) → kept ≡ Some r → is_cancelling r.phase ≡ true
      → P (sending ends [])

not_false : (b : Bool) → not b ≡ true → b ≡ false
not_false true is = absurd (cc)
not_false false is = refl

walk-comes : (policy : PolicyValue) (place : Admission) (kept : Option Receiving) (q : PieceValue)
    (now : ℕ) (P : StepValue Receiving → Type 0) → OnSegment policy place kept (a_piece q) now P
    → P (on_piece policy place kept q now)
walk-comes policy place kept q now P on =
    by_arms P (not (q.service == 1)) _ _ (λ other. on.refused_service q refl
    (not_false (q.service == 1) other))
    (λ right. both_arms P ((length q.body == 0) || nat_lt place.most (piece_stop q)) _ _
    (on.rests _) (by_kept kept refl))
  where
    by_kept : (k : Option Receiving) → kept ≡ k → P (piece_for policy place k q now)
    by_kept None is =
        both_arms P (not (is_red q.kind)) _ _ (on.green_alone q refl is)
        (by_arms P place.closed _ _ (λ closed. on.rests _)
        (λ open_number. both_arms P place.full _ _ (on.rests _)
        (walk-piece policy (fresh place.session) q now P (on.opened q refl is open_number))))
    by_kept (Some r) is =
        by_arms P (is_cancelling r.phase) _ _ (λ rejecting. on.rests _)
        (λ listening. walk-piece policy r q now P (on.came q r refl is listening))

walk-acknowledged : (policy : PolicyValue) (place : Admission) (r : Receiving) (serial now : ℕ)
    (P : StepValue Receiving → Type 0) → OnSegment policy place (Some r) (a_report_ack serial) now
    P → P (acknowledged r serial)
unfolding acknowledged
walk-acknowledged policy place r serial now P on = by_phase r.phase refl
  where
    by_phase : (phase : ReceivingPhase) → r.phase ≡ phase → P (acknowledged_in r phase serial)
    by_phase (receiver_open None) is = on.unmoved r refl
    by_phase (receiver_open (Some p)) is =
        by_arms P (p.report.serial == serial) _ _
        (λ named. by_arms P (is_whole_claim r.length p.report.claims) _ _
        (λ whole. on.closed_whole r p serial refl is refl (eqb-true _ _ named) whole)
        (λ part. on.dropped r p serial refl is refl part))
        (λ another. on.unmoved r refl)
    by_phase (receiver_cancelling reason timer) is = on.unmoved r refl

pub walk-segment : (policy : PolicyValue) (place : Admission) (kept : Option Receiving)
    (content : ContentValue) (now : ℕ) (t : StepValue Receiving) (P : StepValue Receiving → Type 0)
    → receiver_answers policy place kept content now ≡ Some t
    → OnSegment policy place kept content now P → P t
unfolding receiver_answers
walk-segment policy place kept (a_piece q) now t P hears on =
    answered P _ t hears (walk-comes policy place kept q now P on)
walk-segment policy place None (a_report_ack serial) now t P hears on =
    answered P _ t hears (on.rests None)
walk-segment policy place (Some r) (a_report_ack serial) now t P hears on =
    answered P _ t hears (walk-acknowledged policy place r serial now P on)
walk-segment policy place None (a_sender_cancel reason) now t P hears on =
    answered P _ t hears (on.echoed refl)
walk-segment policy place (Some r) (a_sender_cancel reason) now t P hears on =
    answered P _ t hears (on.called_off r reason refl)
walk-segment policy place None a_receiver_cancel_ack now t P hears on =
    answered P _ t hears (on.rests None)
walk-segment policy place (Some r) a_receiver_cancel_ack now t P hears on =
    answered P _ t hears (by_arms P (is_cancelling r.phase) _ _
    (λ rejecting. on.answered_off r refl rejecting) (λ listening. on.rests None))
walk-segment policy place kept (a_report x) now t P hears on = absurd (cc)
walk-segment policy place kept (a_receiver_cancel reason) now t P hears on = absurd (cc)
walk-segment policy place kept a_sender_cancel_ack now t P hears on = absurd (cc)

-- ... of all that a tick does to a receiver
pub record OnTick (policy : PolicyValue) (r : Receiving) (now : ℕ) (P : StepValue Receiving
    → Type 0) : Type 0 where
  pub early : P (sending stays [])
  pub resent : (p : Pending) → r.phase ≡ receiver_open (Some p)
      → P (sending
      (keeps (record r {
        phase = receiver_open
            (Some (record p { timer = next_timer policy p.timer now }));
      })) (a_report p.report ∷ []))
  pub timed_out_handed : (p : Pending) → r.phase ≡ receiver_open (Some p) → r.handed_up ≡ true
      → P (sending ends [])
  pub timed_out : (p : Pending) → r.phase ≡ receiver_open (Some p) → r.handed_up ≡ false
      → P (rejects policy r 2 now None)
  pub recancelled : (reason : ℕ) (timer : Timer) → r.phase ≡ receiver_cancelling reason timer
      → P (sending
      (keeps (record r { phase = receiver_cancelling reason (next_timer policy timer now) }))
      (a_receiver_cancel reason ∷ []))
  pub let_go : (reason : ℕ) (timer : Timer) → r.phase ≡ receiver_cancelling reason timer
      → P (sending ends [])

pub walk-tick : (policy : PolicyValue) (r : Receiving) (now : ℕ) (P : StepValue Receiving → Type 0)
    → OnTick policy r now P → P (receiver_tick policy r now)
unfolding receiver_tick
walk-tick policy r now P on = by_phase r.phase refl
  where
    by_phase : (phase : ReceivingPhase) → r.phase ≡ phase → P (receiver_due policy r phase now)
    by_phase (receiver_open None) is = on.early
    by_phase (receiver_open (Some p)) is =
        both_arms P (nat_le p.timer.deadline now) _ _
        (both_arms P (nat_lt p.timer.times policy.limit) _ _ (on.resent p is)
        (by_arms P r.handed_up _ _ (λ handed. on.timed_out_handed p is handed)
        (λ waiting. on.timed_out p is waiting))) on.early
    by_phase (receiver_cancelling reason timer) is =
        both_arms P (nat_le timer.deadline now) _ _ (both_arms P (nat_lt timer.times policy.limit)
        _ _ (on.recancelled reason timer is) (on.let_go reason timer is)) on.early
