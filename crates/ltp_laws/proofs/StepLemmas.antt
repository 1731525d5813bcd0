-- Each step of a receiver has one of a few forms.

use Rattle.std.proofs.Common.{◌≡◌, ℕ, true, false, not, ◌==◌, ◌||◌, [], ◌∷◌, length}
use Rattle.std.proofs.Common.{Option, None, Some, ◌⊎◌, inl, inr, refl, ap, nat_lt, nat_le}
use Rattle.ltp_segment.specs.Kinds.{is_red, is_checkpoint}
use Rattle.ltp_segment.specs.Policy.{PolicyValue}
use Rattle.ltp_segment.specs.Values.{PieceValue, ContentValue, a_piece, a_report, a_report_ack}
use Rattle.ltp_segment.specs.Values.{a_sender_cancel, a_sender_cancel_ack, a_receiver_cancel}
use Rattle.ltp_segment.specs.Values.{a_receiver_cancel_ack}
use Rattle.ltp_session.specs.Claims.{is_whole_claim}
use Rattle.ltp_session.specs.Receiver.{Receiving, ReceivingPhase, receiver_open}
use Rattle.ltp_session.specs.Receiver.{receiver_cancelling, Admission, fresh, piece_stop, is_outside}
use Rattle.ltp_session.specs.Receiver.{is_miscoloured, with_red, takes_red, piece_step}
use Rattle.ltp_session.specs.Receiver.{acknowledged_in, acknowledged, receiver_due, receiver_tick}
use Rattle.ltp_session.specs.Receiver.{is_cancelling, piece_for, on_piece, receiver_answers}
use Rattle.ltp_session.specs.Step.{StepValue, stays}
use Rattle.ltp_session.specs.Timer.{next_timer, first_timer, is_past_serials}
use Rattle.ltp_laws.specs.Serials.{pending_of, NoReports}
use Rattle.ltp_laws.specs.Steps.{Turns, ReceiverStep, idle, over, turns, again, fills, reports_on}
use Rattle.ltp_laws.proofs.ListLemmas.{both_arms, by_arms, answered}

none-none : NoReports []
none-none x among = among

none-cancel : (reason : ℕ) → NoReports (a_receiver_cancel reason ∷ [])
none-cancel reason x (inl here) = cc
none-cancel reason x (inr none) = none

none-ack : NoReports (a_sender_cancel_ack ∷ [])
none-ack x (inl here) = cc
none-ack x (inr none) = none

turns_self : (r : Receiving) → Turns r r
turns_self r = record {
  cells = refl;
  known = refl;
  handed = refl;
  serial = refl;
  pending = inl refl;
}

pub piece-form : (policy : PolicyValue) (r : Receiving) (q : PieceValue) (now : ℕ)
    → ReceiverStep (a_piece q) r (piece_step policy r q now)
unfolding piece_step
piece-form policy r q now =
    both_arms Form (is_outside r q) _ _ (idle refl none-none)
    (both_arms Form (is_miscoloured r q) _ _
    (turns _ refl (record {
      cells = refl;
      known = refl;
      handed = refl;
      serial = refl;
      pending = inr refl;
    }) (none-cancel 3))
    (by_arms Form (is_red q.kind) _ _ takes
    (λ green_kind. turns _ refl (record {
      cells = refl;
      known = refl;
      handed = refl;
      serial = refl;
      pending = inl refl;
    }) none-none)))
  where
    Form : StepValue Receiving → Type 0
    Form = ReceiverStep (a_piece q) r

    takes : is_red q.kind ≡ true → Form (takes_red policy (with_red r q) q now)
    takes red_kind =
        by_arms Form (is_checkpoint q.kind) _ _
        (λ checkpoint. both_arms Form (is_past_serials r.serial) _ _
        (fills q _ refl red_kind refl (record {
          cells = refl;
          known = refl;
          handed = refl;
          serial = refl;
          pending = inr refl;
        }) (none-cancel 4))
        (reports_on q _ refl red_kind checkpoint refl (record {
          cells = refl;
          known = refl;
          handed = refl;
          serial = refl;
          timer = first_timer policy now;
          pending = refl;
        }) refl))
        (λ plain. fills q _ refl red_kind refl (record {
          cells = refl;
          known = refl;
          handed = refl;
          serial = refl;
          pending = inl refl;
        }) none-none)

acknowledged-form : (r : Receiving) (serial : ℕ) → ReceiverStep (a_report_ack serial) r
    (acknowledged r serial)
unfolding acknowledged
acknowledged-form r serial = by_phase r.phase
  where
    by_phase : (phase : ReceivingPhase) → ReceiverStep (a_report_ack serial) r
        (acknowledged_in r phase serial)
    by_phase (receiver_open None) = turns r refl (turns_self r) none-none
    by_phase (receiver_open (Some pending)) =
        both_arms (ReceiverStep (a_report_ack serial) r) (pending.report.serial == serial) _ _
        (both_arms (ReceiverStep (a_report_ack serial) r)
        (is_whole_claim r.length pending.report.claims) _ _ (over refl none-none)
        (turns _ refl (record {
          cells = refl;
          known = refl;
          handed = refl;
          serial = refl;
          pending = inr refl;
        }) none-none))
        (turns r refl (turns_self r) none-none)
    by_phase (receiver_cancelling reason timer) = turns r refl (turns_self r) none-none

pub tick-form : (content : ContentValue) (policy : PolicyValue) (now : ℕ) (r : Receiving)
    → ReceiverStep content r (receiver_tick policy r now)
unfolding receiver_tick
tick-form content policy now r = by_phase r.phase refl
  where
    Form : StepValue Receiving → Type 0
    Form = ReceiverStep content r

    by_phase : (phase : ReceivingPhase) → r.phase ≡ phase → Form (receiver_due policy r phase now)
    by_phase (receiver_open None) is = idle refl none-none
    by_phase (receiver_open (Some pending)) is =
        both_arms Form (nat_le pending.timer.deadline now) _ _
        (both_arms Form (nat_lt pending.timer.times policy.limit) _ _
        (again pending (next_timer policy pending.timer now) (ap pending_of is) refl refl)
        (both_arms Form r.handed_up _ _ (over refl none-none)
        (turns _ refl (record {
          cells = refl;
          known = refl;
          handed = refl;
          serial = refl;
          pending = inr refl;
        }) (none-cancel 2))))
        (idle refl none-none)
    by_phase (receiver_cancelling reason timer) is =
        both_arms Form (nat_le timer.deadline now) _ _
        (both_arms Form (nat_lt timer.times policy.limit) _ _
        (turns _ refl (record {
          cells = refl;
          known = refl;
          handed = refl;
          serial = refl;
          pending = inr refl;
        }) (none-cancel reason))
        (over refl none-none))
        (idle refl none-none)

-- the receiver that a segment meets: the kept one, or a fresh one
abbrev pub met : ℕ → Option Receiving → Receiving
met session None = fresh session
met session (Some r) = r

-- a segment that a session of which nothing is kept only opens with an open number
pub record Hears (content : ContentValue) (place : Admission) (kept : Option Receiving)
    (t : StepValue Receiving) : Type 0 where
  pub form : ReceiverStep content (met place.session kept) t
  pub opens : kept ≡ None → (t.next ≡ stays) ⊎ (place.closed ≡ false)

hears-idle : (content : ContentValue) (place : Admission) (kept : Option Receiving)
    (t : StepValue Receiving) → t.next ≡ stays → NoReports t.out → Hears content place kept t
hears-idle content place kept t is none = record { form = idle is none; opens = λ h. inl is }

on_piece-form : (policy : PolicyValue) (place : Admission) (kept : Option Receiving) (q : PieceValue)
    (now : ℕ) → Hears (a_piece q) place kept (on_piece policy place kept q now)
on_piece-form policy place kept q now =
    both_arms (Hears (a_piece q) place kept) (not (q.service == 1)) _ _
    (hears-idle (a_piece q) place kept _ refl (none-cancel 1))
    (both_arms (Hears (a_piece q) place kept) ((length q.body == 0) || nat_lt place.most
    (piece_stop q)) _ _ (hears-idle (a_piece q) place kept _ refl none-none) (by_kept kept))
  where
    by_kept : (kept : Option Receiving)
        → Hears (a_piece q) place kept (piece_for policy place kept q now)
    by_kept None =
        both_arms (Hears (a_piece q) place None) (not (is_red q.kind)) _ _
        (hears-idle (a_piece q) place None _ refl none-none)
        (by_arms (Hears (a_piece q) place None) place.closed _ _
        (λ closed. hears-idle (a_piece q) place None _ refl none-none)
        (λ open_number. both_arms (Hears (a_piece q) place None) place.full _ _
        (hears-idle (a_piece q) place None _ refl none-none)
        (record {
          form = piece-form policy (fresh place.session) q now;
          opens = λ h.
              inr open_number;
        })))
    by_kept (Some r) =
        both_arms (Hears (a_piece q) place (Some r)) (is_cancelling r.phase) _ _
        (hears-idle (a_piece q) place (Some r) _ refl none-none)
        (record { form = piece-form policy r q now; opens = λ h. absurd (cc) })

pub hears-form : (policy : PolicyValue) (place : Admission) (kept : Option Receiving)
    (content : ContentValue) (now : ℕ) (t : StepValue Receiving)
    → receiver_answers policy place kept content now ≡ Some t → Hears content place kept t
unfolding receiver_answers
hears-form policy place kept (a_piece q) now t hears =
    answered (Hears (a_piece q) place kept) _ t hears (on_piece-form policy place kept q now)
hears-form policy place None (a_report_ack serial) now t hears =
    answered (Hears (a_report_ack serial) place None) _ t hears
    (hears-idle _ place None _ refl none-none)
hears-form policy place (Some r) (a_report_ack serial) now t hears =
    answered (Hears (a_report_ack serial) place (Some r)) _ t hears
    (record { form = acknowledged-form r serial; opens = λ h. absurd (cc) })
hears-form policy place None (a_sender_cancel reason) now t hears =
    answered (Hears (a_sender_cancel reason) place None) _ t hears
    (hears-idle _ place None _ refl none-ack)
hears-form policy place (Some r) (a_sender_cancel reason) now t hears =
    answered (Hears (a_sender_cancel reason) place (Some r)) _ t hears
    (record { form = over refl none-ack; opens = λ h. absurd (cc) })
hears-form policy place None a_receiver_cancel_ack now t hears =
    answered (Hears a_receiver_cancel_ack place None) _ t hears
    (hears-idle _ place None _ refl none-none)
hears-form policy place (Some r) a_receiver_cancel_ack now t hears =
    answered (Hears a_receiver_cancel_ack place (Some r)) _ t hears
    (both_arms (Hears a_receiver_cancel_ack place (Some r)) (is_cancelling r.phase) _ _
    (record { form = over refl none-none; opens = λ h. absurd (cc) })
    (hears-idle _ place (Some r) _ refl none-none))
hears-form policy place kept (a_report r) now t hears = absurd (cc)
hears-form policy place kept (a_receiver_cancel reason) now t hears = absurd (cc)
hears-form policy place kept a_sender_cancel_ack now t hears = absurd (cc)
