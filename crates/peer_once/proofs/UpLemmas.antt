-- A receiving session whose red part was handed up hands none up again.

use Rattle.std.proofs.Common.{◌≡◌, ℕ, ◌==◌, Bool, true, false, not, ◌&&◌, ◌||◌, if◌then◌else◌, [], ◌∷◌, Option, Some, None, is_some, refl, sym, ◌∙◌, ap, subst}
use Rattle.ltp_segment.specs.Kinds.{is_red, is_checkpoint}
use Rattle.ltp_segment.specs.Policy.{PolicyValue}
use Rattle.ltp_segment.specs.Values.{PieceValue, ContentValue, a_piece, a_report, a_report_ack, a_sender_cancel, a_sender_cancel_ack, a_receiver_cancel, a_receiver_cancel_ack}
use Rattle.ltp_session.specs.Cells.{is_no_part, whole_part}
use Rattle.ltp_session.specs.Claims.{is_whole_claim}
use Rattle.ltp_session.specs.Step.{Change, stays, keeps, ends, after, StepValue, note_refused, note_bad_bounds, note_closed, sending, noting, unreachable, miscoloured, by_system, sent_too_often}
use Rattle.ltp_session.specs.Receiver.{Receiving, ReceivingPhase, receiver_open, receiver_cancelling, fresh, is_cancelling, rejects, is_outside, is_miscoloured, hands_up_green, takes_green, with_red, red_part, with_handed_up, report_of, reports, takes_red, piece_step, settles, acknowledged_in, acknowledged, receiver_due, receiver_tick, piece_for, on_piece, receiver_answers}
use Rattle.ltp_session.specs.Timer.{is_due, may_repeat, next_timer, is_past_serials}
use Rattle.peer_sessions.specs.Sessions.{may_open}
use Rattle.peer_sessions.proofs.AnswerLemmas.{place}

-- it isn't kept, or its red part was handed up
abbrev pub is_quiet : Option Receiving → Bool
is_quiet None = true
is_quiet (Some r) = r.handed_up

-- Once its red part is handed up a session is quiet; and a quiet one hands none up and stays quiet, unless
-- it opens.
pub record Ups (kept : Option Receiving) (opening : Bool) (step : StepValue Receiving) : Type 0 where
  pub once : is_some step.up ≡ true → is_quiet (after step.next kept) ≡ true
  pub rests : is_quiet kept ≡ true → opening ≡ false → (is_some step.up ≡ false) × (is_quiet (after step.next kept) ≡ true)

-- ---- steps by what becomes of the session

differ : {b : Bool} → b ≡ false → b ≡ true → ⊥
differ is also = cc

stays-quiet : (kept : Option Receiving) (opening : Bool) (step : StepValue Receiving) → step.next ≡ stays → step.up ≡ None → Ups kept opening step
stays-quiet kept opening step next none = record {
  once = λ up. absurd (differ (ap (λ u. is_some u) none) up);
  rests = λ quiet _. (ap (λ u. is_some u) none, subst (λ c. is_quiet (after c kept) ≡ true) (sym next) quiet);
}

ends-quiet : (kept : Option Receiving) (opening : Bool) (step : StepValue Receiving) → step.next ≡ ends → step.up ≡ None → Ups kept opening step
ends-quiet kept opening step next none = record {
  once = λ up. absurd (differ (ap (λ u. is_some u) none) up);
  rests = λ quiet _. (ap (λ u. is_some u) none, subst (λ c. is_quiet (after c kept) ≡ true) (sym next) refl);
}

keeps-quiet : (r s : Receiving) (opening : Bool) (step : StepValue Receiving) → step.next ≡ keeps s → s.handed_up ≡ r.handed_up → step.up ≡ None → Ups (Some r) opening step
keeps-quiet r s opening step next same none = record {
  once = λ up. absurd (differ (ap (λ u. is_some u) none) up);
  rests = λ quiet _. (ap (λ u. is_some u) none, subst (λ c. is_quiet (after c (Some r)) ≡ true) (sym next) (same ∙ quiet));
}

-- a red piece was taken: r is the session with its octets
taken-quiet : (r r' s : Receiving) (opening : Bool) (step : StepValue Receiving) → r'.handed_up ≡ r.handed_up → step.next ≡ keeps s → s.handed_up ≡ (r'.handed_up || is_some (red_part r'))
    → step.up ≡ red_part r' → Ups (Some r) opening step
taken-quiet r r' s opening step same next handed up_is = record {
  once = λ up. subst (λ c. is_quiet (after c (Some r)) ≡ true) (sym next) (handed ∙ right r'.handed_up (is_some (red_part r')) (sym (ap (λ u. is_some u) up_is) ∙ up));
  rests = λ quiet _. (
    ap (λ u. is_some u) up_is ∙ none r'.handed_up (same ∙ quiet),
    subst (λ c. is_quiet (after c (Some r)) ≡ true) (sym next) (handed ∙ left r'.handed_up (is_some (red_part r')) (same ∙ quiet)),
  );
} where
  right : (a b : Bool) → b ≡ true → (a || b) ≡ true
  right true b is = refl
  right false b is = is

  left : (a b : Bool) → a ≡ true → (a || b) ≡ true
  left true b is = refl
  left false b is = absurd (cc)

  none : (was : Bool) → was ≡ true → is_some (if was then None else whole_part r'.cells r'.length) ≡ false
  none true is = refl
  none false is = absurd (cc)

-- ---- a piece

taking : (policy : PolicyValue) (r : Receiving) (piece : PieceValue) (now : ℕ) (opening : Bool) → Ups (Some r) opening (takes_red policy (with_red r piece) piece now)
taking policy r piece now opening = by (is_checkpoint piece.kind) (is_past_serials (with_red r piece).serial) where
  by : (checkpoint past : Bool) → Ups (Some r) opening (if checkpoint then (if past then rejects policy (with_handed_up (with_red r piece)) by_system now (red_part (with_red r piece)) else reports policy (with_red r piece) (report_of (with_red r piece) piece) now)
      else record { next = keeps (with_handed_up (with_red r piece)); out = []; up = red_part (with_red r piece); green = None; note = None })
  by true true = taken-quiet r (with_red r piece) _ opening _ refl refl refl refl
  by true false = taken-quiet r (with_red r piece) _ opening _ refl refl refl refl
  by false past = taken-quiet r (with_red r piece) _ opening _ refl refl refl refl

piece-ups : (policy : PolicyValue) (r : Receiving) (piece : PieceValue) (now : ℕ) (opening : Bool) → Ups (Some r) opening (piece_step policy r piece now)
unfolding piece_step
piece-ups policy r piece now opening = by (is_outside r piece) (is_miscoloured r piece) (is_red piece.kind) where
  by : (outside wrong red : Bool) → Ups (Some r) opening (if outside then noting stays [] note_bad_bounds else if wrong then rejects policy r miscoloured now None else if red then takes_red policy (with_red r piece) piece now else takes_green r piece)
  by true wrong red = stays-quiet (Some r) opening _ refl refl
  by false true red = keeps-quiet r _ opening _ refl refl refl
  by false false true = taking policy r piece now opening
  by false false false = keeps-quiet r _ opening _ refl refl refl

-- a red piece opens its session
opening-ups : (n : ℕ) (step : StepValue Receiving) → Ups (Some (fresh n)) true step → Ups None true step
opening-ups n step ups = record { once = λ up. by step.next (ups.once up); rests = λ quiet no. absurd (differ no refl) } where
  by : (c : Change Receiving) → is_quiet (after c (Some (fresh n))) ≡ true → is_quiet (after c None) ≡ true
  by stays is = refl
  by (keeps r) is = is
  by ends is = refl

first-ups : (policy : PolicyValue) (n most : ℕ) (piece : PieceValue) (now : ℕ) (red over : Bool)
    → Ups None (not over && (red && true)) (if not red then hands_up_green stays piece else if over then noting stays [] note_closed else piece_step policy (fresh n) piece now)
first-ups policy n most piece now false over = stays-quiet None _ _ refl refl
first-ups policy n most piece now true true = stays-quiet None _ _ refl refl
first-ups policy n most piece now true false = opening-ups n _ (piece-ups policy (fresh n) piece now true)

on_piece-ups : (policy : PolicyValue) (n most : ℕ) (over : Bool) (kept : Option Receiving) (piece : PieceValue) (now : ℕ)
    → Ups kept (not (is_some kept) && (not over && may_open most (a_piece piece))) (on_piece policy (place n most over) kept piece now)
on_piece-ups policy n most over None piece now = by (piece.service == 1) (is_no_part most piece.offset piece.body) where
  by : (served none : Bool) → Ups None (not over && (is_red piece.kind && (served && not none)))
      (if not served then noting stays (a_receiver_cancel unreachable ∷ []) (note_refused piece.service) else if none then noting stays [] note_bad_bounds else piece_for policy (place n most over) None piece now)
  by false none = stays-quiet None _ _ refl refl
  by true true = stays-quiet None _ _ refl refl
  by true false = first-ups policy n most piece now (is_red piece.kind) over
on_piece-ups policy n most over (Some r) piece now = by (piece.service == 1) (is_no_part most piece.offset piece.body) (is_cancelling r.phase) where
  by : (served none cancelling : Bool) → Ups (Some r) false
      (if not served then noting stays (a_receiver_cancel unreachable ∷ []) (note_refused piece.service) else if none then noting stays [] note_bad_bounds else if cancelling then noting stays [] note_closed else piece_step policy r piece now)
  by false none cancelling = stays-quiet (Some r) false _ refl refl
  by true true cancelling = stays-quiet (Some r) false _ refl refl
  by true false true = stays-quiet (Some r) false _ refl refl
  by true false false = piece-ups policy r piece now false

-- ---- all contents

acknowledged-ups : (r : Receiving) (serial : ℕ) → Ups (Some r) false (acknowledged r serial)
unfolding acknowledged
acknowledged-ups r serial = by r.phase where
  same : Ups (Some r) false (sending (keeps r) [])
  same = keeps-quiet r r false _ refl refl refl

  settled-ups : (whole : Bool) → Ups (Some r) false (if whole then sending ends [] else sending (keeps (record r { phase = receiver_open None })) [])
  settled-ups true = ends-quiet (Some r) false _ refl refl
  settled-ups false = keeps-quiet r _ false _ refl refl refl

  by : (phase : ReceivingPhase) → Ups (Some r) false (acknowledged_in r phase serial)
  by (receiver_open None) = same
  by (receiver_open (Some pending)) = by_serial (pending.report.serial == serial) where
    by_serial : (right : Bool) → Ups (Some r) false (if right then settles r pending.report else sending (keeps r) [])
    by_serial true = settled-ups (is_whole_claim r.length (pending.report).claims)
    by_serial false = same
  by (receiver_cancelling reason timer) = same

got : {X : Type 0} (x : X) {y : X} → Some x ≡ Some y → x ≡ y
got x is = cc

pub answer-ups : (policy : PolicyValue) (n most : ℕ) (over : Bool) (kept : Option Receiving) (content : ContentValue) (now : ℕ) (step : StepValue Receiving)
    → receiver_answers policy (place n most over) kept content now ≡ Some step → Ups kept (not (is_some kept) && (not over && may_open most content)) step
unfolding receiver_answers
answer-ups policy n most over kept (a_piece piece) now step is =
    subst (λ (s : StepValue Receiving). Ups kept (not (is_some kept) && (not over && may_open most (a_piece piece))) s) (got (on_piece policy (place n most over) kept piece now) is) (on_piece-ups policy n most over kept piece now)
answer-ups policy n most over kept (a_report report) now step is = absurd (cc (is))
answer-ups policy n most over None (a_report_ack serial) now step is = subst (λ (s : StepValue Receiving). Ups None (not over && false) s) (got _ is) (stays-quiet None _ _ refl refl)
answer-ups policy n most over (Some r) (a_report_ack serial) now step is = subst (λ (s : StepValue Receiving). Ups (Some r) false s) (got _ is) (acknowledged-ups r serial)
answer-ups policy n most over None (a_sender_cancel reason) now step is = subst (λ (s : StepValue Receiving). Ups None (not over && false) s) (got _ is) (stays-quiet None _ _ refl refl)
answer-ups policy n most over (Some r) (a_sender_cancel reason) now step is = subst (λ (s : StepValue Receiving). Ups (Some r) false s) (got _ is) (ends-quiet (Some r) false _ refl refl)
answer-ups policy n most over kept a_sender_cancel_ack now step is = absurd (cc (is))
answer-ups policy n most over kept (a_receiver_cancel reason) now step is = absurd (cc (is))
answer-ups policy n most over None a_receiver_cancel_ack now step is = subst (λ (s : StepValue Receiving). Ups None (not over && false) s) (got _ is) (stays-quiet None _ _ refl refl)
answer-ups policy n most over (Some r) a_receiver_cancel_ack now step is = subst (λ (s : StepValue Receiving). Ups (Some r) false s) (got _ is) (by (is_cancelling r.phase)) where
  by : (cancelling : Bool) → Ups (Some r) false (if cancelling then sending ends [] else sending stays [])
  by true = ends-quiet (Some r) false _ refl refl
  by false = stays-quiet (Some r) false _ refl refl

-- ---- a tick

pub tick-ups : (policy : PolicyValue) (r : Receiving) (now : ℕ) → Ups (Some r) false (receiver_tick policy r now)
unfolding receiver_tick
tick-ups policy r now = by r.phase where
  by : (phase : ReceivingPhase) → Ups (Some r) false (receiver_due policy r phase now)
  by (receiver_open None) = stays-quiet (Some r) false _ refl refl
  by (receiver_open (Some pending)) = by_due (is_due pending.timer now) (may_repeat policy pending.timer) r.handed_up where
    by_due : (due again up : Bool) → Ups (Some r) false (if due then (if again then sending (keeps (record r { phase = receiver_open (Some (record pending { timer = next_timer policy pending.timer now })) })) (a_report pending.report ∷ []) else if up then sending ends [] else rejects policy r sent_too_often now None) else sending stays [])
    by_due true true up = keeps-quiet r _ false _ refl refl refl
    by_due true false true = ends-quiet (Some r) false _ refl refl
    by_due true false false = keeps-quiet r _ false _ refl refl refl
    by_due false again up = stays-quiet (Some r) false _ refl refl
  by (receiver_cancelling reason timer) = by_due (is_due timer now) (may_repeat policy timer) where
    by_due : (due again : Bool) → Ups (Some r) false (if due then (if again then sending (keeps (record r { phase = receiver_cancelling reason (next_timer policy timer now) })) (a_receiver_cancel reason ∷ []) else sending ends []) else sending stays [])
    by_due true true = keeps-quiet r _ false _ refl refl refl
    by_due true false = ends-quiet (Some r) false _ refl refl
    by_due false again = stays-quiet (Some r) false _ refl refl
