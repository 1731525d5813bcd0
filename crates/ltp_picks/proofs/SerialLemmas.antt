-- A step raises the serials of a session by one at most.

use Rattle.std.proofs.Common.{◌≡◌, ℕ, ◌+◌, ◌<◌, ◌≤◌, ◌^◌, Option, None, Some, refl, sym, ◌∙◌}
use Rattle.std.proofs.Common.{ap, arith, subst}
use Rattle.ltp_segment.specs.Policy.{PolicyValue}
use Rattle.ltp_segment.specs.Values.{ContentValue, PieceValue}
use Rattle.ltp_session.specs.Receiver.{Admission, Receiving, receiver_answers}
use Rattle.ltp_session.specs.Sender.{Sending, sender_answers, sender_open}
use Rattle.ltp_session.specs.Step.{StepValue, after}
use Rattle.ltp_session.specs.declared.timer.Timer.{Timer}
use Rattle.ltp_laws.specs.SenderSteps.{SenderStep, continues, leaves, rests, rounds}
use Rattle.ltp_laws.specs.Steps.{ReceiverStep, again, fills, idle, over, reports_on, turns}
use Rattle.ltp_laws.specs.View.{View, receiver_moves, sender_moves}
use Rattle.ltp_laws.proofs.SenderStepLemmas.{Listens, listens-form}
use Rattle.ltp_laws.proofs.StepLemmas.{hears-form, met}
use Rattle.ltp_drain.specs.Calm.{HasSerials}
use Rattle.ltp_drain.proofs.ReceiverDrains.{met-serial}

-- the serial after a receiver's step
step-serial : (content : ContentValue) (session : ℕ) (o : Option Receiving)
    (t : StepValue Receiving) (r' : Receiving) → ReceiverStep content (met session o) t
    → after t.next o ≡ Some r' → r'.serial ≤ (met session o).serial + 1
step-serial content session o t r' (idle next none) kept =
    let here : o ≡ Some r' = subst (λ ch. after ch o ≡ Some r') next kept in
    subst (λ (o : Option Receiving). r'.serial ≤ (met session o).serial + 1) (sym here)
    (omega arith)
step-serial content session o t r' (over next none) kept =
    absurd (let here : None ≡ Some r' = subst (λ ch. after ch o ≡ Some r') next kept in cc)
step-serial content session o t r' (turns r1 next turned none) kept =
    let here : Some r1 ≡ Some r' = subst (λ ch. after ch o ≡ Some r') next kept in
    let one : r1 ≡ r' = cc in
    subst (λ (r : Receiving). r.serial ≤ (met session o).serial + 1) one
    (omega (arith, turned.serial))
step-serial content session o t r' (again p timer pending next out) kept =
    let here = subst (λ ch. after ch o ≡ Some r') next kept in
    let one : (met session o).serial ≡ r'.serial = same-serial (met session o) _ r' refl here in
    omega (arith, one)
  where
    same-serial : (r s r' : Receiving) → s.serial ≡ r.serial → Some s ≡ Some r'
        → r.serial ≡ r'.serial
    same-serial r s r' is both =
        let one : s ≡ r' = cc in sym is ∙ ap (λ (r : Receiving). r.serial) one
step-serial content session o t r' (fills q r1 is_piece red_kind next filling none) kept =
    let here : Some r1 ≡ Some r' = subst (λ ch. after ch o ≡ Some r') next kept in
    let one : r1 ≡ r' = cc in
    subst (λ (r : Receiving). r.serial ≤ (met session o).serial + 1) one
    (omega (arith, filling.serial))
step-serial content session o t r' (reports_on q r1 is_piece red_kind asks next reporting out) kept =
    let here : Some r1 ≡ Some r' = subst (λ ch. after ch o ≡ Some r') next kept in
    let one : r1 ≡ r' = cc in
    subst (λ (r : Receiving). r.serial ≤ (met session o).serial + 1) one
    (omega (arith, reporting.serial))

pub receiver-serials : (policy : PolicyValue) (place : Admission) (v : View) (content : ContentValue)
    (now : ℕ) (t : StepValue Receiving) (n : ℕ)
    → receiver_answers policy place v.receiver content now ≡ Some t
    → HasSerials place.session v (n + 1) → HasSerials place.session (receiver_moves v t) n
receiver-serials policy place v content now t n hears serials = record {
  sender = λ s c timer kept waits. omega (arith, serials.sender s c timer kept waits);
  receiver = λ r' kept. omega (
    arith,
    step-serial content place.session v.receiver t r'
        (hears-form policy place v.receiver content now t hears).form kept,
    met-serial place.session v (n + 1) serials,
  );
  fresh = omega (arith, serials.fresh);
}

-- the serial of the checkpoint after a sender's step
sender-serial : (content : ContentValue) (v : View) (s : Sending) (t : StepValue Sending)
    (s' : Sending) (c : PieceValue) (timer : Timer) (n session : ℕ)
    → v.sender ≡ Some s → HasSerials session v (n + 1) → SenderStep content s t
    → after t.next v.sender ≡ Some s' → s'.phase ≡ sender_open c timer
    → c.checkpoint + n < 2 ^ 32
sender-serial content v s t s' c timer n session is serials (rests next none) kept waits =
    let here : v.sender ≡ Some s' = subst (λ ch. after ch v.sender ≡ Some s') next kept in
    omega (arith, serials.sender s' c timer here waits)
sender-serial content v s t s' c timer n session is serials (leaves next none) kept waits =
    absurd (let here : None ≡ Some s' = subst (λ ch. after ch v.sender ≡ Some s') next kept in cc)
sender-serial content v s t s' c timer n session is serials (continues s1 next on) kept waits =
    let here : Some s1 ≡ Some s' = subst (λ ch. after ch v.sender ≡ Some s') next kept in
    let one : s1 ≡ s' = cc in
    let was = on.waits c timer
    (subst (λ (s : Sending). s.phase ≡ sender_open c timer) (sym one) waits) in
    omega (arith, serials.sender s c was.0 is was.1)
sender-serial content v s t s' c timer n session is serials (rounds s1 next on) kept waits =
    let here : Some s1 ≡ Some s' = subst (λ ch. after ch v.sender ≡ Some s') next kept in
    let one : s1 ≡ s' = cc in
    let both : sender_open _ on.timer' ≡ sender_open c timer =
    sym on.waits ∙ ap (λ (s : Sending). s.phase) one ∙ waits in
    let serial : on.c.checkpoint + 1 ≡ c.checkpoint = named _ c on.timer' timer both in
    omega (arith, serials.sender s on.c on.timer is on.waited, serial)
  where
    named : (p c : PieceValue) (a b : Timer) → sender_open p a ≡ sender_open c b
        → p.checkpoint ≡ c.checkpoint
    named p c a b both = let one : p ≡ c = cc in ap (λ (p : PieceValue). p.checkpoint) one

pub sender-serials : (policy : PolicyValue) (session : ℕ) (v : View) (content : ContentValue)
    (now : ℕ) (t : StepValue Sending) (n : ℕ)
    → sender_answers policy v.sender content now ≡ Some t
    → HasSerials session v (n + 1) → HasSerials session (sender_moves v t) n
sender-serials policy session v content now t n hears serials = record {
  sender = by_kept v.sender refl (listens-form policy v.sender content now t hears);
  receiver = λ r kept. omega (arith, serials.receiver r kept);
  fresh = omega (arith, serials.fresh);
}
  where
    by_kept : (o : Option Sending) → v.sender ≡ o → Listens content o t
        → (s' : Sending) (c : PieceValue) (timer : Timer) → after t.next v.sender ≡ Some s'
        → s'.phase ≡ sender_open c timer → c.checkpoint + n < 2 ^ 32
    by_kept None is listens s' c timer kept waits = absurd (
        let same : v.sender ≡ Some s' =
        subst (λ ch. after ch v.sender ≡ Some s') (listens.none refl).0 kept in cc)
    by_kept (Some s) is listens s' c timer kept waits =
        sender-serial content v s t s' c timer n session is serials (listens.form s refl) kept waits
