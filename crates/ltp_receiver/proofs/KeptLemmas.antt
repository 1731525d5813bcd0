-- The steps of a session.

use Rattle.std.proofs.Common.{◌≡◌, ℕ, ◌^◌, Bool, true, false, List, [], Option, None, Some, refl, sym, ◌∙◌, ap, arith, subst}
use Rattle.std.specs.Prelude.{Result, IfOk}
use Rattle.std.proofs.lemmas.Result.{IfOk-weaker}
use Rattle.std.proofs.lemmas.Bool.Decides.{nat_tests}
use Rattle.ltp_segment.specs.declared.session.Step.{Step}
use Rattle.ltp_segment.specs.Kinds.{is_red, is_checkpoint}
use Rattle.ltp_segment.specs.Policy.{PolicyValue}
use Rattle.ltp_segment.specs.Values.{PieceValue}
use Rattle.ltp_session.specs.declared.name.SessionName.{SessionName}
use Rattle.ltp_session.specs.declared.timer.Timer.{Timer}
use Rattle.ltp_session.specs.Timer.{next_timer, is_due, may_repeat, is_past_serials}
use Rattle.ltp_session.specs.Step.{StepValue, after, keeps, stays, sending, noting, note_bad_bounds, miscoloured, by_system}
use Rattle.ltp_session.specs.Receiver.{Receiving, ReceivingPhase, receiver_open, receiver_cancelling, receiving_timer, acknowledged_in, acknowledged, receiver_due, receiver_tick, is_outside, is_miscoloured, rejects, takes_green, with_red, report_of, red_part, with_handed_up, takes_red, piece_step}
use Rattle.ltp_receiver.specs.declared.kept.Kept.{Kept}
use Rattle.ltp_receiver.specs.Phases.{awaits, awaited, renewed}
use Rattle.ltp_receiver.specs.Kept.{Did, reported, is_claimed, with_timer, exhausted}

-- ---- a report is acknowledged

pub acknowledged-other : (r : Receiving) (serial : ℕ) → awaits r.phase serial ≡ false
    → Some r ≡ after (acknowledged r serial).next (Some r)
unfolding acknowledged
acknowledged-other r serial other = by_phase r.phase other
  where
    by_phase : (phase : ReceivingPhase) → awaits phase serial ≡ false → Some r ≡ after (acknowledged_in r phase serial).next (Some r)
    by_phase (receiver_open None) other = refl
    by_phase (receiver_open (Some pending)) other = rw other refl
    by_phase (receiver_cancelling reason timer) other = refl

pub acknowledged-whole : (r : Receiving) (serial : ℕ) → awaits r.phase serial ≡ true → is_claimed r.length r.phase ≡ true
    → None ≡ after (acknowledged r serial).next (Some r)
unfolding acknowledged
acknowledged-whole r serial named whole = by_phase r.phase named whole
  where
    by_phase : (phase : ReceivingPhase) → awaits phase serial ≡ true → is_claimed r.length phase ≡ true → None ≡ after (acknowledged_in r phase serial).next (Some r)
    by_phase (receiver_open None) named whole = absurd (cc)
    by_phase (receiver_open (Some pending)) named whole = rw (named, whole) refl
    by_phase (receiver_cancelling reason timer) named whole = absurd (cc)

pub acknowledged-part : (r : Receiving) (serial : ℕ) → awaits r.phase serial ≡ true → is_claimed r.length r.phase ≡ false
    → Some (record r { phase = receiver_open None }) ≡ after (acknowledged r serial).next (Some r)
unfolding acknowledged
acknowledged-part r serial named part = by_phase r.phase named part
  where
    by_phase : (phase : ReceivingPhase) → awaits phase serial ≡ true → is_claimed r.length phase ≡ false
        → Some (record r { phase = receiver_open None }) ≡ after (acknowledged_in r phase serial).next (Some r)
    by_phase (receiver_open None) named part = absurd (cc)
    by_phase (receiver_open (Some pending)) named part = rw (named, part) refl
    by_phase (receiver_cancelling reason timer) named part = absurd (cc)

-- ---- a timer is due

pub tick-none : (policy : PolicyValue) (r : Receiving) (now : ℕ) → receiving_timer r.phase ≡ None
    → receiver_tick policy r now ≡ sending stays []
unfolding receiver_tick
tick-none policy r now none = by_phase r.phase none
  where
    by_phase : (phase : ReceivingPhase) → receiving_timer phase ≡ None → receiver_due policy r phase now ≡ sending stays []
    by_phase (receiver_open None) none = refl
    by_phase (receiver_open (Some pending)) none = absurd (cc)
    by_phase (receiver_cancelling reason timer) none = absurd (cc)

pub tick-early : (policy : PolicyValue) (r : Receiving) (now : ℕ) (timer : Timer) → receiving_timer r.phase ≡ Some timer
    → is_due timer now ≡ false → receiver_tick policy r now ≡ sending stays []
unfolding receiver_tick
tick-early policy r now timer is early = by_phase r.phase is
  where
    by_phase : (phase : ReceivingPhase) → receiving_timer phase ≡ Some timer → receiver_due policy r phase now ≡ sending stays []
    by_phase (receiver_open None) is = absurd (cc)
    by_phase (receiver_open (Some pending)) is =
        let same : pending.timer ≡ timer = cc in
        let test : is_due pending.timer now ≡ false = ap (λ (t : Timer). is_due t now) same ∙ early in
        rw test refl
    by_phase (receiver_cancelling reason own) is =
        let same : own ≡ timer = cc in
        let test : is_due own now ≡ false = ap (λ (t : Timer). is_due t now) same ∙ early in
        rw test refl

pub tick-last : (policy : PolicyValue) (r : Receiving) (now : ℕ) (timer : Timer) → receiving_timer r.phase ≡ Some timer
    → is_due timer now ≡ true → may_repeat policy timer ≡ false → receiver_tick policy r now ≡ exhausted policy r r.phase now
unfolding receiver_tick
tick-last policy r now timer is due last = by_phase r.phase is
  where
    by_phase : (phase : ReceivingPhase) → receiving_timer phase ≡ Some timer → receiver_due policy r phase now ≡ exhausted policy r phase now
    by_phase (receiver_open None) is = absurd (cc)
    by_phase (receiver_open (Some pending)) is =
        let same : pending.timer ≡ timer = cc in
        let test : is_due pending.timer now ≡ true = ap (λ (t : Timer). is_due t now) same ∙ due in
        let once : may_repeat policy pending.timer ≡ false = ap (λ (t : Timer). may_repeat policy t) same ∙ last in
        rw (test, once) refl
    by_phase (receiver_cancelling reason own) is =
        let same : own ≡ timer = cc in
        let test : is_due own now ≡ true = ap (λ (t : Timer). is_due t now) same ∙ due in
        let once : may_repeat policy own ≡ false = ap (λ (t : Timer). may_repeat policy t) same ∙ last in
        rw (test, once) refl

pub tick-again : (policy : PolicyValue) (r : Receiving) (now : ℕ) (timer : Timer) → receiving_timer r.phase ≡ Some timer
    → is_due timer now ≡ true → may_repeat policy timer ≡ true
    → receiver_tick policy r now ≡ sending (keeps (with_timer r (next_timer policy timer now))) (awaited r.phase)
unfolding receiver_tick
tick-again policy r now timer is due again = by_phase r.phase is
  where
    by_phase : (phase : ReceivingPhase) → receiving_timer phase ≡ Some timer
        → receiver_due policy r phase now ≡ sending (keeps (record r { phase = renewed phase (next_timer policy timer now) })) (awaited phase)
    by_phase (receiver_open None) is = absurd (cc)
    by_phase (receiver_open (Some pending)) is =
        let same : pending.timer ≡ timer = cc in
        let test : is_due pending.timer now ≡ true = ap (λ (t : Timer). is_due t now) same ∙ due in
        let more : may_repeat policy pending.timer ≡ true = ap (λ (t : Timer). may_repeat policy t) same ∙ again in
        rw (test, more, same) refl
    by_phase (receiver_cancelling reason own) is =
        let same : own ≡ timer = cc in
        let test : is_due own now ≡ true = ap (λ (t : Timer). is_due t now) same ∙ due in
        let more : may_repeat policy own ≡ true = ap (λ (t : Timer). may_repeat policy t) same ∙ again in
        rw (test, more, same) refl

-- ---- a step of a session in place of another's

pub did-moved : (name : SessionName) (r s : Receiving) (step : StepValue Receiving) (result : Option Kept × Step)
    → after step.next (Some r) ≡ after step.next (Some s) → Did name r step result → Did name s step result
did-moved name r s step result same did = record { kept = did.kept ∙ same; answer = did.answer }

-- the same step, put otherwise
pub did-as : (name : SessionName) (r : Receiving) (step other : StepValue Receiving) (result : Option Kept × Step)
    → step ≡ other → Did name r other result → Did name r step result
did-as name r step other result same did = subst (λ (s : StepValue Receiving). Did name r s result) (sym same) did

pub all-did-as : {E : Type 0} (name : SessionName) (r : Receiving) (step other : StepValue Receiving) (result : Result (Option Kept × Step) E)
    → step ≡ other → IfOk result (Did name r other) → IfOk result (Did name r step)
all-did-as name r step other result same did = subst (λ (s : StepValue Receiving). IfOk result (Did name r s)) (sym same) did

pub all-did-moved : {E : Type 0} (name : SessionName) (r s : Receiving) (step : StepValue Receiving) (result : Result (Option Kept × Step) E)
    → after step.next (Some r) ≡ after step.next (Some s) → IfOk result (Did name r step) → IfOk result (Did name s step)
all-did-moved name r s step result same did = IfOk-weaker result (Did name r step) (Did name s step) (λ x. did-moved name r s step x same) did

-- ---- a red piece's octets are there

pub takes_red-kept : (policy : PolicyValue) (r : Receiving) (piece : PieceValue) (now : ℕ) (a b : Option Receiving)
    → after (takes_red policy r piece now).next a ≡ after (takes_red policy r piece now).next b
takes_red-kept policy r piece now a b = by_test (is_checkpoint piece.kind) refl (is_past_serials r.serial) refl
  where
    by_test : (t : Bool) → is_checkpoint piece.kind ≡ t → (u : Bool) → is_past_serials r.serial ≡ u
        → after (takes_red policy r piece now).next a ≡ after (takes_red policy r piece now).next b
    by_test true is true past = rw (is, past) refl
    by_test true is false past = rw (is, past) refl
    by_test false is u past = rw is refl

pub takes_red-plain : (policy : PolicyValue) (r : Receiving) (piece : PieceValue) (now : ℕ) → is_checkpoint piece.kind ≡ false
    → takes_red policy r piece now
    ≡ record { next = keeps (with_handed_up r); out = []; up = red_part r; green = None; note = None }
takes_red-plain policy r piece now plain = rw plain refl

pub takes_red-past : (policy : PolicyValue) (r : Receiving) (piece : PieceValue) (now : ℕ) → is_checkpoint piece.kind ≡ true
    → is_past_serials r.serial ≡ true → takes_red policy r piece now ≡ rejects policy (with_handed_up r) by_system now (red_part r)
takes_red-past policy r piece now asks past = rw (asks, past) refl

pub takes_red-reports : (policy : PolicyValue) (r : Receiving) (piece : PieceValue) (now : ℕ) → is_checkpoint piece.kind ≡ true
    → is_past_serials r.serial ≡ false
    → takes_red policy r piece now ≡ reported policy (with_handed_up r) (report_of (with_handed_up r) piece) now (red_part r)
unfolding report_of
takes_red-reports policy r piece now asks more = rw (asks, more) refl

-- ---- a piece

pub piece-outside : (policy : PolicyValue) (r : Receiving) (piece : PieceValue) (now : ℕ) → is_outside r piece ≡ true
    → piece_step policy r piece now ≡ noting stays [] note_bad_bounds
unfolding piece_step
piece-outside policy r piece now outside = rw outside refl

pub piece-rejected : (policy : PolicyValue) (r : Receiving) (piece : PieceValue) (now : ℕ) → is_outside r piece ≡ false
    → is_miscoloured r piece ≡ true → piece_step policy r piece now ≡ rejects policy r miscoloured now None
unfolding piece_step
piece-rejected policy r piece now inside wrong = rw (inside, wrong) refl

pub piece-red : (policy : PolicyValue) (r : Receiving) (piece : PieceValue) (now : ℕ) → is_outside r piece ≡ false
    → is_miscoloured r piece ≡ false → is_red piece.kind ≡ true
    → piece_step policy r piece now ≡ takes_red policy (with_red r piece) piece now
unfolding piece_step
piece-red policy r piece now inside right red = rw (inside, right, red) refl

pub piece-green : (policy : PolicyValue) (r : Receiving) (piece : PieceValue) (now : ℕ) → is_outside r piece ≡ false
    → is_miscoloured r piece ≡ false → is_red piece.kind ≡ false
    → piece_step policy r piece now ≡ takes_green r piece
unfolding piece_step
piece-green policy r piece now inside right green = rw (inside, right, green) refl

-- ---- what the code did, as the step

pub did-report : {E : Type 0} (name : SessionName) (r s : Receiving) (policy : PolicyValue) (piece : PieceValue) (now : ℕ) (up : Option (List ℕ))
    (result : Result (Option Kept × Step) E)
    → s ≡ with_handed_up r → up ≡ red_part r → is_checkpoint piece.kind ≡ true → is_past_serials r.serial ≡ false
    → IfOk result (Did name s (reported policy s (report_of s piece) now up))
    → IfOk result (Did name r (takes_red policy r piece now))
did-report name r s policy piece now up result handed part asks more did =
    all-did-as name r _ _ result (takes_red-reports policy r piece now asks more)
    (all-did-moved name (with_handed_up r) r _ result refl
    (subst (λ (u : Option (List ℕ)). IfOk result (Did name (with_handed_up r) (reported policy (with_handed_up r) (report_of (with_handed_up r) piece) now u))) part
    (subst (λ (t : Receiving). IfOk result (Did name t (reported policy t (report_of t piece) now up))) handed did)))

pub did-red : {E : Type 0} (name : SessionName) (r s : Receiving) (policy : PolicyValue) (piece : PieceValue) (now : ℕ)
    (result : Result (Option Kept × Step) E)
    → s ≡ with_red r piece → is_outside r piece ≡ false → is_miscoloured r piece ≡ false → is_red piece.kind ≡ true
    → IfOk result (Did name s (takes_red policy s piece now))
    → IfOk result (Did name r (piece_step policy r piece now))
did-red name r s policy piece now result taken inside right red did =
    all-did-as name r _ _ result (piece-red policy r piece now inside right red)
    (all-did-moved name (with_red r piece) r _ result (takes_red-kept policy (with_red r piece) piece now (Some (with_red r piece)) (Some r))
    (subst (λ (t : Receiving). IfOk result (Did name t (takes_red policy t piece now))) taken did))

pub not_past : (r s : Receiving) (n : ℕ) → s ≡ with_handed_up r → n ≡ s.serial → (n ≡ 2 ^ 32 → ⊥) → is_past_serials r.serial ≡ false
not_past r s n handed is other =
    let same : n ≡ r.serial = is ∙ ap (λ (t : Receiving). t.serial) handed in
    let differs : (r.serial ≡ 2 ^ 32 → ⊥) = λ e. other (same ∙ e) in
    grind (arith, nat_tests)
