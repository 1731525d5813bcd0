use Rattle.std.proofs.Common.{None, Some, refl, sym, ap, subst, ◌∙◌}
use Rattle.std.specs.Prelude.{IfOk, OnErr}
use Rattle.ltp_segment.specs.PolicyViews.{policy_value}
use Rattle.ltp_session.specs.declared.timer.Timer.{Timer}
use Rattle.ltp_session.specs.Timer.{is_due, may_repeat, next_timer}
use Rattle.ltp_session.specs.Step.{StepValue, Sends}
use Rattle.ltp_session.specs.Sender.{Sending}
use Rattle.ltp_sender.specs.Kept.{sending_of, with_timer, Did}
use Rattle.ltp_sender.proofs.StepLemmas.{Did-is, sender_tick-sends, OnErr-of, sender_tick-early, sender_tick-again, sender_tick-over}
use Rattle.ltp_sender.proofs.kept.Kept.tick.Goals as goal

pub returns-then-not-is_due-clause-done : goal.returns-then-not-is_due-clause-done
returns-then-not-is_due-clause-done c =
    let s = sending_of c.args.self in
    let early = ap (λ (t : Timer). is_due t c.args.now) (sym c.timer-timer.ensures) ∙ sym c.if-not-is_due.ensures in
    Did-is c.args.terms.name s _ _ (Some c.args.self, c.sending.result)
    (sender_tick-early (policy_value c.args.terms.policy) s c.args.now early)
    (record { kept = refl; answer = c.sending.ensures ∙ ap (λ ds. record { out = ds; up = None; green = None; note = None }) c.new.ensures })

pub returns-then-not-may_repeat-clause-done : goal.returns-then-not-may_repeat-clause-done
returns-then-not-may_repeat-clause-done c =
    let s = sending_of c.args.self in
    let policy = policy_value c.args.terms.policy in
    let due = ap (λ (t : Timer). is_due t c.args.now) (sym c.timer-timer.ensures) ∙ sym c.if-not-is_due.ensures in
    let over = ap (λ (t : Timer). may_repeat policy t) (sym c.timer-timer.ensures) ∙ sym c.if-not-may_repeat.ensures in
    subst (λ (t : StepValue Sending). IfOk c.exhausted.result (Did c.args.terms.name s t))
    (sym (sender_tick-over policy s c.args.now due over)) c.exhausted.ensures.done

pub returns-clause-done : goal.returns-clause-done
returns-clause-done c =
    let s = sending_of c.args.self in
    let policy = policy_value c.args.terms.policy in
    let due = ap (λ (t : Timer). is_due t c.args.now) (sym c.timer-timer.ensures) ∙ sym c.if-not-is_due.ensures in
    let again = ap (λ (t : Timer). may_repeat policy t) (sym c.timer-timer.ensures) ∙ sym c.if-not-may_repeat.ensures in
    Did-is c.args.terms.name s _ _ (Some c.with_timer.result, c.sending-2.result)
    (sender_tick-again policy s c.args.now due again)
    (record {
      kept = ap (λ x. Some x) (c.with_timer.ensures ∙ ap (λ (t : Timer). with_timer s t) (c.next-next.ensures ∙ ap (λ (t : Timer). next_timer policy t c.args.now) c.timer-timer.ensures));
      answer = c.sending-2.ensures ∙ ap (λ ds. record { out = ds; up = None; green = None; note = None }) c.in_ok-out.ensures;
    })

pub returns-in_err-out-clause-wanted : goal.returns-in_err-out-clause-wanted
returns-in_err-out-clause-wanted c =
    let s = sending_of c.args.self in
    let policy = policy_value c.args.terms.policy in
    let due = ap (λ (t : Timer). is_due t c.args.now) (sym c.timer-timer.ensures) ∙ sym c.if-not-is_due.ensures in
    let again = ap (λ (t : Timer). may_repeat policy t) (sym c.timer-timer.ensures) ∙ sym c.if-not-may_repeat.ensures in
    OnErr-of c.from_residual.result _ (sender_tick-sends policy s c.args.now due again)

pub returns-then-not-may_repeat-clause-wanted : goal.returns-then-not-may_repeat-clause-wanted
returns-then-not-may_repeat-clause-wanted c =
    let s = sending_of c.args.self in
    let policy = policy_value c.args.terms.policy in
    let due = ap (λ (t : Timer). is_due t c.args.now) (sym c.timer-timer.ensures) ∙ sym c.if-not-is_due.ensures in
    let over = ap (λ (t : Timer). may_repeat policy t) (sym c.timer-timer.ensures) ∙ sym c.if-not-may_repeat.ensures in
    subst (λ (t : StepValue Sending). OnErr c.exhausted.result (Sends t)) (sym (sender_tick-over policy s c.args.now due over)) c.exhausted.ensures.wanted
