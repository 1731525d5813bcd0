use Rattle.std.proofs.Common.{◌∙◌, sym, refl, ap}
use Rattle.std.specs.Prelude.{Some}
use Rattle.ltp_segment.specs.PolicyViews.{policy_value}
use Rattle.ltp_receiver.specs.Kept.{receiving_of}
use Rattle.ltp_receiver.proofs.KeptLemmas.{tick-none, tick-early, tick-last, tick-again, did-as, all-did-as}
use Rattle.ltp_receiver.proofs.kept.Kept.tick.Goals as goal

pub returns-in_default-clause-did : goal.returns-in_default-clause-did
returns-in_default-clause-did c =
    did-as c.args.terms.name (receiving_of c.args.self) _ _ (Some c.args.self, c.sending.result)
    (tick-none (policy_value c.args.terms.policy) (receiving_of c.args.self) c.args.now (sym c.timer.ensures ∙ c.in_default.is))
    (record { kept = refl; answer = rw c.new.ensures at c.sending.ensures })

pub returns-then-not-is_due-clause-did : goal.returns-then-not-is_due-clause-did
returns-then-not-is_due-clause-did c =
    did-as c.args.terms.name (receiving_of c.args.self) _ _ (Some c.args.self, c.sending-then-not-is_due.result)
    (tick-early (policy_value c.args.terms.policy) (receiving_of c.args.self) c.args.now c.in-Some.timer
    (sym c.timer.ensures ∙ c.in-Some.is) (sym c.is_due.ensures ∙ c.if-not-is_due.true))
    (record { kept = refl; answer = rw c.new-then-not-is_due.ensures at c.sending-then-not-is_due.ensures })

pub returns-then-not-may_repeat-clause-did : goal.returns-then-not-may_repeat-clause-did
returns-then-not-may_repeat-clause-did c =
    all-did-as c.args.terms.name (receiving_of c.args.self) _ _ c.exhausted.result
    (tick-last (policy_value c.args.terms.policy) (receiving_of c.args.self) c.args.now c.in-Some.timer
    (sym c.timer.ensures ∙ c.in-Some.is) (sym c.is_due.ensures ∙ c.if-not-is_due.false) (sym c.may_repeat.ensures ∙ c.if-not-may_repeat.true))
    c.exhausted.ensures

pub returns-clause-did : goal.returns-clause-did
returns-clause-did c =
    did-as c.args.terms.name (receiving_of c.args.self) _ _ (Some c.with_timer.result, c.sending-2.result)
    (tick-again (policy_value c.args.terms.policy) (receiving_of c.args.self) c.args.now c.in-Some.timer
    (sym c.timer.ensures ∙ c.in-Some.is) (sym c.is_due.ensures ∙ c.if-not-is_due.false) (sym c.may_repeat.ensures ∙ c.if-not-may_repeat.false))
    (record {
      kept = ap Some (rw c.next-next.ensures at c.with_timer.ensures);
      answer = rw c.in_ok-out.ensures at c.sending-2.ensures;
    })
