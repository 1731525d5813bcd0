use Rattle.std.proofs.Common.{[], length, take, sym, subst}
use Rattle.std.specs.Prelude.{IfOk}
use Rattle.ltp_segment.specs.PolicyViews.{policy_value}
use Rattle.ltp_session.specs.Step.{StepValue}
use Rattle.ltp_session.specs.Sender.{Sending}
use Rattle.ltp_sender.specs.Kept.{sending_of, Did}
use Rattle.ltp_sender.proofs.StepLemmas.{exhausted-open, Sends-is, gives_up-sends, OnErr-of}
use Rattle.ltp_sender.proofs.kept.Kept.exhausted.Goals as goal

pub returns-in-Open-clause-done : goal.returns-in-Open-clause-done
returns-in-Open-clause-done c =
    let s = sending_of c.args.self in
    subst (λ (t : StepValue Sending). IfOk c.give_up.result (Did c.args.terms.name s t))
    (sym (exhausted-open (policy_value c.args.terms.policy) s (length s.block) (take s.red s.block) c.args.self.phase c.in-Open.checkpoint c.in-Open.timer c.args.now c.in-Open.is))
    (c.give_up.ensures s [] c.new-out.ensures)

pub returns-in-Open-clause-wanted : goal.returns-in-Open-clause-wanted
returns-in-Open-clause-wanted c =
    let s = sending_of c.args.self in
    let is = exhausted-open (policy_value c.args.terms.policy) s (length s.block) (take s.red s.block) c.args.self.phase c.in-Open.checkpoint c.in-Open.timer c.args.now c.in-Open.is in
    OnErr-of c.give_up.result _ (Sends-is _ _ is (gives_up-sends (policy_value c.args.terms.policy) s 2 c.args.now []))
