use Rattle.std.proofs.Common.{rules, subst, sym, ap, ◌∙◌}
use Rattle.ltp_segment.specs.PolicyViews.{policy_value}
use Rattle.ltp_session.specs.Receiver.{receiver_deadline}
use Rattle.ltp_session.specs.Engine.{earlier}
use Rattle.ltp_engine.specs.Tables.{table_of}
use Rattle.ltp_receiver.specs.Receiver.{deadline_of}
use Rattle.ltp_engine.proofs.TableLemmas.{LeastSoFar, least-start, least-step, least-end}
use Rattle.ltp_engine.proofs.ChangeLemmas.{least-ordered}
use Rattle.ltp_engine.proofs.inbound.Inbound.next_deadline.Goals as goal

pub sessions-init : goal.sessions-init
sessions-init c = (tt, tt, least-start c.args.terms.originator (policy_value c.args.terms.policy) receiver_deadline c.args.self.now.receivers.entries c.into_iter-receiver-iterator.result c.requires (search rules))

pub deadline-requires : goal.deadline-requires
deadline-requires c = record {
  whole = (least-step c.args.terms.originator (policy_value c.args.terms.policy) receiver_deadline (table_of c.args.self.now.receivers.entries) c.in-Some.receiver.now c.next.new.self c.sessions.least
      (subst (λ left. LeastSoFar c.args.terms.originator (policy_value c.args.terms.policy) receiver_deadline (table_of c.args.self.now.receivers.entries) left c.sessions.least) (search rules) c.sessions.invariant.2)).whole;
}

pub sessions-preserved : goal.sessions-preserved
sessions-preserved c =
    let step = least-step c.args.terms.originator (policy_value c.args.terms.policy) receiver_deadline (table_of c.args.self.now.receivers.entries) c.in-Some.receiver.now c.next.new.self c.sessions.least
    (subst (λ left. LeastSoFar c.args.terms.originator (policy_value c.args.terms.policy) receiver_deadline (table_of c.args.self.now.receivers.entries) left c.sessions.least) (search rules) c.sessions.invariant.2) in
    (tt, tt, subst (λ least. LeastSoFar c.args.terms.originator (policy_value c.args.terms.policy) receiver_deadline (table_of c.args.self.now.receivers.entries) c.next.new.self least) (sym (c.earlier-least.ensures ∙ ap (λ d. earlier c.sessions.least d) (c.deadline.ensures ∙ ap (λ kept. deadline_of kept) step.kept))) step.next)

pub returns : goal.returns
returns c = least-ordered c.args.terms.originator (policy_value c.args.terms.policy) c.args.self.now c.sessions.least c.requires c.len-kept.ensures.unique
    (least-end c.args.terms.originator (policy_value c.args.terms.policy) receiver_deadline (table_of c.args.self.now.receivers.entries) c.sessions.least
    (subst (λ left. LeastSoFar c.args.terms.originator (policy_value c.args.terms.policy) receiver_deadline (table_of c.args.self.now.receivers.entries) left c.sessions.least) (search rules) c.sessions.invariant.2))
