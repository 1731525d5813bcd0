use Rattle.std.proofs.Common.{rules}
use Rattle.ltp_segment.specs.PolicyViews.{policy_value}
use Rattle.ltp_engine.proofs.InboundLemmas.{sender_cancel-kept, sender_cancel-absent}
use Rattle.endpoint.proofs.PlacesLemmas.{on_err}
use Rattle.ltp_session.specs.Table.{find}
use Rattle.ltp_engine.specs.Inbound.{inbound_of}
use Rattle.ltp_engine.proofs.WantLemmas.{cancel-loud}
use Rattle.ltp_engine.proofs.inbound.Inbound.cancelled.Goals as goal

pub returns-then-not-contains_key-clause-does : goal.returns-then-not-contains_key-clause-does
returns-then-not-contains_key-clause-does c = sender_cancel-absent c.args.terms.originator (policy_value c.args.terms.policy) c.args.n c.args.reason c.args.self.now c.sending.result c.contains_key.result
    c.requires.live c.contains_key.ensures (search rules) (search rules)

pub returns-clause-does : goal.returns-clause-does
returns-clause-does c = sender_cancel-kept c.args.terms.originator (policy_value c.args.terms.policy) c.args.n c.args.reason c.args.self.now c.finish.new.self c.noting.result c.contains_key.result
    c.requires.live c.contains_key.ensures (search rules) c.len-kept.ensures.unique c.in_ok-finish.ensures.receivers c.in_ok-finish.ensures.closed (λ r. search rules)

pub returns-in_err-write_cancel_ack-clause-wanted : goal.returns-in_err-write_cancel_ack-clause-wanted
returns-in_err-write_cancel_ack-clause-wanted c = on_err _ (cancel-loud (find c.args.n (inbound_of c.args.self.now).receivers) c.args.reason)

pub returns-in_err-push-clause-wanted : goal.returns-in_err-push-clause-wanted
returns-in_err-push-clause-wanted c = on_err _ (cancel-loud (find c.args.n (inbound_of c.args.self.now).receivers) c.args.reason)

pub returns-in_err-finish-clause-wanted : goal.returns-in_err-finish-clause-wanted
returns-in_err-finish-clause-wanted c = on_err _ (cancel-loud (find c.args.n (inbound_of c.args.self.now).receivers) c.args.reason)
