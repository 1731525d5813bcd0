use Rattle.std.proofs.Common.{rules, refl}
use Rattle.ltp_session.specs.Sender.{on_sender_cancel_ack}
use Rattle.ltp_segment.specs.PolicyViews.{policy_value}
use Rattle.ltp_engine.proofs.TableLemmas.{whole-live, does-absent, does-kept}
use Rattle.ltp_engine.proofs.outbound.cancel_came.Goals as goal

pub returns-in_default : goal.returns-in_default
returns-in_default c = does-absent c.args.terms.originator (policy_value c.args.terms.policy) c.args.n (λ p kept. on_sender_cancel_ack kept)
    c.args.senders.now.entries c.get_mut.follows.lender-at-none.entries c.sending.result c.requires.live (search rules) refl (search rules) (search rules)

pub cancel_acknowledged-requires : goal.cancel_acknowledged-requires
cancel_acknowledged-requires c = record { whole = whole-live c.args.terms.originator (policy_value c.args.terms.policy) c.args.n c.args.senders.now.entries c.in-Some.sender.now c.requires.live (search rules) }

pub returns : goal.returns
returns c = does-kept c.args.terms.originator (policy_value c.args.terms.policy) c.args.n (λ p kept. on_sender_cancel_ack kept)
    c.args.senders.now.entries (c.get_mut.follows.lender c.cancel_acknowledged.new.self).entries c.sweep.new.senders.entries c.in-Some.sender.now c.cancel_acknowledged.new.self c.is_over-over.result c.sending-2.result
    c.requires.live (search rules) c.in-Some.ensures.ordered c.cancel_acknowledged.ensures (search rules) c.is_over-over.ensures (search rules) c.sweep.ensures
