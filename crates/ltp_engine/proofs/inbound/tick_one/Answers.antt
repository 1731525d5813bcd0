use Rattle.std.proofs.Common.{rules, refl}
use Rattle.ltp_session.specs.Receiver.{on_receiver_tick}
use Rattle.ltp_segment.specs.PolicyViews.{policy_value}
use Rattle.ltp_engine.proofs.ChangeLemmas.{whole-kept, turned-kept, turned-absent, over-kept, over-absent}
use Rattle.ltp_engine.proofs.inbound.tick_one.Goals as goal

pub returns-in_default-clause-did : goal.returns-in_default-clause-did
returns-in_default-clause-did c = turned-absent c.args.terms.originator (policy_value c.args.terms.policy) c.args.n (λ p kept. on_receiver_tick p kept c.args.now)
    c.args.receivers.now.entries c.get_mut.follows.lender-at-none.entries c.sending.result c.requires.live (search rules) refl (search rules) (search rules)

pub tick-requires-clause-whole : goal.tick-requires-clause-whole
tick-requires-clause-whole c = whole-kept c.args.terms.originator (policy_value c.args.terms.policy) c.args.n c.args.receivers.now.entries c.in-Some.receiver.now c.requires.live (search rules)

pub returns-clause-did : goal.returns-clause-did
returns-clause-did c = turned-kept c.args.terms.originator (policy_value c.args.terms.policy) c.args.n (λ p kept. on_receiver_tick p kept c.args.now)
    c.args.receivers.now.entries (c.get_mut.follows.lender c.tick.new.self).entries c.sweep.new.receivers.entries c.in-Some.receiver.now c.tick.new.self c.is_over-over.result c.in_ok-step.step
    c.requires.live (search rules) c.in-Some.ensures.unique c.in_ok-step.ensures.next c.in_ok-step.ensures.answer c.is_over-over.ensures (search rules) c.sweep.ensures

pub returns-in_default-clause-over : goal.returns-in_default-clause-over
returns-in_default-clause-over c = over-absent c.args.terms.originator (policy_value c.args.terms.policy) c.args.n (λ p kept. on_receiver_tick p kept c.args.now)
    c.args.receivers.now.entries c.requires.live (search rules) refl

pub returns-clause-over : goal.returns-clause-over
returns-clause-over c = over-kept c.args.terms.originator (policy_value c.args.terms.policy) c.args.n (λ p kept. on_receiver_tick p kept c.args.now)
    c.args.receivers.now.entries c.in-Some.receiver.now c.tick.new.self c.is_over-over.result c.requires.live (search rules) c.in_ok-step.ensures.next c.is_over-over.ensures
