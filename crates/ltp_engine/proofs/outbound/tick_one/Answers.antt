use Rattle.std.proofs.Common.{rules, refl}
use Rattle.ltp_session.specs.Sender.{on_sender_tick}
use Rattle.ltp_segment.specs.PolicyViews.{policy_value}
use Rattle.ltp_engine.proofs.TableLemmas.{whole-live, does-absent, does-kept}
use Rattle.ltp_engine.proofs.outbound.tick_one.Goals as goal

pub returns-in_default-clause-did : goal.returns-in_default-clause-did
returns-in_default-clause-did c = does-absent c.args.terms.originator (policy_value c.args.terms.policy) c.args.n (λ p kept. on_sender_tick p kept c.args.now)
    c.args.senders.now.entries c.get_mut.follows.lender-at-none.entries c.sending.result c.requires.live (search rules) refl (search rules) (search rules)

pub tick-requires-clause-whole : goal.tick-requires-clause-whole
tick-requires-clause-whole c = whole-live c.args.terms.originator (policy_value c.args.terms.policy) c.args.n c.args.senders.now.entries c.in-Some.sender.now c.requires.live (search rules)

pub returns-clause-did : goal.returns-clause-did
returns-clause-did c = does-kept c.args.terms.originator (policy_value c.args.terms.policy) c.args.n (λ p kept. on_sender_tick p kept c.args.now)
    c.args.senders.now.entries (c.get_mut.follows.lender c.tick.new.self).entries c.sweep.new.senders.entries c.in-Some.sender.now c.tick.new.self c.is_over-over.result c.in_ok-step.step
    c.requires.live (search rules) c.in-Some.ensures.ordered c.in_ok-step.ensures.next c.in_ok-step.ensures.answer c.is_over-over.ensures (search rules) c.sweep.ensures
