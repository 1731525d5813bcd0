use Rattle.std.proofs.Common.{rules, refl, ◌∙◌, ap, None}
use Rattle.ltp_session.specs.Receiver.{on_report_ack}
use Rattle.ltp_segment.specs.PolicyViews.{policy_value}
use Rattle.ltp_engine.proofs.ChangeLemmas.{whole-kept, receives-kept, receives-absent}
use Rattle.ltp_engine.proofs.InboundLemmas.{acknowledged-touches, ack-silent}
use Rattle.endpoint.proofs.PlacesLemmas.{on_err}
use Rattle.ltp_engine.proofs.WantLemmas.{over-loud}
use Rattle.ltp_engine.proofs.inbound.Inbound.acknowledged.Goals as goal

pub returns-in_default-clause-does : goal.returns-in_default-clause-does
returns-in_default-clause-does c = receives-absent c.args.terms.originator (policy_value c.args.terms.policy) c.args.n (λ p kept. on_report_ack kept c.args.serial)
    c.args.self.now _ c.sending-answer.result c.requires.live (search rules) refl (search rules) refl (search rules)

pub acknowledged-requires : goal.acknowledged-requires
acknowledged-requires c = record { whole = whole-kept c.args.terms.originator (policy_value c.args.terms.policy) c.args.n c.args.self.now.receivers.entries c.in-Some.receiver.now c.requires.live (search rules) }

pub returns-clause-does : goal.returns-clause-does
returns-clause-does c = receives-kept c.args.terms.originator (policy_value c.args.terms.policy) c.args.n (λ p kept. on_report_ack kept c.args.serial)
    c.args.self.now c.finish.new.self (c.get_mut.follows.lender c.acknowledged.new.self).entries c.in-Some.receiver.now c.acknowledged.new.self c.is_over-over.result _ c.sending-answer.result
    c.requires.live (search rules) c.in-Some.ensures.unique c.acknowledged.ensures (c.sending-answer.ensures ∙ (ap (λ out. record { out = out; up = None; green = None; note = None }) c.new.ensures ∙ ack-silent c.in-Some.receiver.now.name.originator c.in-Some.receiver.now.name.number c.in-Some.receiver.now.kept c.args.serial)) c.is_over-over.ensures (λ r is. acknowledged-touches r c.args.serial)
    (search rules) c.in_ok-finish.ensures.receivers c.in_ok-finish.ensures.closed

pub returns-in_err-finish-clause-wanted : goal.returns-in_err-finish-clause-wanted
returns-in_err-finish-clause-wanted c = on_err _ (over-loud c.args.terms.originator (policy_value c.args.terms.policy) c.args.n (λ p kept. on_report_ack kept c.args.serial)
    c.args.self.now c.in-Some.receiver.now c.acknowledged.new.self c.is_over-over.result c.requires.live (search rules) c.acknowledged.ensures c.is_over-over.ensures c.in_err-finish.ensures.wanted)
