use Rattle.std.proofs.Common.{rules, refl, ◌∙◌, ap, subst}
use Rattle.ltp_segment.specs.PolicyViews.{policy_value}
use Rattle.ltp_segment.specs.Views.{piece_value}
use Rattle.ltp_session.specs.Views.{changed, answer_of}
use Rattle.ltp_engine.proofs.ChangeLemmas.{whole-kept, receives-kept}
use Rattle.ltp_engine.proofs.InboundLemmas.{takes-none, takes-next, kept_step, open-step, tells-kept, open-live, takes-cancelling}
use Rattle.endpoint.proofs.PlacesLemmas.{on_err}
use Rattle.ltp_engine.proofs.WantLemmas.{kept-loud, over-next}
use Rattle.ltp_receiver.specs.Quiet.{IsQuietStep}
use Rattle.ltp_engine.proofs.inbound.Inbound.next_piece.Goals as goal

pub returns-in_default-clause-takes : goal.returns-in_default-clause-takes
returns-in_default-clause-takes c = takes-none c.args.terms.originator (policy_value c.args.terms.policy) c.args.n (piece_value c.args.piece.now) c.args.now c.args.self.now _ c.requires.live (search rules) (search rules) refl

pub is_cancelling-requires : goal.is_cancelling-requires
is_cancelling-requires c = record { whole = whole-kept c.args.terms.originator (policy_value c.args.terms.policy) c.args.n c.args.self.now.receivers.entries c.in-Some.receiver.now c.requires.live (search rules) }

pub returns-then-is_cancelling-clause-takes : goal.returns-then-is_cancelling-clause-takes
returns-then-is_cancelling-clause-takes c = takes-cancelling c.args.terms.originator (policy_value c.args.terms.policy) c.args.n (piece_value c.args.piece.now) c.args.now c.args.self.now _ c.in-Some.receiver.now c.noting-answer.result c.requires.live (search rules) c.in-Some.ensures.unique (search rules) (search rules) (search rules) refl

pub piece-requires-clause-whole : goal.piece-requires-clause-whole
piece-requires-clause-whole c = whole-kept c.args.terms.originator (policy_value c.args.terms.policy) c.args.n c.args.self.now.receivers.entries c.in-Some.receiver.now c.requires.live (search rules)

pub piece-requires-clause-open : goal.piece-requires-clause-open
piece-requires-clause-open c = open-live c.args.terms.originator (policy_value c.args.terms.policy) c.args.n c.args.self.now.receivers.entries c.in-Some.receiver.now c.requires.live (search rules) (search rules)

pub returns-clause-takes : goal.returns-clause-takes
returns-clause-takes c = takes-next c.args.terms.originator (policy_value c.args.terms.policy) c.args.n (piece_value c.args.piece.now) c.args.now c.args.self.now c.finish.new.self c.in-Some.receiver.now c.in_ok-step.step c.requires.live (search rules)
    (receives-kept c.args.terms.originator (policy_value c.args.terms.policy) c.args.n (λ p kept. kept_step p kept (piece_value c.args.piece.now) c.args.now)
    c.args.self.now c.finish.new.self (c.get_mut.follows.lender c.piece.new.self).entries c.in-Some.receiver.now c.piece.new.self c.is_over-over.result c.is_taken-taken.result c.in_ok-step.step
    c.requires.live (search rules) c.in-Some.ensures.unique
    (c.in_ok-step.ensures.next ∙ ap (λ s. changed c.in-Some.receiver.now s.next) (open-step c.in-Some.receiver.now.policy c.in-Some.receiver.now.kept (piece_value c.args.piece.now) c.args.now (search rules)))
    (c.in_ok-step.ensures.answer ∙ ap (λ s. answer_of c.in-Some.receiver.now.name s) (open-step c.in-Some.receiver.now.policy c.in-Some.receiver.now.kept (piece_value c.args.piece.now) c.args.now (search rules)))
    c.is_over-over.ensures (tells-kept c.args.terms.originator (policy_value c.args.terms.policy) c.args.n c.in-Some.receiver.now (piece_value c.args.piece.now) c.args.now c.is_taken-taken.result c.in_ok-step.step (search rules) (c.in_ok-step.ensures.answer ∙ ap (λ s. answer_of c.in-Some.receiver.now.name s) (open-step c.in-Some.receiver.now.policy c.in-Some.receiver.now.kept (piece_value c.args.piece.now) c.args.now (search rules))) c.is_taken-taken.ensures)
    (search rules) c.in_ok-finish.ensures.receivers c.in_ok-finish.ensures.closed)

pub returns-in_err-step-clause-wanted : goal.returns-in_err-step-clause-wanted
returns-in_err-step-clause-wanted c = on_err _ (kept-loud c.args.terms.originator (policy_value c.args.terms.policy) c.args.n (piece_value c.args.piece.now) c.args.now c.args.self.now c.in-Some.receiver.now
    c.requires.live (search rules)
    (subst (λ s. IsQuietStep c.in-Some.receiver.now.kept s → ⊥) (open-step c.in-Some.receiver.now.policy c.in-Some.receiver.now.kept (piece_value c.args.piece.now) c.args.now (search rules)) c.in_err-step.ensures.wanted))

pub returns-in_err-finish-clause-wanted : goal.returns-in_err-finish-clause-wanted
returns-in_err-finish-clause-wanted c = on_err _ (over-next c.args.terms.originator (policy_value c.args.terms.policy) c.args.n (piece_value c.args.piece.now) c.args.now c.args.self.now c.in-Some.receiver.now c.piece.new.self c.is_over-over.result
    c.requires.live (search rules)
    (c.in_ok-step.ensures.next ∙ ap (λ s. changed c.in-Some.receiver.now s.next) (open-step c.in-Some.receiver.now.policy c.in-Some.receiver.now.kept (piece_value c.args.piece.now) c.args.now (search rules)))
    c.is_over-over.ensures c.in_err-finish.ensures.wanted)
