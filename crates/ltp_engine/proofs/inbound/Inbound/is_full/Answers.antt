use Rattle.std.proofs.Common.{nat_le, ◌+◌, ap, ◌∙◌}
use Rattle.ltp_segment.specs.PolicyViews.{policy_value}
use Rattle.ltp_engine.proofs.InboundLemmas.{kept-are}
use Rattle.ltp_engine.proofs.inbound.Inbound.is_full.Goals as goal

pub returns : goal.returns
returns c = ap (λ most. nat_le most (c.runs.result + c.len.result)) c.from.ensures
    ∙ ap (λ runs. nat_le c.args.terms.now.history (runs + c.len.result)) c.runs.ensures
    ∙ ap (λ kept. nat_le c.args.terms.now.history (c.args.self.now.closed.runs + kept))
    (kept-are c.args.terms.now.originator (policy_value c.args.terms.now.policy) c.args.self.now c.len.result c.requires.live c.len.ensures.unique c.len.ensures.len)
