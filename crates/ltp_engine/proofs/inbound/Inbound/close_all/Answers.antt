use Rattle.std.proofs.Common.{rules, ◌∙◌, sym}
use Rattle.ltp_engine.proofs.ClosedLemmas.{closing-step, closing-end}
use Rattle.ltp_engine.proofs.inbound.Inbound.close_all.Goals as goal

pub closing-preserved : goal.closing-preserved
closing-preserved c =
    let step = closing-step c.closing.ended.items c.pop.new.self.items c.in-Some.n c.closing.self.closed c.close.new.self
    (search rules) c.in_ok-close.ensures.ok c.closing.invariant.2 in
    (c.closing.invariant.0, sym step.closed ∙ c.closing.invariant.1, step.runs)

pub returns-clause-closed : goal.returns-clause-closed
returns-clause-closed c = closing-end c.closing.ended.items c.closing.self.closed _ (search rules) c.closing.invariant.1
