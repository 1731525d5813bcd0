use Rattle.std.proofs.Common.{rules}
use Rattle.gateway_core.proofs.DidLemmas.{ticks-nothing}
use Rattle.gateway_core.proofs.gateway.Gateway.tick.Goals as goal

pub returns-then-not-is_due-clause-done : goal.returns-then-not-is_due-clause-done
returns-then-not-is_due-clause-done c = ticks-nothing c.self.inside.parts c.args.self.now c.args.now c.nothing.result (search rules) (c.self.invariant (search rules)) (search rules) c.nothing.ensures
