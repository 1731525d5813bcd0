use Rattle.ltp_world.proofs.DrainLemmas.{drain-ends, drain-stops, drain-completes}
use Rattle.ltp_world.proofs.DrainFrontLemmas.{drain-fronts}
use Rattle.ltp_world.proofs.world.LinkWorld.drain.Goals as goal

pub returns-in-Ok-clause-does : goal.returns-in-Ok-clause-does
returns-in-Ok-clause-does c =
    drain-ends c.args.self.now c.drain_from.new.self c.sent-from.result c.new-steps.result.items c.drain_from.new.steps.items c.drained.result c.in-Ok.ensures.does
    c.sent-from.ensures c.new-steps.ensures.items c.drained.ensures.effects c.drained.ensures.events

pub returns-in-Ok-clause-fronts : goal.returns-in-Ok-clause-fronts
returns-in-Ok-clause-fronts c = drain-fronts c.args.self.now c.drain_from.new.self c.drained.result (returns-in-Ok-clause-does c)

pub returns-in-Ok-clause-completes : goal.returns-in-Ok-clause-completes
returns-in-Ok-clause-completes c = drain-completes c.args.self.now c.drain_from.new.self c.drained.result (returns-in-Ok-clause-does c)

pub returns-in-Err-clause-does : goal.returns-in-Err-clause-does
returns-in-Err-clause-does c =
    drain-stops c.args.self.now c.drain_from.new.self c.sent-from.result c.new-steps.result.items c.drain_from.new.steps.items c.in-Err.refused c.in-Err.ensures.does
    c.sent-from.ensures c.new-steps.ensures.items
