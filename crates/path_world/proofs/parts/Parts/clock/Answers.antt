use Rattle.path_world.proofs.PartLemmas.{clock-if}
use Rattle.path_world.proofs.parts.Parts.clock.Goals as goal

pub returns : goal.returns
returns c =
    clock-if c.args.self.now c.tick_node.new.self c.tick_gate.new.self c.tick_node-2.new.self c.args.now c.in_ok-old.old c.in_ok-gate.gate c.in_ok-new.new c.in_ok-both.field-0 c.both-2.result
    c.requires.whole c.requires.later c.in_ok-old.ensures c.in_ok-gate.ensures c.in_ok-new.ensures c.in_ok-both.ensures c.both-2.ensures
