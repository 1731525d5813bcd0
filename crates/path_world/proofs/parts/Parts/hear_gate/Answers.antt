use Rattle.path_world.proofs.PartLemmas.{gate-heard-if}
use Rattle.path_world.proofs.parts.Parts.hear_gate.Goals as goal

pub returns : goal.returns
returns c =
    gate-heard-if c.args.face c.args.self.now c.arrive.new.self c.tell_gate.new.self c.args.k c.get.result.now c.as_slice-datagram.result.now c.in_ok-effects.effects c.tell_gate.result
    c.requires.kept c.get.ensures c.as_slice-datagram.ensures c.in_ok-effects.ensures.done c.in_ok-effects.ensures.bounds c.tell_gate.ensures.kept c.tell_gate.ensures.told
