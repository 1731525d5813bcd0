use Rattle.path_world.proofs.PartLemmas.{gate-ticked-if}
use Rattle.path_world.proofs.parts.Parts.tick_gate.Goals as goal

pub returns : goal.returns
returns c =
    gate-ticked-if c.args.self.now c.tick.new.self c.tell_gate.new.self c.in_ok-effects.effects c.tell_gate.result
    c.requires.kept c.in_ok-effects.ensures.done c.in_ok-effects.ensures.bounds c.tell_gate.ensures.kept c.tell_gate.ensures.told
