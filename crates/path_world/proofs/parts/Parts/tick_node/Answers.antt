use Rattle.path_world.proofs.PartLemmas.{node-ticked-if}
use Rattle.path_world.proofs.parts.Parts.tick_node.Goals as goal

pub returns : goal.returns
returns c =
    node-ticked-if c.args.end c.args.self.now (c.tick_at.new.old, c.tick_at.new.new) c.tell_node.new.self c.in_ok-done.done c.tell_node.result
    c.requires.kept c.in_ok-done.ensures c.tell_node.ensures.kept c.tell_node.ensures.told
