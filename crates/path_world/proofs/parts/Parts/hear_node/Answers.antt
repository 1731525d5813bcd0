use Rattle.path_world.proofs.PartLemmas.{node-heard-if}
use Rattle.path_world.proofs.parts.Parts.hear_node.Goals as goal

pub returns : goal.returns
returns c =
    node-heard-if c.args.end c.args.self.now (c.arrive_at.new.old, c.arrive_at.new.new) c.tell_node.new.self c.args.k c.get.result.now c.as_slice-datagram.result.now c.in_ok-done.done c.tell_node.result
    c.requires.kept c.get.ensures c.as_slice-datagram.ensures c.in_ok-done.ensures c.tell_node.ensures.kept c.tell_node.ensures.told
