use Rattle.std.proofs.Common.{refl}
use Rattle.path_world.proofs.CallLemmas.{send-sent}
use Rattle.path_world.proofs.parts.Parts.send.Goals as goal

pub returns : goal.returns
returns c =
    send-sent c.args.end c.args.self.now (record c.args.self.now { old_node = c.submit_at.new.old; new_node = c.submit_at.new.new }) c.tell_node.new.self c.args.bundle.now c.args.self.now.moment
    c.in_ok-effects.effects c.new-joins.result.items c.in_ok-tell_node.field-0 c.requires.whole refl c.in_ok-effects.ensures (record { gate = refl; moment = refl; sent = refl })
    c.in_ok-tell_node.ensures.kept c.new-joins.ensures.items c.in_ok-tell_node.ensures.told
