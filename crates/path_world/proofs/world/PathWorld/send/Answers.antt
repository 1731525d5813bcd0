use Rattle.path_world.proofs.WorldLemmas.{sends-so}
use Rattle.path_world.proofs.world.PathWorld.send.Goals as goal

pub returns-clause-does : goal.returns-clause-does
returns-clause-does c =
    sends-so c.self.inside.spent c.wants_memory-self-inside.result c.self.inside.parts c.send-result.new.self c.args.self.now c.args.end c.args.bundle.now c.send-result.result c.self.view_is c.requires.whole
    c.send-result.ensures c.wants_memory-self-inside.ensures
