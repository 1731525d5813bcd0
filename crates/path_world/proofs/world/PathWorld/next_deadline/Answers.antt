use Rattle.std.proofs.Common.{◌∙◌, ap}
use Rattle.path_world.specs.Values.{path_deadline}
use Rattle.path_world.proofs.DrainWearLemmas.{all-ahead, live-stands}
use Rattle.path_world.proofs.WorldLemmas.{live-is}
use Rattle.path_world.proofs.world.PathWorld.next_deadline.Goals as goal

pub returns-clause-ahead : goal.returns-clause-ahead
returns-clause-ahead c =
    all-ahead c.args.self.now c.next_deadline.result
    (live-stands c.self.inside.spent c.self.inside.parts c.args.self.now c.self.view_is c.requires.whole c.self.invariant)
    (c.next_deadline.ensures ∙ ap path_deadline (live-is c.self.inside.spent c.self.inside.parts c.args.self.now c.self.view_is c.requires.whole))
