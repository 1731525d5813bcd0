use Rattle.ltp_world.proofs.WorldLemmas.{deliver-fronts}
use Rattle.ltp_world.proofs.world.LinkWorld.deliver.Goals as goal

pub returns-clause-fronts : goal.returns-clause-fronts
returns-clause-fronts c = deliver-fronts c.args.self.now c.args.k c.in_ok-told.told c.in_ok-told.ensures.done.2
