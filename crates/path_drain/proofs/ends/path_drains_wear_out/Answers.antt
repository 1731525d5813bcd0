use Rattle.path_drain.proofs.PathWears.{path-drains-wear-out}
use Rattle.path_drain.proofs.ends.path_drains_wear_out.Goals as goal

pub returns : goal.returns
returns c = path-drains-wear-out
