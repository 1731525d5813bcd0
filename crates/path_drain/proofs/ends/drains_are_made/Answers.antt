use Rattle.path_drain.proofs.PathEnds.{drains-are-made}
use Rattle.path_drain.proofs.ends.drains_are_made.Goals as goal

pub returns : goal.returns
returns c = drains-are-made
