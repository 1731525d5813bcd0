use Rattle.path_drain.proofs.TimedLemmas.{paths-are-timed}
use Rattle.path_drain.proofs.ends.paths_are_timed.Goals as goal

pub returns : goal.returns
returns c = paths-are-timed
