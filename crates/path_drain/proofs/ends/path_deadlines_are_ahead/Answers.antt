use Rattle.path_drain.proofs.PathWears.{path-ahead}
use Rattle.path_drain.proofs.ends.path_deadlines_are_ahead.Goals as goal

pub returns : goal.returns
returns c = path-ahead
