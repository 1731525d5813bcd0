use Rattle.path_drain.proofs.WholeRuns.{whole-runs}
use Rattle.path_drain.proofs.whole_runs.whole_runs_complete.Goals as goal

pub returns : goal.returns
returns c = whole-runs
