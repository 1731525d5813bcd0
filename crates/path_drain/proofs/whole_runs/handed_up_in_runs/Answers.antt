use Rattle.path_drain.proofs.WholeRuns.{handed-in-run}
use Rattle.path_drain.proofs.whole_runs.handed_up_in_runs.Goals as goal

pub returns : goal.returns
returns c = handed-in-run
