use Rattle.path_drain.proofs.RunLemmas.{noted-in-runs}
use Rattle.path_drain.proofs.whole_runs.cases_are_noted_in_runs.Goals as goal

pub returns : goal.returns
returns c = noted-in-runs
