use Rattle.path_drain.proofs.RunLemmas.{go-on}
use Rattle.path_drain.proofs.whole_runs.runs_go_on.Goals as goal

pub returns : goal.returns
returns c = go-on
