use Rattle.path_drain.proofs.LawLemmas.{runs-end}
use Rattle.path_drain.proofs.completion.path_runs_end.Goals as goal

pub returns : goal.returns
returns c = runs-end
