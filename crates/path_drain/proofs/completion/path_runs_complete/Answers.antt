use Rattle.path_drain.proofs.LawLemmas.{runs-complete}
use Rattle.path_drain.proofs.completion.path_runs_complete.Goals as goal

pub returns : goal.returns
returns c = runs-complete
