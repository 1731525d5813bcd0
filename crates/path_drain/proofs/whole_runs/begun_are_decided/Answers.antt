use Rattle.path_drain.proofs.DecidedLemmas.{begun-decided}
use Rattle.path_drain.proofs.whole_runs.begun_are_decided.Goals as goal

pub returns : goal.returns
returns c = begun-decided
