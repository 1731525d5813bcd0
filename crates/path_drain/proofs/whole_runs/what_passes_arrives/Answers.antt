use Rattle.path_drain.proofs.ArrivalLemmas.{passes-arrive}
use Rattle.path_drain.proofs.whole_runs.what_passes_arrives.Goals as goal

pub returns : goal.returns
returns c = passes-arrive
