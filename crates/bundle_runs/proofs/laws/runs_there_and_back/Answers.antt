use Rattle.bundle_runs.proofs.ThereAndBackLemmas.{runs_back6, runs_back7}
use Rattle.bundle_runs.proofs.laws.runs_there_and_back.Goals as goal

pub returns-clause-six : goal.returns-clause-six
returns-clause-six c = runs_back6

pub returns-clause-seven : goal.returns-clause-seven
returns-clause-seven c = runs_back7
