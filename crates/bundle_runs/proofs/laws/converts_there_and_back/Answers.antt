use Rattle.bundle_runs.proofs.ThereAndBackLemmas.{comes_back6, comes_back7, late_stays_there}
use Rattle.bundle_runs.proofs.laws.converts_there_and_back.Goals as goal

pub returns-clause-six : goal.returns-clause-six
returns-clause-six c = comes_back6

pub returns-clause-seven : goal.returns-clause-seven
returns-clause-seven c = comes_back7

pub returns-clause-late : goal.returns-clause-late
returns-clause-late c = late_stays_there
