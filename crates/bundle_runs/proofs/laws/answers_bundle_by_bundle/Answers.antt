use Rattle.bundle_runs.proofs.LawLemmas.{takes_bundle6, takes_bundle7, stops_at6, stops_at7, ends_inside6, ends_inside7, stops_at_version, ends_after_last}
use Rattle.bundle_runs.proofs.laws.answers_bundle_by_bundle.Goals as goal

pub returns-clause-six : goal.returns-clause-six
returns-clause-six c = takes_bundle6

pub returns-clause-seven : goal.returns-clause-seven
returns-clause-seven c = takes_bundle7

pub returns-clause-refused6 : goal.returns-clause-refused6
returns-clause-refused6 c = stops_at6

pub returns-clause-refused7 : goal.returns-clause-refused7
returns-clause-refused7 c = stops_at7

pub returns-clause-unfinished6 : goal.returns-clause-unfinished6
returns-clause-unfinished6 c = ends_inside6

pub returns-clause-unfinished7 : goal.returns-clause-unfinished7
returns-clause-unfinished7 c = ends_inside7

pub returns-clause-version : goal.returns-clause-version
returns-clause-version c = stops_at_version

pub returns-clause-none_left : goal.returns-clause-none_left
returns-clause-none_left c = ends_after_last
