use Rattle.std.proofs.Common.{refl}
use Rattle.status_reports.specs.Pairing.{shared_of6, report6_of}
use Rattle.status_reports.proofs.PairLemmas.{pair6-there, pair6-back}
use Rattle.status_reports.proofs.laws.reports_pair_off.Goals as goal

pub returns-clause-from6 : goal.returns-clause-from6
returns-clause-from6 c = λ old bare is may. pair6-there old bare (shared_of6 old bare) is may refl

pub returns-clause-to6 : goal.returns-clause-to6
returns-clause-to6 c = λ shared is. pair6-back shared (report6_of shared) is refl

pub returns-clause-from7 : goal.returns-clause-from7
returns-clause-from7 c = λ new rests. record { there = refl; back = refl; parts = refl }

pub returns-clause-to7 : goal.returns-clause-to7
returns-clause-to7 c = λ shared. record { there = refl; back = refl; parts = refl }
