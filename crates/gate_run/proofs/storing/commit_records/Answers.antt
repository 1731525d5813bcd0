use Rattle.std.proofs.Common.{rules, refl, ℕ}
use Rattle.edge_traits.proofs.FaultsLemmas.{NoneFailed-same}
use Rattle.gate_run.proofs.TellLemmas.{none-failed, stops-unwritten, stops-unstored}
use Rattle.gate_run.proofs.StoreLemmas.{stopped-storing, stopped-unwritten}
use Rattle.gate_run.proofs.storing.commit_records.Goals as goal

pub returns-then-not-has_records-clause-writes : goal.returns-then-not-has_records-clause-writes
returns-then-not-has_records-clause-writes g c = NoneFailed-same _

pub returns-then-not-has_records-clause-stores : goal.returns-then-not-has_records-clause-stores
returns-then-not-has_records-clause-stores g c = NoneFailed-same _

pub returns-in_err-records-clause-writes : goal.returns-in_err-records-clause-writes
returns-in_err-records-clause-writes g c = stops-unwritten c.from_residual.result _ _ (search rules) refl

pub returns-in_err-records-clause-stores : goal.returns-in_err-records-clause-stores
returns-in_err-records-clause-stores g c = stops-unstored c.from_residual.result _ _ (search rules) refl

pub returns-in-Ok-clause-writes : goal.returns-in-Ok-clause-writes
returns-in-Ok-clause-writes g c = none-failed _ _ c.commit.ensures.writes

pub returns-clause-writes : goal.returns-clause-writes
returns-clause-writes g c =
    stopped-unwritten ℕ c.in-Err.fault _ _ _ c.of_store.ensures c.commit.ensures.writes

pub returns-clause-stores : goal.returns-clause-stores
returns-clause-stores g c =
    stopped-storing ℕ ℕ c.in-Err.fault _ _ _ c.of_store.ensures c.in-Err.ensures.stores
