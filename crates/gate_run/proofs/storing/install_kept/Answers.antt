use Rattle.std.proofs.Common.{ℕ, Option}
use Rattle.edge_traits.proofs.FaultsLemmas.{NoneFailed-same}
use Rattle.gate_run.proofs.TellLemmas.{none-failed}
use Rattle.gate_run.proofs.StoreLemmas.{stopped-storing, stopped-unwritten}
use Rattle.gate_run.proofs.storing.install_kept.Goals as goal

pub returns-in_default-clause-writes : goal.returns-in_default-clause-writes
returns-in_default-clause-writes g c = NoneFailed-same _

pub returns-in_default-clause-stores : goal.returns-in_default-clause-stores
returns-in_default-clause-stores g c = NoneFailed-same _

pub returns-in-Ok-clause-writes : goal.returns-in-Ok-clause-writes
returns-in-Ok-clause-writes g c = none-failed _ _ c.install.ensures.writes

pub returns-in-Err-clause-writes : goal.returns-in-Err-clause-writes
returns-in-Err-clause-writes g c =
    stopped-unwritten (Option ℕ) c.in-Err.fault _ _ _ c.of_store.ensures c.install.ensures.writes

pub returns-in-Err-clause-stores : goal.returns-in-Err-clause-stores
returns-in-Err-clause-stores g c =
    stopped-storing ℕ (Option ℕ) c.in-Err.fault _ _ _ c.of_store.ensures c.in-Err.ensures.stores
