use Rattle.edge_traits.proofs.FaultsLemmas.{NoneFailed-same}
use Rattle.gate_run.proofs.TellLemmas.{none-failed}
use Rattle.gate_run.proofs.telling.write_text.Goals as goal

pub returns-then-is_empty-clause-writes : goal.returns-then-is_empty-clause-writes
returns-then-is_empty-clause-writes g c = NoneFailed-same _

pub returns-then-is_empty-clause-stores : goal.returns-then-is_empty-clause-stores
returns-then-is_empty-clause-stores g c = NoneFailed-same _

pub returns-in-Ok-clause-stores : goal.returns-in-Ok-clause-stores
returns-in-Ok-clause-stores g c = none-failed _ _ c.write.ensures.stores

pub returns-in-Err-clause-stores : goal.returns-in-Err-clause-stores
returns-in-Err-clause-stores g c = none-failed _ _ c.write.ensures.stores
