use Rattle.edge_traits.proofs.FaultsLemmas.{NoneFailed-same}
use Rattle.gate_run.proofs.telling.show_if_due.Goals as goal

pub returns-clause-writes : goal.returns-clause-writes
returns-clause-writes g c = NoneFailed-same _

pub returns-clause-stores : goal.returns-clause-stores
returns-clause-stores g c = NoneFailed-same _
