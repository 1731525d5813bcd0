use Rattle.gate_metrics.proofs.NameLemmas.{apart, apart-peers}
use Rattle.gate_metrics.proofs.laws.has_no_sample_twice.Goals as goal

pub returns-clause-own : goal.returns-clause-own
returns-clause-own c = apart

pub returns-clause-peers : goal.returns-clause-peers
returns-clause-peers c = apart-peers
