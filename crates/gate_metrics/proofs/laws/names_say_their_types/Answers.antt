use Rattle.std.proofs.Common.{refl}
use Rattle.gate_metrics.proofs.laws.names_say_their_types.Goals as goal

pub returns-clause-own : goal.returns-clause-own
returns-clause-own c = λ counters gauges. refl

pub returns-clause-peers : goal.returns-clause-peers
returns-clause-peers c = λ counters gauges old new. refl
