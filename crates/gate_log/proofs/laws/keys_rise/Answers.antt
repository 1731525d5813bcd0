use Rattle.gate_log.proofs.RisingLemmas.{rising}
use Rattle.gate_log.proofs.laws.keys_rise.Goals as goal

pub returns-clause-line : goal.returns-clause-line
returns-clause-line c = rising
