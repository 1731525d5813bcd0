use Rattle.gate_records.proofs.StayLemmas.{mark-stays}
use Rattle.gate_records.proofs.laws.mark_stays.Goals as goal

pub returns : goal.returns
returns c = mark-stays
