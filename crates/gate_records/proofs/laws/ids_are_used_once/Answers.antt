use Rattle.gate_records.proofs.OnceLemmas.{ids-are-used-once}
use Rattle.gate_records.proofs.laws.ids_are_used_once.Goals as goal

pub returns : goal.returns
returns c = ids-are-used-once
