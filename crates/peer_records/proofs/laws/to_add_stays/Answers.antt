use Rattle.peer_records.proofs.ToAddLemmas.{to-add-stays}
use Rattle.peer_records.proofs.laws.to_add_stays.Goals as goal

pub returns : goal.returns
returns c = to-add-stays
