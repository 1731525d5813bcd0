use Rattle.peer_records.proofs.AgainLemmas.{to-add-is-free}
use Rattle.peer_records.proofs.laws.to_add_is_free.Goals as goal

pub returns : goal.returns
returns c = to-add-is-free
