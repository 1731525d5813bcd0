use Rattle.peer_records.proofs.LeaveLemmas.{each-is-done}
use Rattle.peer_records.proofs.laws.each_is_done.Goals as goal

pub returns : goal.returns
returns c = each-is-done
