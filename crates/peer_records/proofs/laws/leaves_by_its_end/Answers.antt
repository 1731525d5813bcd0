use Rattle.peer_records.proofs.LeaveLemmas.{leaves-by-its-end}
use Rattle.peer_records.proofs.laws.leaves_by_its_end.Goals as goal

pub returns : goal.returns
returns c = leaves-by-its-end
