use Rattle.peer_half.proofs.LeaveLemmas.{leaves-when-open}
use Rattle.peer_half.proofs.laws.leaves_when_open.Goals as goal

pub returns : goal.returns
returns c = leaves-when-open
