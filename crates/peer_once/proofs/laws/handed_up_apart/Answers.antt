use Rattle.peer_once.proofs.LawLemmas.{handed_up_apart}
use Rattle.peer_once.proofs.laws.handed_up_apart.Goals as goal

pub returns : goal.returns
returns c = handed_up_apart
