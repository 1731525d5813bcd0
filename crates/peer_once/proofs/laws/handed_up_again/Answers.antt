use Rattle.peer_once.proofs.OnceLemmas.{handed_up_again}
use Rattle.peer_once.proofs.laws.handed_up_again.Goals as goal

pub returns : goal.returns
returns c = handed_up_again
