use Rattle.peer_once.proofs.LawLemmas.{handed_up_once_in_time}
use Rattle.peer_once.proofs.laws.handed_up_once_in_time.Goals as goal

pub returns : goal.returns
returns c = handed_up_once_in_time
