use Rattle.peer_once.proofs.UseLemmas.{handed_up_as_sent}
use Rattle.peer_once.proofs.laws.handed_up_as_sent.Goals as goal

pub returns : goal.returns
returns c = handed_up_as_sent
