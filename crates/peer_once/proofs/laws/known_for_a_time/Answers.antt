use Rattle.peer_once.proofs.TimeLemmas.{known_for_a_time}
use Rattle.peer_once.proofs.laws.known_for_a_time.Goals as goal

pub returns : goal.returns
returns c = known_for_a_time
