use Rattle.peer_once.proofs.UseLemmas.{used_once}
use Rattle.peer_once.proofs.laws.used_once.Goals as goal

pub returns : goal.returns
returns c = used_once
