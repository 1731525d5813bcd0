use Rattle.peer_once.proofs.LawLemmas.{none_of_the_marked}
use Rattle.peer_once.proofs.laws.none_of_the_marked.Goals as goal

pub returns : goal.returns
returns c = none_of_the_marked
