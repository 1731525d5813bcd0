use Rattle.peer_gateway.proofs.BoundLemmas.{firsts_are_put}
use Rattle.peer_gateway.proofs.laws.firsts_are_put.Goals as goal

pub returns : goal.returns
returns c = firsts_are_put
