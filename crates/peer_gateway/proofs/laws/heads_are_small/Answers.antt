use Rattle.peer_gateway.proofs.HeadLemmas.{heads_are_small}
use Rattle.peer_gateway.proofs.laws.heads_are_small.Goals as goal

pub returns : goal.returns
returns c = heads_are_small
