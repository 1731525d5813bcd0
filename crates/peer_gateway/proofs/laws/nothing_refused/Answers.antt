use Rattle.peer_gateway.proofs.BlockLemmas.{nothing_refused}
use Rattle.peer_gateway.proofs.laws.nothing_refused.Goals as goal

pub returns : goal.returns
returns c = nothing_refused
