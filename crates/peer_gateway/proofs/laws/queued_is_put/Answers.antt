use Rattle.peer_gateway.proofs.PutLemmas.{queued_is_put}
use Rattle.peer_gateway.proofs.laws.queued_is_put.Goals as goal

pub returns : goal.returns
returns c = queued_is_put
