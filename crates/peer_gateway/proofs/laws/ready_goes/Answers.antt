use Rattle.peer_gateway.proofs.GoingLemmas.{ready_goes}
use Rattle.peer_gateway.proofs.laws.ready_goes.Goals as goal

pub returns : goal.returns
returns c = ready_goes
