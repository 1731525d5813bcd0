use Rattle.peer_gateway.proofs.GoingLemmas.{complete_goes, complete_at_once}
use Rattle.peer_gateway.proofs.laws.complete_goes.Goals as goal

pub returns-clause-goes : goal.returns-clause-goes
returns-clause-goes c = complete_goes

pub returns-clause-at_once : goal.returns-clause-at_once
returns-clause-at_once c = complete_at_once
