use Rattle.peer_gateway.proofs.AgeLemmas.{age_raised_once}
use Rattle.peer_gateway.proofs.laws.age_raised_once.Goals as goal

pub returns : goal.returns
returns c = age_raised_once
