use Rattle.peer_gateway.proofs.SizeLemmas.{sized_for_any_stay}
use Rattle.peer_gateway.proofs.laws.sized_for_any_stay.Goals as goal

pub returns : goal.returns
returns c = sized_for_any_stay
