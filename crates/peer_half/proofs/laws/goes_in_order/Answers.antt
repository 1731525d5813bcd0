use Rattle.peer_half.proofs.OrderLemmas.{goes-in-order}
use Rattle.peer_half.proofs.laws.goes_in_order.Goals as goal

pub returns : goal.returns
returns c = goes-in-order
