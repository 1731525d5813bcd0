use Rattle.peer_gateway.proofs.OrderLemmas.{pieces_in_order}
use Rattle.peer_gateway.proofs.laws.pieces_in_order.Goals as goal

pub returns : goal.returns
returns c = pieces_in_order
