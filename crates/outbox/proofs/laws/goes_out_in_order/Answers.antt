use Rattle.outbox.proofs.OrderLemmas.{goes-out-in-order}
use Rattle.outbox.proofs.laws.goes_out_in_order.Goals as goal

pub returns : goal.returns
returns c = goes-out-in-order
