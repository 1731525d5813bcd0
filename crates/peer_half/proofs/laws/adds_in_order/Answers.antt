use Rattle.peer_half.proofs.ResumeLemmas.{adds-in-order}
use Rattle.peer_half.proofs.laws.adds_in_order.Goals as goal

pub returns : goal.returns
returns c = adds-in-order
