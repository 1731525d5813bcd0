use Rattle.piece_gathering.proofs.GatherLaws.{in_order}
use Rattle.piece_gathering.proofs.laws.in_order.Goals as goal

pub returns : goal.returns
returns c = in_order
