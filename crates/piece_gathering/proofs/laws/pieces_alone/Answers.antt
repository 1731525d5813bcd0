use Rattle.piece_gathering.proofs.GatherLaws.{pieces_alone}
use Rattle.piece_gathering.proofs.laws.pieces_alone.Goals as goal

pub returns : goal.returns
returns c = pieces_alone
