use Rattle.piece_gathering.proofs.GatherLaws.{gathers_as_said}
use Rattle.piece_gathering.proofs.laws.gathers_as_said.Goals as goal

pub returns : goal.returns
returns c = gathers_as_said
