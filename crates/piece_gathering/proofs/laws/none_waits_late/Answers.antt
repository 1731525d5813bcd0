use Rattle.piece_gathering.proofs.GatherLaws.{none_waits_late}
use Rattle.piece_gathering.proofs.laws.none_waits_late.Goals as goal

pub returns : goal.returns
returns c = none_waits_late
