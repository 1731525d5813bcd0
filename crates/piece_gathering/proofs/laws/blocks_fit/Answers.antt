use Rattle.piece_gathering.proofs.GatherLaws.{blocks_fit}
use Rattle.piece_gathering.proofs.laws.blocks_fit.Goals as goal

pub returns-clause-fits : goal.returns-clause-fits
returns-clause-fits c = blocks_fit
