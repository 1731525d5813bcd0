use Rattle.block_types.proofs.RelabelLaws.{there_and_back_relabelled}
use Rattle.block_types.proofs.laws.there_and_back_relabelled.Goals as goal

pub returns : goal.returns
returns c = there_and_back_relabelled
