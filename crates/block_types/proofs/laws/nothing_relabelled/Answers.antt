use Rattle.block_types.proofs.RelabelLaws.{nothing_relabelled}
use Rattle.block_types.proofs.laws.nothing_relabelled.Goals as goal

pub returns : goal.returns
returns c = nothing_relabelled
