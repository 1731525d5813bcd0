use Rattle.block_types.proofs.RelabelLaws.{relabelled_twice}
use Rattle.block_types.proofs.laws.relabelled_twice.Goals as goal

pub returns : goal.returns
returns c = relabelled_twice
