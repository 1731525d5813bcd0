use Rattle.block_types.proofs.RelabelLaws.{relabelled_is_legal}
use Rattle.block_types.proofs.laws.relabelled_is_legal.Goals as goal

pub returns : goal.returns
returns c = relabelled_is_legal
