use Rattle.block_types.proofs.TypeLemmas.{types_swap}
use Rattle.block_types.proofs.laws.types_swap.Goals as goal

pub returns : goal.returns
returns c = types_swap
