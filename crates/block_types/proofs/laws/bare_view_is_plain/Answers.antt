use Rattle.block_types.proofs.BareLemmas.{bare_view_is_plain}
use Rattle.block_types.proofs.laws.bare_view_is_plain.Goals as goal

pub returns : goal.returns
returns c = bare_view_is_plain
