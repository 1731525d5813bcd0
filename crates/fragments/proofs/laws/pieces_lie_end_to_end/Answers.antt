use Rattle.fragments.proofs.CuttingLemmas.{end-to-end}
use Rattle.fragments.proofs.laws.pieces_lie_end_to_end.Goals as goal

pub returns : goal.returns
returns c = end-to-end
