use Rattle.fragments.proofs.AgainLemmas.{join-again}
use Rattle.fragments.proofs.laws.pieces_join_again.Goals as goal

pub returns : goal.returns
returns c = join-again
