use Rattle.fragments.proofs.PayloadLemmas.{give_the_whole}
use Rattle.fragments.proofs.laws.fragments_give_the_whole.Goals as goal

pub returns : goal.returns
returns c = give_the_whole
