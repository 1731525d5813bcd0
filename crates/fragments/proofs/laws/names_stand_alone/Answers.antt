use Rattle.fragments.proofs.NameLemmas.{stand_alone}
use Rattle.fragments.proofs.laws.names_stand_alone.Goals as goal

pub returns : goal.returns
returns c = stand_alone
