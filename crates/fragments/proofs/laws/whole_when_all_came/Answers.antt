use Rattle.fragments.proofs.BegunLemmas.{when-all-came}
use Rattle.fragments.proofs.laws.whole_when_all_came.Goals as goal

pub returns : goal.returns
returns c = when-all-came
