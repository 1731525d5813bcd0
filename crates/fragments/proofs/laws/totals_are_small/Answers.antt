use Rattle.fragments.proofs.SmallLemmas.{totals-are-small}
use Rattle.fragments.proofs.laws.totals_are_small.Goals as goal

pub returns : goal.returns
returns c = totals-are-small
