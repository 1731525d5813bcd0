use Rattle.spans.proofs.PlaceLaws.{counts_the_fresh}
use Rattle.spans.proofs.laws.counts_the_fresh.Goals as goal

pub returns : goal.returns
returns c = counts_the_fresh
