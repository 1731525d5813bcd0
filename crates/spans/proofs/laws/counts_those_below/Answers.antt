use Rattle.spans.proofs.PlaceLaws.{counts_those_below}
use Rattle.spans.proofs.laws.counts_those_below.Goals as goal

pub returns : goal.returns
returns c = counts_those_below
