use Rattle.spans.proofs.PlaceLaws.{covers_the_range}
use Rattle.spans.proofs.laws.covers_the_range.Goals as goal

pub returns : goal.returns
returns c = covers_the_range
