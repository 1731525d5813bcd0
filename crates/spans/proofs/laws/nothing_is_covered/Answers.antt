use Rattle.spans.proofs.PlaceLaws.{nothing_is_covered}
use Rattle.spans.proofs.laws.nothing_is_covered.Goals as goal

pub returns : goal.returns
returns c = nothing_is_covered
