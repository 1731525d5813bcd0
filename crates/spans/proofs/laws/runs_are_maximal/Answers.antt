use Rattle.spans.proofs.PlaceLaws.{runs_are_maximal}
use Rattle.spans.proofs.laws.runs_are_maximal.Goals as goal

pub returns : goal.returns
returns c = runs_are_maximal
