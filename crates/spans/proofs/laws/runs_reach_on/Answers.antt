use Rattle.spans.proofs.Reaching.{runs_reach_on}
use Rattle.spans.proofs.laws.runs_reach_on.Goals as goal

pub returns : goal.returns
returns c = runs_reach_on
