use Rattle.ltp_picks.proofs.CrossingRuns.{crossing-ends}
use Rattle.ltp_picks.proofs.laws.crossing_runs_end.Goals as goal

pub returns : goal.returns
returns c = crossing-ends
