use Rattle.ltp_picks.proofs.CrossingRuns.{crossing-completes}
use Rattle.ltp_picks.proofs.laws.crossing_runs_complete.Goals as goal

pub returns : goal.returns
returns c = crossing-completes
