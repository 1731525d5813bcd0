use Rattle.ltp_picks.proofs.CrossingRuns.{crossing-few}
use Rattle.ltp_picks.proofs.laws.crossing_events_are_few.Goals as goal

pub returns : goal.returns
returns c = crossing-few
