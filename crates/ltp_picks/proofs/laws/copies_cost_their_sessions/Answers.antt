use Rattle.ltp_picks.proofs.CopyEnds.{copied-costs}
use Rattle.ltp_picks.proofs.laws.copies_cost_their_sessions.Goals as goal

pub returns : goal.returns
returns c = copied-costs
