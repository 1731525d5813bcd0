use Rattle.ltp_picks.proofs.CopyEnds.{copied-few}
use Rattle.ltp_picks.proofs.laws.copies_cost_three.Goals as goal

pub returns : goal.returns
returns c = copied-few
