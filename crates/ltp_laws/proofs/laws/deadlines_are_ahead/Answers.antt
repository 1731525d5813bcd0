use Rattle.ltp_laws.proofs.DeadlineLemmas.{deadlines_are_ahead}
use Rattle.ltp_laws.proofs.laws.deadlines_are_ahead.Goals as goal

pub returns : goal.returns
returns c = deadlines_are_ahead
