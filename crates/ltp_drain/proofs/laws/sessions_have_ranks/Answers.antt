use Rattle.ltp_drain.proofs.RankSteps.{sessions-have-ranks}
use Rattle.ltp_drain.proofs.laws.sessions_have_ranks.Goals as goal

pub returns : goal.returns
returns c = sessions-have-ranks
