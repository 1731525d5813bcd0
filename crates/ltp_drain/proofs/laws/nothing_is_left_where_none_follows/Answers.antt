use Rattle.ltp_drain.proofs.DrainedLemmas.{none-left}
use Rattle.ltp_drain.proofs.laws.nothing_is_left_where_none_follows.Goals as goal

pub returns : goal.returns
returns c = none-left
