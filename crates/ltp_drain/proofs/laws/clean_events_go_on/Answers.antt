use Rattle.ltp_drain.proofs.CleanLemmas.{clean-more}
use Rattle.ltp_drain.proofs.laws.clean_events_go_on.Goals as goal

pub returns : goal.returns
returns c = clean-more
