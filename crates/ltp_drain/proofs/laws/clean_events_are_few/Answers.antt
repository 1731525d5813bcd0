use Rattle.ltp_drain.proofs.CompletionLemmas.{clean-few}
use Rattle.ltp_drain.proofs.laws.clean_events_are_few.Goals as goal

pub returns : goal.returns
returns c = clean-few
