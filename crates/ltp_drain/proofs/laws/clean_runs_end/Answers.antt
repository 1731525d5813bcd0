use Rattle.ltp_drain.proofs.CompletionLemmas.{clean-ends}
use Rattle.ltp_drain.proofs.laws.clean_runs_end.Goals as goal

pub returns : goal.returns
returns c = clean-ends
