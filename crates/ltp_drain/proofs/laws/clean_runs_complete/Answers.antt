use Rattle.ltp_drain.proofs.CompletionLemmas.{clean-completes}
use Rattle.ltp_drain.proofs.laws.clean_runs_complete.Goals as goal

pub returns : goal.returns
returns c = clean-completes
