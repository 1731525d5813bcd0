use Rattle.ltp_laws.specs.Cancels.{CancelFacts}
use Rattle.ltp_laws.proofs.LogLemmas.{every_fact}
use Rattle.ltp_laws.proofs.laws.cancelled_sessions_stay_so.Goals as goal

pub returns : goal.returns
returns c = every_fact CancelFacts (λ block red v f. f.offs)
