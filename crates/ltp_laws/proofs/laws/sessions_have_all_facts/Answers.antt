use Rattle.ltp_laws.specs.Facts.{SessionFacts}
use Rattle.ltp_laws.proofs.LogLemmas.{every_fact}
use Rattle.ltp_laws.proofs.laws.sessions_have_all_facts.Goals as goal

pub returns : goal.returns
returns c = every_fact SessionFacts (λ block red v f. f)
