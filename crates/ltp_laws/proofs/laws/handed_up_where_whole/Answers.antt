use Rattle.ltp_laws.specs.HandUps.{HandUpFacts}
use Rattle.ltp_laws.proofs.LogLemmas.{every_fact}
use Rattle.ltp_laws.proofs.laws.handed_up_where_whole.Goals as goal

pub returns : goal.returns
returns c = every_fact HandUpFacts (λ block red v f. f.handed)
