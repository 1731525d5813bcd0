use Rattle.ltp_laws.specs.Checkpoints.{CheckpointFacts, FirstFacts}
use Rattle.ltp_laws.proofs.LogLemmas.{every_fact}
use Rattle.ltp_laws.proofs.laws.checkpoints_follow_reports.Goals as goal

pub returns : goal.returns
returns c = record {
  asked = every_fact CheckpointFacts (λ block red v f. f.asks);
  first = every_fact FirstFacts (λ block red v f. f.firsts);
}
