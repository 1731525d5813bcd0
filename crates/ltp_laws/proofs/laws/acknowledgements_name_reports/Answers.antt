use Rattle.ltp_laws.specs.Acknowledgements.{AckFacts, CloseFacts}
use Rattle.ltp_laws.proofs.LogLemmas.{every_fact}
use Rattle.ltp_laws.proofs.laws.acknowledgements_name_reports.Goals as goal

pub returns : goal.returns
returns c = record {
  acks = every_fact AckFacts (λ block red v f. f.acks);
  closes = every_fact CloseFacts (λ block red v f. f.closes);
}
