use Rattle.ltp_laws.specs.Reach.{WholeFacts}
use Rattle.ltp_laws.specs.Completion.{CompletionFacts}
use Rattle.ltp_laws.proofs.LogLemmas.{every_fact}
use Rattle.ltp_laws.proofs.laws.whole_reports_end_sessions.Goals as goal

pub returns : goal.returns
returns c = record {
  whole = every_fact WholeFacts (λ block red v f. f.whole);
  ends = every_fact CompletionFacts (λ block red v f. f.ends);
}
