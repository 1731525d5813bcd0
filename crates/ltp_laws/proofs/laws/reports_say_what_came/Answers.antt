use Rattle.ltp_laws.specs.Serials.{SerialFacts}
use Rattle.ltp_laws.specs.Claims.{ClaimFacts}
use Rattle.ltp_laws.specs.Reach.{ReachFacts}
use Rattle.ltp_laws.proofs.LogLemmas.{every_fact}
use Rattle.ltp_laws.proofs.laws.reports_say_what_came.Goals as goal

pub returns : goal.returns
returns c = record {
  serials = every_fact SerialFacts (λ block red v f. f.reports);
  claims = every_fact ClaimFacts (λ block red v f. f.claims);
  reach = every_fact ReachFacts (λ block red v f. f.reach);
}
