use Rattle.ltp_laws.specs.Engines.{ClosedFacts}
use Rattle.ltp_laws.proofs.ClosedLemmas.{closed-keep}
use Rattle.ltp_laws.proofs.LogLemmas.{every_submitted}
use Rattle.ltp_laws.proofs.laws.closed_numbers_are_not_kept.Goals as goal

pub returns : goal.returns
returns c = every_submitted ClosedFacts closed-keep
