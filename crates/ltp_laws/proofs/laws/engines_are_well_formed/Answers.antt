use Rattle.ltp_laws.proofs.LogLemmas.{engines_are_well_formed}
use Rattle.ltp_laws.proofs.laws.engines_are_well_formed.Goals as goal

pub returns : goal.returns
returns c = engines_are_well_formed
