use Rattle.gateway_core.proofs.LawLemmas.{are_engines}
use Rattle.gateway_core.proofs.laws.faces_are_engines.Goals as goal

pub returns : goal.returns
returns c = are_engines
