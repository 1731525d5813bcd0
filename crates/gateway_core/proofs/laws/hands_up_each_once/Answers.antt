use Rattle.gateway_core.proofs.LawLemmas.{each_once}
use Rattle.gateway_core.proofs.laws.hands_up_each_once.Goals as goal

pub returns : goal.returns
returns c = each_once c.hands_up_each_once.ensures
