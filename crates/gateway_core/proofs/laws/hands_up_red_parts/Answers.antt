use Rattle.gateway_core.proofs.LawLemmas.{hands_up_red_parts}
use Rattle.gateway_core.proofs.laws.hands_up_red_parts.Goals as goal

pub returns : goal.returns
returns c = hands_up_red_parts c.hands_up_red_parts.ensures
