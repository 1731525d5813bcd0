use Rattle.node_run.proofs.RedPartLemmas.{hands_up_red_parts}
use Rattle.node_run.proofs.laws.hands_up_red_parts.Goals as goal

pub returns : goal.returns
returns c = hands_up_red_parts c.hands_up_red_parts.ensures
