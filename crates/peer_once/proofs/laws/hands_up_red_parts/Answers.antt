use Rattle.peer_once.proofs.PieceLemmas.{hands_up_red_parts}
use Rattle.peer_once.proofs.laws.hands_up_red_parts.Goals as goal

pub returns : goal.returns
returns c = hands_up_red_parts
