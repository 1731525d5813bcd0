use Rattle.ltp_engine.proofs.RedPartLemmas.{hands_up_red_parts}
use Rattle.ltp_engine.proofs.laws.hands_up_red_parts.Goals as goal

pub returns : goal.returns
returns c = hands_up_red_parts
