use Rattle.ltp_receiver.proofs.LawLemmas.{hands_up_once}
use Rattle.ltp_receiver.proofs.laws.hands_up_once.Goals as goal

pub returns : goal.returns
returns c = hands_up_once
