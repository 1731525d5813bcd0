use Rattle.ltp_engine.proofs.RedPartLemmas.{each_once}
use Rattle.ltp_engine.proofs.laws.hands_up_each_once.Goals as goal

pub returns : goal.returns
returns c = each_once
