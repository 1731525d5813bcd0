use Rattle.ltp_drain.proofs.WearLemmas.{drains-wear-out}
use Rattle.ltp_drain.proofs.laws.drains_wear_out.Goals as goal

pub returns : goal.returns
returns c = drains-wear-out
