use Rattle.ltp_laws.proofs.LawLemmas.{handed_up_is_sent}
use Rattle.ltp_laws.proofs.laws.handed_up_is_sent.Goals as goal

pub returns : goal.returns
returns c = handed_up_is_sent
