use Rattle.ltp_laws.proofs.LogLemmas.{red_parts_are_fronts}
use Rattle.ltp_laws.proofs.laws.red_parts_are_fronts_once.Goals as goal

pub returns : goal.returns
returns c = red_parts_are_fronts
