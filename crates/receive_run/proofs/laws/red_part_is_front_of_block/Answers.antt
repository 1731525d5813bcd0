use Rattle.ltp_session.proofs.RedPartLemmas.{all_fronts}
use Rattle.receive_run.proofs.laws.red_part_is_front_of_block.Goals as goal

pub returns : goal.returns
returns c = all_fronts
