use Rattle.peer_run_laws.proofs.FaceLemmas.{time-is-of-half}
use Rattle.peer_run_laws.proofs.laws.time_is_of_half.Goals as goal

pub returns : goal.returns
returns c = time-is-of-half
