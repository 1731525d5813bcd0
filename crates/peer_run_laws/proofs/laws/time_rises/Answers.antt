use Rattle.peer_run_laws.proofs.FaceLemmas.{time-rises}
use Rattle.peer_run_laws.proofs.laws.time_rises.Goals as goal

pub returns : goal.returns
returns c = time-rises
