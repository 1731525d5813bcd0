use Rattle.peer_run_laws.proofs.FaceLemmas.{time-is-held}
use Rattle.peer_run_laws.proofs.laws.time_is_held.Goals as goal

pub returns : goal.returns
returns c = time-is-held c.time_stays.ensures
