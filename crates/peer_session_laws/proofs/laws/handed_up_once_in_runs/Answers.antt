use Rattle.peer_session_laws.proofs.OnceLemmas.{handed-up-once-in-runs}
use Rattle.peer_session_laws.proofs.laws.handed_up_once_in_runs.Goals as goal

pub returns : goal.returns
returns c = handed-up-once-in-runs c.moments_in_order.ensures c.handed_up_once_in_time.ensures
