use Rattle.peer_session_laws.proofs.OnceLemmas.{used-once-in-runs}
use Rattle.peer_session_laws.proofs.laws.used_once_in_runs.Goals as goal

pub returns : goal.returns
returns c = used-once-in-runs c.moments_in_order.ensures c.used_once.ensures
