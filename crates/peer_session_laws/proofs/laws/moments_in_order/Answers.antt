use Rattle.peer_session_laws.proofs.MomentLemmas.{moments-in-order}
use Rattle.peer_session_laws.proofs.laws.moments_in_order.Goals as goal

pub returns : goal.returns
returns c = moments-in-order c.time_is_of_half.ensures
