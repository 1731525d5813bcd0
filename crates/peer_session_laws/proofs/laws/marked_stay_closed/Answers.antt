use Rattle.peer_session_laws.proofs.ClosedLemmas.{marked-stay-closed}
use Rattle.peer_session_laws.proofs.laws.marked_stay_closed.Goals as goal

pub returns : goal.returns
returns c = marked-stay-closed c.goes_once_in_order.ensures.order
