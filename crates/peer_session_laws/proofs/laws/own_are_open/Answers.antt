use Rattle.peer_session_laws.proofs.OwnRunLemmas.{own-are-open}
use Rattle.peer_session_laws.proofs.laws.own_are_open.Goals as goal

pub returns : goal.returns
returns c = own-are-open c.own_go_by_ends.ensures c.pieces_in_order.ensures
