use Rattle.peer_session_laws.proofs.OwnRunLemmas.{open-are-own, own-are-once}
use Rattle.peer_session_laws.proofs.laws.open_are_own.Goals as goal

pub returns-clause-open : goal.returns-clause-open
returns-clause-open c = open-are-own c.own_go_by_ends.ensures c.pieces_in_order.ensures

pub returns-clause-once : goal.returns-clause-once
returns-clause-once c = own-are-once c.own_go_by_ends.ensures c.pieces_in_order.ensures
