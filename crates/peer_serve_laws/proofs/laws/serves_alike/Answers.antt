use Rattle.peer_serve_laws.proofs.RunLemmas.{serves-alike}
use Rattle.peer_serve_laws.proofs.laws.serves_alike.Goals as goal

pub returns : goal.returns
returns c = serves-alike c.goes_once_in_order.ensures.order c.goes_at_once_in_runs.ensures
