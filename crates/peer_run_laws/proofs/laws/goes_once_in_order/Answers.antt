use Rattle.peer_run_laws.proofs.OrderLemmas.{fitted-in-runs, goes-once-in-order}
use Rattle.peer_run_laws.proofs.laws.goes_once_in_order.Goals as goal

pub returns-clause-order : goal.returns-clause-order
returns-clause-order c = goes-once-in-order c.goes_out_in_order.ensures

pub returns-clause-fitted : goal.returns-clause-fitted
returns-clause-fitted c = fitted-in-runs c.goes_out_in_order.ensures
