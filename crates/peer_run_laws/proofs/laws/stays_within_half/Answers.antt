use Rattle.peer_run_laws.proofs.BoundLemmas.{stays-within-half, stays-within-in-runs}
use Rattle.peer_run_laws.proofs.laws.stays_within_half.Goals as goal

pub returns-clause-event : goal.returns-clause-event
returns-clause-event c = stays-within-half

pub returns-clause-runs : goal.returns-clause-runs
returns-clause-runs c = stays-within-in-runs c.goes_out_in_order.ensures
