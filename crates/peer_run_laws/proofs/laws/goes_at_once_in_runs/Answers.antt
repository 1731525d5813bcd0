use Rattle.peer_run_laws.proofs.WaitLemmas.{goes-at-once-in-runs}
use Rattle.peer_run_laws.proofs.laws.goes_at_once_in_runs.Goals as goal

pub returns : goal.returns
returns c = goes-at-once-in-runs c.goes_out_in_order.ensures
