use Rattle.peer_run_laws.proofs.CountLemmas.{counts-dropped}
use Rattle.peer_run_laws.proofs.laws.counts_dropped.Goals as goal

pub returns : goal.returns
returns c = counts-dropped c.goes_out_in_order.ensures
