use Rattle.peer_run_laws.proofs.TickLemmas.{runnable-waits}
use Rattle.peer_run_laws.proofs.laws.runnable_waits.Goals as goal

pub returns : goal.returns
returns c = runnable-waits
