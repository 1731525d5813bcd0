use Rattle.path_drain.proofs.CarriedLemmas.{carried-out}
use Rattle.path_drain.proofs.whole_runs.decisions_are_carried_out.Goals as goal

pub returns : goal.returns
returns c = carried-out
