use Rattle.peer_run_laws.proofs.FaceLemmas.{keeps-pace-in-runs}
use Rattle.peer_run_laws.proofs.laws.keeps_pace_in_runs.Goals as goal

pub returns : goal.returns
returns c = keeps-pace-in-runs c.keeps_pace.ensures
