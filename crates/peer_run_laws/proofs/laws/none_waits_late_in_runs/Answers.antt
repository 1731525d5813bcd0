use Rattle.piece_gathering.proofs.GatherLaws.{none_waits_late}
use Rattle.peer_run_laws.proofs.TickLemmas.{none-waits-late-in-runs}
use Rattle.peer_run_laws.proofs.laws.none_waits_late_in_runs.Goals as goal

pub returns : goal.returns
returns c = none-waits-late-in-runs (record {
  stale = c.none_is_stale.ensures;
  complete = c.complete_goes.ensures.goes;
  ready = c.ready_goes.ensures;
  late = none_waits_late;
})
