use Rattle.piece_gathering.proofs.GatherLaws.{none_waits_late}
use Rattle.peer_run_laws.proofs.TickLemmas.{ticks-once}
use Rattle.peer_run_laws.proofs.laws.ticks_once.Goals as goal

pub returns : goal.returns
returns c = ticks-once (record {
  stale = c.none_is_stale.ensures;
  complete = c.complete_goes.ensures.goes;
  ready = c.ready_goes.ensures;
  late = none_waits_late;
})
