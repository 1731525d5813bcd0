use Rattle.std.proofs.Common.{◌≡◌, length, []}
use Rattle.edge_traits.specs.Outcome.{sink_tells}
use Rattle.command_frame.specs.Task.{Settling, IsQuiet}
use Rattle.command_frame.specs.Limits.{Limiting, IsWithin}
use Rattle.command_frame.proofs.HandingLemmas.{HandingSoFar}
use Rattle.command_frame.proofs.LimitsRunLemmas.{HandingWithin}
use Rattle.command_frame.proofs.part_driver.hand_on.Given as goal

abbrev pub invariant-pieces : goal.invariant-pieces
invariant-pieces g l = record {
  none_due : g.T.PartTask.parts l.task ≡ 0;
  so_far : (settles : Settling) → g.T.PartTask.Stands l.initial.task [] settles → IsQuiet settles
      → HandingSoFar (g.T.PartTask.Stands l.task []) settles l.piece l.left
      (sink_tells g.K.Sink.held g.K.Sink.faults g.K.Sink.failing l.initial.sink)
      (sink_tells g.K.Sink.held g.K.Sink.faults g.K.Sink.failing l.sink);
  within : (limits : Limiting) → IsWithin (g.T.PartTask.Awaits l.initial.task []) (g.T.PartTask.passed l.initial.task) limits
      → HandingWithin (g.T.PartTask.Awaits l.task []) (g.T.PartTask.passed l.task) limits l.piece l.left;
}

abbrev pub decreases-pieces : goal.decreases-pieces
decreases-pieces g l = length l.left
