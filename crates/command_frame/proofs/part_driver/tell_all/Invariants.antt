use Rattle.std.proofs.Common.{◌≡◌, ℕ, List}
use Rattle.edge_traits.specs.Outcome.{sink_tells}
use Rattle.command_frame.specs.Task.{Settling}
use Rattle.command_frame.specs.Limits.{Limiting}
use Rattle.command_frame.specs.PartTask.{IsDue}
use Rattle.command_frame.proofs.HandingLemmas.{TellingSoFar}
use Rattle.command_frame.proofs.LimitsRunLemmas.{TellingWithin}
use Rattle.command_frame.proofs.part_driver.tell_all.Given as goal

abbrev pub invariant-telling : goal.invariant-telling
invariant-telling g l = record {
  due : IsDue l.more (g.T.PartTask.parts l.task);
  so_far : (due : List ℕ) (settles : Settling) → g.T.PartTask.Stands l.initial.task due settles
      → TellingSoFar (g.T.PartTask.Stands l.task) settles due
      (sink_tells g.K.Sink.held g.K.Sink.faults g.K.Sink.failing l.initial.sink)
      (sink_tells g.K.Sink.held g.K.Sink.faults g.K.Sink.failing l.sink) l.more;
  within : (due : List ℕ) (limits : Limiting) → g.T.PartTask.Awaits l.initial.task due limits
      → TellingWithin (g.T.PartTask.Awaits l.task) limits l.more;
  kept : g.T.PartTask.passed l.task ≡ g.T.PartTask.passed l.initial.task;
}

abbrev pub decreases-telling : goal.decreases-telling
decreases-telling g l = g.T.PartTask.parts l.task
