use Rattle.std.proofs.Common.{◌-◌, ◌≤◌}
use Rattle.edge_traits.specs.Outcome.{source_tells, sink_tells}
use Rattle.command_frame.specs.Task.{Settling, IsQuiet}
use Rattle.command_frame.specs.Limits.{Limiting, IsWithin}
use Rattle.command_frame.proofs.DriveLemmas.{Going}
use Rattle.command_frame.proofs.LimitsRunLemmas.{GoingWithin}
use Rattle.command_frame.proofs.driver.drive_by.Given as goal

abbrev pub invariant-reading : goal.invariant-reading
invariant-reading g l = record {
  going : (settles : Settling) → g.H.Hands.Stands l.initial.task settles → IsQuiet settles
      → Going (g.H.Hands.Stands l.task) (g.H.Hands.Began l.task) settles
      (source_tells g.S.Source.left g.S.Source.faults g.S.Source.failing l.initial.source)
      (source_tells g.S.Source.left g.S.Source.faults g.S.Source.failing l.source)
      (sink_tells g.K.Sink.held g.K.Sink.faults g.K.Sink.failing l.initial.sink)
      (sink_tells g.K.Sink.held g.K.Sink.faults g.K.Sink.failing l.sink) l.taken;
  within : (limits : Limiting) → IsWithin (g.H.Hands.Awaits l.initial.task) (g.H.Hands.passed l.initial.task) limits
      → GoingWithin (g.H.Hands.Awaits l.task) (g.H.Hands.passed l.task) limits
      (g.S.Source.left l.initial.source) (g.S.Source.left l.source) l.taken;
  ready : g.H.Hands.Ready l.task;
  low : l.taken ≤ 67108864;
}

abbrev pub decreases-reading : goal.decreases-reading
decreases-reading g l = 67108865 - l.taken
