use Rattle.std.proofs.Common.{◌≡◌, length, []}
use Rattle.std.specs.String.{string_bytes}
use Rattle.command_frame.specs.Lines.{InLine}
use Rattle.command_frame.specs.Limits.{InLimits}
use Rattle.command_frame.proofs.LinesLemmas.{FeedsOn}
use Rattle.command_frame.proofs.LimitsLemmas.{LimitsOn}
use Rattle.command_frame.proofs.part_lines.PartLineReaderPartTask.take.Given as goal

abbrev pub invariant-lines : goal.invariant-lines
invariant-lines g l = record {
  none_due : g.L.PartLineStep.parts l.self.step ≡ 0;
  so_far : FeedsOn (InLine g.L.PartLineStep.rules (g.L.PartLineStep.Shows l.initial.self.step []) l.initial.self.number l.initial.self.rest.items)
      (InLine g.L.PartLineStep.rules (g.L.PartLineStep.Shows l.self.step []) l.self.number l.self.rest.items)
      (string_bytes l.initial.text) (string_bytes l.text) l.piece l.left;
  within : LimitsOn (InLimits g.L.PartLineStep.rules (g.L.PartLineStep.Shows l.initial.self.step []) l.initial.self.number l.initial.self.rest.items l.initial.self.passed)
      (InLimits g.L.PartLineStep.rules (g.L.PartLineStep.Shows l.self.step []) l.self.number l.self.rest.items l.self.passed) l.self.passed l.piece l.left;
}

abbrev pub decreases-lines : goal.decreases-lines
decreases-lines g l = length l.left
