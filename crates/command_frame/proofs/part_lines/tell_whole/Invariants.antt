use Rattle.std.proofs.Common.{ℕ, List, true}
use Rattle.std.specs.String.{string_bytes}
use Rattle.command_frame.specs.PartTask.{TellsPart}
use Rattle.command_frame.proofs.part_lines.tell_whole.Given as goal

abbrev pub invariant-telling : goal.invariant-telling
invariant-telling g l =
    (due : List ℕ) (state : g.L.PartLineStep.State) → g.L.PartLineStep.Shows l.initial.step due state
    → TellsPart (g.L.PartLineStep.Shows l.step) state due (string_bytes l.initial.text) (string_bytes l.text) true

abbrev pub decreases-telling : goal.decreases-telling
decreases-telling g l = g.L.PartLineStep.parts l.step
