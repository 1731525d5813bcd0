use Rattle.std.proofs.Common.{◌≡◌, drop}
use Rattle.contact_plan.specs.Fault.{first_misplaced}
use Rattle.contact_plan.proofs.judging.misplaced.Given as goal

abbrev pub invariant-windows : goal.invariant-windows
invariant-windows l = record {
  count : l.index ≡ l.window-index;
  left : first_misplaced l.index l.end (drop l.window-index l.windows) ≡ first_misplaced 0 0 l.windows;
}
