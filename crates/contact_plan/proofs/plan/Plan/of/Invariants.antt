use Rattle.std.proofs.Common.{◌≡◌, take}
use Rattle.contact_plan.specs.Windows.{IsPlan}
use Rattle.contact_plan.proofs.plan.Plan.of.Given as goal

abbrev pub invariant-windows : goal.invariant-windows
invariant-windows l = record {
  made : l.plan ≡ take l.window-index l.windows;
  plan : IsPlan l.plan;
}
