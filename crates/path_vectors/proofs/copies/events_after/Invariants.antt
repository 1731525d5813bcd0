use Rattle.std.proofs.Common.{◌≡◌, false}
use Rattle.path_vectors.proofs.copies.events_after.Given as goal

abbrev pub invariant-loop-step : goal.invariant-loop-step
invariant-loop-step l = l.world.spent ≡ false
