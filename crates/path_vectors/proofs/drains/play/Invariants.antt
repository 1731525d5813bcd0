use Rattle.std.proofs.Common.{◌≡◌, false}
use Rattle.path_vectors.proofs.drains.play.Given as goal

abbrev pub invariant-loop-row : goal.invariant-loop-row
invariant-loop-row l = l.world.spent ≡ false
