use Rattle.std.proofs.Common.{◌≡◌, false}
use Rattle.path_vectors.proofs.greatest.half_of_it_comes.Given as goal

abbrev pub invariant-loop-i : goal.invariant-loop-i
invariant-loop-i l = l.world.spent ≡ false
