use Rattle.std.proofs.Common.{◌≡◌, false}
use Rattle.bundle_vectors.proofs.cut_and_joined.join_of.Given as goal

abbrev pub invariant-coming : goal.invariant-coming
invariant-coming l = l.joiner.spent ≡ false
