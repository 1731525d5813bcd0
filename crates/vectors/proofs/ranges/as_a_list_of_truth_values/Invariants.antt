use Rattle.std.proofs.Common.{◌≡◌, length}
use Rattle.vectors.proofs.ranges.as_a_list_of_truth_values.Given as goal

abbrev pub invariant-loop-round : goal.invariant-loop-round
invariant-loop-round g l = length l.spans ≡ 4000
