use Rattle.std.proofs.Common.{◌≡◌, false}
use Rattle.vectors.proofs.receiving.take_seconds.Given as goal

abbrev pub invariant-loop-i : goal.invariant-loop-i
invariant-loop-i l = l.receiver.spent ≡ false
