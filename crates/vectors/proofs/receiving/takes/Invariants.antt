use Rattle.std.proofs.Common.{◌≡◌, false}
use Rattle.vectors.proofs.receiving.takes.Given as goal

abbrev pub invariant-loop-row : goal.invariant-loop-row
invariant-loop-row l = l.receiver.spent ≡ false
