use Rattle.std.proofs.Common.{◌≡◌, false}
use Rattle.vectors.proofs.bounds.sent_of_65.Given as goal

abbrev pub invariant-loop : goal.invariant-loop
invariant-loop l = l.engine.spent ≡ false
