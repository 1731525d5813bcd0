use Rattle.std.proofs.Common.{◌≡◌, false}
use Rattle.vectors.proofs.bounds.notes.Given as goal

abbrev pub invariant-loop-session : goal.invariant-loop-session
invariant-loop-session l = l.engine.spent ≡ false
