use Rattle.std.proofs.Common.{◌≡◌, false}
use Rattle.peer_vectors.proofs.memory.unanswered.Given as goal

abbrev pub invariant-loop-now : goal.invariant-loop-now
invariant-loop-now l = l.face.spent ≡ false
