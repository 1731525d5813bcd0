use Rattle.std.proofs.Common.{◌≡◌, false}
use Rattle.peer_vectors.proofs.memory.odd_sessions.Given as goal

abbrev pub invariant-loop-k : goal.invariant-loop-k
invariant-loop-k l = l.face.spent ≡ false
