use Rattle.std.proofs.Common.{◌≡◌, false}
use Rattle.peer_vectors.proofs.memory.odd_and_then.Given as goal

abbrev pub invariant-loop-session : goal.invariant-loop-session
invariant-loop-session l = l.face.spent ≡ false
