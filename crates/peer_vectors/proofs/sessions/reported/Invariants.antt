use Rattle.std.proofs.Common.{◌≡◌, false}
use Rattle.peer_vectors.proofs.sessions.reported.Given as goal

abbrev pub invariant-loop-report : goal.invariant-loop-report
invariant-loop-report l = l.face.spent ≡ false
