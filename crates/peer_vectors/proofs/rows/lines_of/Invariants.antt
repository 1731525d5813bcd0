use Rattle.std.proofs.Common.{◌≡◌}
use Rattle.peer_vectors.proofs.rows.lines_of.Given as goal

abbrev pub invariant-loop : goal.invariant-loop
invariant-loop l = l.items.face ≡ l.face
