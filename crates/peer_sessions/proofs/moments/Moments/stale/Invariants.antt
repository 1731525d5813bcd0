use Rattle.std.proofs.Common.{◌≡◌, ◌++◌, drop}
use Rattle.peer_sessions.specs.Moments.{stale_in}
use Rattle.peer_sessions.proofs.moments.Moments.stale.Given as goal

abbrev pub invariant-touches : goal.invariant-touches
invariant-touches l = l.numbers.items ++ stale_in l.keep_ms l.now (drop l.n-index l.n-items) ≡ stale_in l.keep_ms l.now l.self
