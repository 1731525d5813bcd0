use Rattle.std.proofs.Common.{◌≡◌, ◌++◌, drop}
use Rattle.peer_sessions.specs.Sessions.{evictions}
use Rattle.peer_sessions.proofs.notes.add_evicted.Given as goal

abbrev pub invariant-numbers : goal.invariant-numbers
invariant-numbers l = l.notes.items ++ evictions (drop l.n-index l.numbers) ≡ l.initial.notes.items ++ evictions l.numbers
