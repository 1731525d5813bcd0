use Rattle.std.proofs.Common.{◌≡◌, ◌+◌, ◌≤◌, length}
use Rattle.session_memory.specs.Numbers.{runs_in}
use Rattle.session_memory.specs.Laws.{IsSet64}
use Rattle.peer_sessions.specs.Sessions.{with_closed}
use Rattle.peer_sessions.proofs.remembering.remember_all.Given as goal

abbrev pub invariant-closing : goal.invariant-closing
invariant-closing l =
    (with_closed l.numbers.items l.memory ≡ with_closed l.initial.numbers.items l.initial.memory)
    × IsSet64 l.memory.newer
    × (runs_in l.memory.newer + length l.numbers.items ≤ l.memory.most)

abbrev pub decreases-closing : goal.decreases-closing
decreases-closing l = length l.numbers.items
