use Rattle.std.proofs.Common.{◌≡◌, ◌+◌, ◌≤◌, ◌^◌, length, take}
use Rattle.session_memory.specs.Numbers.{runs_in}
use Rattle.session_memory.specs.Laws.{IsSet64}
use Rattle.peer_sessions.specs.Keys.{with_marked}
use Rattle.peer_sessions.proofs.remembering.mark_all.Given as goal

abbrev pub invariant-marking : goal.invariant-marking
invariant-marking l =
    (with_marked (take l.left l.marks) l.memory ≡ with_marked l.marks l.initial.memory)
    × IsSet64 l.memory.marked
    × (runs_in l.memory.marked + l.left ≤ 2 ^ 63)
    × (l.left ≤ length l.marks)

abbrev pub decreases-marking : goal.decreases-marking
decreases-marking l = l.left
