use Rattle.std.proofs.Common.{◌≡◌, ◌++◌, drop}
use Rattle.peer_half.specs.Journals.{marked_at}
use Rattle.peer_live.proofs.marked.sessions_at.Given as goal

abbrev pub invariant-marks : goal.invariant-marks
invariant-marks l =
    l.sessions.items ++ marked_at l.face (drop l.mark-index l.marks) ≡ marked_at l.face l.marks
