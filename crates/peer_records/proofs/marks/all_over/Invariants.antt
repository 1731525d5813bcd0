use Rattle.std.proofs.Common.{◌≡◌, ◌++◌, drop, map}
use Rattle.gate_records.specs.Records.{clear_records}
use Rattle.gate_records.specs.Ties.{clear_of}
use Rattle.peer_records.specs.Happened.{marking}
use Rattle.peer_records.specs.Said.{happened_by}
use Rattle.peer_records.proofs.marks.all_over.Given as goal

abbrev pub invariant-marks : goal.invariant-marks
invariant-marks g l =
    clear_records (marking (happened_by l.step (g.G.GateSessions.opened l.gate) (g.G.GateSessions.handed_up l.gate))) l.marks
    ≡ map clear_of l.over.items ++ clear_records (marking (happened_by l.step (g.G.GateSessions.opened l.gate) (g.G.GateSessions.handed_up l.gate))) (drop l.mark-index l.marks)
