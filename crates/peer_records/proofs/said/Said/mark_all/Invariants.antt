use Rattle.std.proofs.Common.{◌≡◌, [], map, take, drop}
use Rattle.gate_records.specs.Laws.{ReportSmall}
use Rattle.gate_records.specs.Records.{mark_records}
use Rattle.peer_gateway.specs.Answers.{routed_seen}
use Rattle.peer_records.specs.Happened.{marking}
use Rattle.peer_records.specs.Said.{happened_by}
use Rattle.peer_records.proofs.SaidLemmas.{reports}
use Rattle.peer_records.proofs.said.Said.mark_all.Given as goal

abbrev pub invariant-out : goal.invariant-out
invariant-out g l =
    (reports (marking (happened_by l.step (g.G.GateSessions.opened l.gate) (g.G.GateSessions.handed_up l.gate))) (drop l.outgoing-index (map routed_seen l.out)) l.self
    ≡ reports (marking (happened_by l.step (g.G.GateSessions.opened l.gate) (g.G.GateSessions.handed_up l.gate))) (map routed_seen l.out) l.initial.self)
    × ReportSmall (take l.outgoing-index (map routed_seen l.out))
    × (mark_records (marking (happened_by l.step (g.G.GateSessions.opened l.gate) (g.G.GateSessions.handed_up l.gate))) (map routed_seen l.out) ((l.initial.self).kept).marks ≡ []
    → mark_records (marking (happened_by l.step (g.G.GateSessions.opened l.gate) (g.G.GateSessions.handed_up l.gate))) (drop l.outgoing-index (map routed_seen l.out)) ((l.self).kept).marks ≡ [])
