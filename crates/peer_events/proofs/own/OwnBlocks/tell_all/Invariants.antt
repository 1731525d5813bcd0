use Rattle.std.proofs.Common.{drop, map, IfSome}
use Rattle.gate_events.specs.Log.{after_saying_all}
use Rattle.peer_gateway.specs.Answers.{told_seen}
use Rattle.peer_events.specs.Events.{events_of, own_left}
use Rattle.peer_events.specs.Named.{HasTexts}
use Rattle.peer_events.proofs.EventLemmas.{LeavesOwn, LeavesSaid}
use Rattle.peer_events.proofs.own.OwnBlocks.tell_all.Given as goal

abbrev pub invariant-told : goal.invariant-told
invariant-told g l =
    LeavesOwn (g.O.OpenSessions.opened l.gateway) l.self (drop l.at-index l.told)
    (own_left (g.O.OpenSessions.opened l.gateway) l.initial.self (map told_seen l.told))
    × LeavesSaid (g.O.OpenSessions.opened l.gateway) l.self l.about (drop l.at-index l.told) l.log
    (after_saying_all (events_of (g.O.OpenSessions.opened l.gateway) l.initial.self (map told_seen l.told)) l.initial.log)
    × IfSome l.about HasTexts
