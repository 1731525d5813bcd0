use Rattle.std.proofs.Common.{◌≡◌, take, drop, map}
use Rattle.peer_gateway.specs.Answers.{added_seen}
use Rattle.peer_records.specs.Laws.{AreShort}
use Rattle.peer_records.proofs.SaidLemmas.{begins}
use Rattle.peer_records.proofs.said.Said.begin_all.Given as goal

abbrev pub invariant-added : goal.invariant-added
invariant-added l =
    (begins (map added_seen (drop l.one-index l.added)) l.self ≡ begins (map added_seen l.added) l.initial.self)
    × AreShort (map added_seen (take l.one-index l.added))
