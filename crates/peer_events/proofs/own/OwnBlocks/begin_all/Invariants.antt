use Rattle.std.proofs.Common.{◌≡◌, ◌++◌, take, map}
use Rattle.peer_gateway.specs.Answers.{begun_seen}
use Rattle.peer_events.specs.Own.{own_with}
use Rattle.peer_events.proofs.own.OwnBlocks.begin_all.Given as goal

abbrev pub invariant-begun : goal.invariant-begun
invariant-begun l = l.self ≡ l.initial.self ++ map own_with (map begun_seen (take l.one-index l.begun))
