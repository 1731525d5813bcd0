use Rattle.std.proofs.Common.{◌≡◌, drop, map}
use Rattle.peer_gateway.specs.Answers.{begun_seen}
use Rattle.peer_events.specs.Counts.{with_begun}
use Rattle.peer_events.proofs.telling.count_begun.Given as goal

abbrev pub invariant-begun : goal.invariant-begun
invariant-begun l =
    with_begun (map begun_seen (drop l.one-index l.begun)) l.log ≡ with_begun (map begun_seen l.begun) l.initial.log
