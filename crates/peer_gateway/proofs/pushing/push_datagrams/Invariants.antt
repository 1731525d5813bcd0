use Rattle.std.proofs.Common.{◌≡◌, ◌++◌, map}
use Rattle.gateway_core.specs.Effects.{datagram_at}
use Rattle.peer_gateway.specs.Queue.{puts_by, queue_after}
use Rattle.peer_gateway.specs.Answers.{routed_seen, put_seen}
use Rattle.peer_gateway.proofs.pushing.push_datagrams.Given as goal

abbrev pub invariant-each : goal.invariant-each
invariant-each l =
    (map routed_seen l.out.items ≡ map routed_seen l.initial.out.items ++ map (datagram_at l.face) l.yielded)
    × (map put_seen l.out.items ≡ map put_seen l.initial.out.items ++ puts_by l.initial.queue l.yielded)
    × (l.queue ≡ queue_after l.initial.queue l.yielded)
