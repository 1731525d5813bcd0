use Rattle.std.proofs.Common.{◌≡◌, map}
use Rattle.peer_gateway.specs.Answers.{put_seen, routed_seen}
use Rattle.peer_half.specs.Steps.{putting_all}
use Rattle.peer_live.proofs.faces.Faces.put_all.Given as goal

abbrev pub invariant-putting : goal.invariant-putting
invariant-putting l =
    putting_all (map put_seen l.outgoing-iterator.rest.items) (map routed_seen l.outgoing-iterator.rest.items) l.self
    ≡ putting_all (map put_seen l.fn.out.items) (map routed_seen l.fn.out.items) l.initial.self
