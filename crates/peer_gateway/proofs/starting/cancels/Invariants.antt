use Rattle.std.proofs.Common.{◌≡◌, ◌++◌, map, drop}
use Rattle.ltp_segment.specs.Spelling.{segment_octets}
use Rattle.peer_gateway.specs.Views.{cancels_of}
use Rattle.peer_gateway.proofs.starting.cancels.Given as goal

abbrev pub invariant-each : goal.invariant-each
invariant-each l =
    l.out ++ map segment_octets (cancels_of l.peer (drop l.mark-index l.marks)) ≡ map segment_octets (cancels_of l.peer l.marks)
