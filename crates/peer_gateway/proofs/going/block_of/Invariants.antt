use Rattle.std.proofs.Common.{◌≡◌}
use Rattle.std.specs.List.{flat_map}
use Rattle.peer_gateway.specs.Going.{going_octets}
use Rattle.peer_gateway.proofs.going.block_of.Given as goal

abbrev pub invariant-each : goal.invariant-each
invariant-each l = l.block ≡ flat_map (going_octets l.settings l.face l.leaves) l.yielded
