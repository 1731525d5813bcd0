use Rattle.std.proofs.Common.{◌≡◌, map}
use Rattle.gateway_core.specs.Effects.{datagram_at}
use Rattle.gateway_core.proofs.effects.all_datagrams_at.Given as goal

abbrev pub invariant-each : goal.invariant-each
invariant-each l = l.items.items ≡ map (datagram_at l.face) l.yielded
