use Rattle.std.proofs.Common.{◌≡◌, map}
use Rattle.gateway_core.specs.Effects.{told_at}
use Rattle.gateway_core.proofs.effects.all_ups_at.Given as goal

abbrev pub invariant-each : goal.invariant-each
invariant-each l = l.items.items ≡ map (told_at l.face) l.yielded
