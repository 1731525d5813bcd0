use Rattle.std.proofs.Common.{◌≡◌, map}
use Rattle.path_world.specs.Ties.{up_at}
use Rattle.path_world.proofs.telling.ups_at.Given as goal

abbrev pub invariant-each : goal.invariant-each
invariant-each l = l.items.items ≡ map (up_at l.place) l.yielded
