use Rattle.std.proofs.Common.{◌≡◌, map}
use Rattle.path_laws.specs.Path.{join_from}
use Rattle.path_world.proofs.telling.joins_at.Given as goal

abbrev pub invariant-each : goal.invariant-each
invariant-each l = l.items.items ≡ map (join_from l.place) l.yielded
