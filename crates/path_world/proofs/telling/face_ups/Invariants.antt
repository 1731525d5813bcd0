use Rattle.std.proofs.Common.{◌≡◌, map}
use Rattle.path_laws.specs.Path.{gate_up}
use Rattle.path_world.proofs.telling.face_ups.Given as goal

abbrev pub invariant-each : goal.invariant-each
invariant-each l = l.items.items ≡ map gate_up l.yielded
