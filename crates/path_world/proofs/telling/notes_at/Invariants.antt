use Rattle.std.proofs.Common.{◌≡◌, map}
use Rattle.path_laws.specs.Path.{note_from}
use Rattle.path_world.proofs.telling.notes_at.Given as goal

abbrev pub invariant-each : goal.invariant-each
invariant-each l = l.items.items ≡ map (note_from l.place) l.yielded
