use Rattle.std.proofs.Common.{◌≡◌, map}
use Rattle.gateway_core.specs.Gate.{engine_note_at}
use Rattle.gateway_core.proofs.effects.all_notes_at.Given as goal

abbrev pub invariant-each : goal.invariant-each
invariant-each l = l.items.items ≡ map (engine_note_at l.face) l.yielded
