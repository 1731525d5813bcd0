use Rattle.std.proofs.Common.{◌≡◌, map, take}
use Rattle.gate_face.specs.Kept.{end_in}
use Rattle.gate_face.specs.Schedules as spec
use Rattle.gate_face.proofs.schedules.ends_of.Given as goal

abbrev pub invariant-contacts : goal.invariant-contacts
invariant-contacts l = l.ends.items ≡ map end_in (spec.windows_of (take l.contact-index l.contacts))
