use Rattle.std.proofs.Common.{◌≡◌, take}
use Rattle.gate_face.specs.Schedules as spec
use Rattle.gate_face.proofs.schedules.windows_of.Given as goal

abbrev pub invariant-contacts : goal.invariant-contacts
invariant-contacts l = l.windows.items ≡ spec.windows_of (take l.contact-index l.contacts)
