use Rattle.std.proofs.Common.{◌≡◌, map, take}
use Rattle.gate_face.specs.Schedules as spec
use Rattle.gate_face.proofs.schedules.rates_of.Given as goal

abbrev pub invariant-contacts : goal.invariant-contacts
invariant-contacts l = l.rates.items ≡ map spec.own_rate (take l.contact-index l.contacts)
