use Rattle.std.proofs.Common.{◌≡◌, ◌++◌, drop}
use Rattle.gate_config.specs.Shown.{contacts_shown}
use Rattle.gate_config.proofs.showing.push_contacts.Given as goal

abbrev pub invariant-contacts : goal.invariant-contacts
invariant-contacts l = l.text.items ++ contacts_shown l.face (drop l.contact-index l.contacts) ≡ l.initial.text.items ++ contacts_shown l.face l.contacts
