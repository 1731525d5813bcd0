use Rattle.std.proofs.Common.{◌≡◌, ◌++◌, drop}
use Rattle.toml.specs.View.{items_view}
use Rattle.gate_config.specs.Meaning.{contacts_of}
use Rattle.gate_config.proofs.building.contacts_of.Given as goal

abbrev pub invariant-values : goal.invariant-values
invariant-values l = l.contacts.items ++ contacts_of (items_view (drop l.value-index l.values)) ≡ contacts_of (items_view l.values)
