use Rattle.std.proofs.Common.{◌≡◌, drop}
use Rattle.toml.specs.View.{items_view}
use Rattle.gate_config.specs.Meaning.{contacts_refusal}
use Rattle.gate_config.proofs.judging.judge_contacts.Given as goal

abbrev pub invariant-values : goal.invariant-values
invariant-values l = contacts_refusal l.face l.index l.before (items_view (drop l.index l.values)) ≡ contacts_refusal l.face 0 0 (items_view l.values)
