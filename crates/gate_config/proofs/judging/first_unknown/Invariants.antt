use Rattle.std.proofs.Common.{◌≡◌}
use Rattle.toml.specs.View.{members_view, table_view}
use Rattle.gate_config.specs.Meaning.{first_unknown}
use Rattle.gate_config.proofs.judging.first_unknown.Given as goal

abbrev pub invariant-keys : goal.invariant-keys
invariant-keys l = first_unknown l.known (members_view l.key-iterator) ≡ first_unknown l.known (table_view l.table)
