use Rattle.std.proofs.Common.{◌≡◌, drop}
use Rattle.toml.specs.View.{items_view}
use Rattle.gate_config.specs.Values.{all_tables}
use Rattle.gate_config.proofs.values.all_tables.Given as goal

abbrev pub invariant-values : goal.invariant-values
invariant-values l = all_tables (items_view (drop l.value-index l.values)) ≡ all_tables (items_view l.values)
