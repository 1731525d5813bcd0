use Rattle.std.proofs.Common.{◌≡◌, ◌++◌, drop, false}
use Rattle.toml_writer.specs.Text.{escaped}
use Rattle.gate_config.proofs.output.push_escaped.Given as goal

abbrev pub invariant-octets : goal.invariant-octets
invariant-octets l = l.text.items ++ escaped false 0 (drop l.octet-index l.octets) ≡ l.initial.text.items ++ escaped false 0 l.octets
