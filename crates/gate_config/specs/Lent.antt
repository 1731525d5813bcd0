-- What is lent out of a document, seen as the definitions see it.

use Rattle.std.specs.Prelude.{Option, Some, None, option_map, Result, Ok, Err}
use Rattle.std.specs.Borrow.{Bor}
use Rattle.toml.specs.declared.value.Value.{Value}
use Rattle.toml.specs.Data.{Data}
use Rattle.toml.specs.View.{view}
use Rattle.gate_config.specs.declared.fault.Refusal.{Refusal}
use Rattle.gate_config.specs.declared.fault.Refusal.TheVariants as refusals
use Rattle.gate_config.specs.declared.fault.Flaw.{Flaw}
use Rattle.gate_config.specs.declared.fault.Flaw.TheVariants as flaws

abbrev pub seen : Option (Bor Value) → Option Data
seen value = option_map (λ v. view v.now) value

abbrev pub refusal_for : Flaw → Refusal
refusal_for (flaws.NoKey within key) = refusals.NoKey within key.now
refusal_for (flaws.Wrong within key wanted) = refusals.Wrong within key wanted

abbrev pub told : Result (Unit {0}) Flaw → Option Refusal
told (Ok _) = None
told (Err flaw) = Some (refusal_for flaw)
