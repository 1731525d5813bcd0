use Rattle.std.proofs.Common.{rules, refl, option_map, None}
use Rattle.edge_traits.proofs.FaultsLemmas.{NoneFailed-same}
use Rattle.journal_file.specs.Ties.{kept_of}
use Rattle.peer_half.specs.Setup.{used_up}
use Rattle.gate_run.specs.Course.{run_over}
use Rattle.gate_run.proofs.TellLemmas.{none-failed}
use Rattle.gate_run.proofs.WholeLemmas.{none-made, gate-made, no-turn, unmade-used, went-without, not-memory}
use Rattle.gate_run.proofs.run.gate.Goals as goal

pub returns-then-turns-eq0-clause-made : goal.returns-then-turns-eq0-clause-made
returns-then-turns-eq0-clause-made g c =
    none-made c.args.file.now (option_map kept_of c.args.kept) c.args.turns _ _ (search rules)

pub returns-then-turns-eq0-clause-writes : goal.returns-then-turns-eq0-clause-writes
returns-then-turns-eq0-clause-writes g c = NoneFailed-same _

pub returns-then-turns-eq0-clause-stores : goal.returns-then-turns-eq0-clause-stores
returns-then-turns-eq0-clause-stores g c = NoneFailed-same _

pub returns-then-turns-eq0-clause-used : goal.returns-then-turns-eq0-clause-used
returns-then-turns-eq0-clause-used g c = no-turn _ c.args.turns _ (search rules)

pub returns-in-Some-clause-made : goal.returns-in-Some-clause-made
returns-in-Some-clause-made g c =
    unmade-used _ (λ ahead. run_over c.args.file.now (option_map kept_of c.args.kept) c.args.turns ahead) c.in-Some.face _ _
    c.read-reading.ensures.made

pub returns-in-Some-clause-writes : goal.returns-in-Some-clause-writes
returns-in-Some-clause-writes g c = none-failed _ _ c.read-reading.ensures.writes

pub returns-in-Some-clause-stores : goal.returns-in-Some-clause-stores
returns-in-Some-clause-stores g c = none-failed _ _ c.read-reading.ensures.stores

pub returns-in-Some-clause-used : goal.returns-in-Some-clause-used
returns-in-Some-clause-used g c =
    went-without _ _ c.read-reading.result c.args.turns (used_up c.args.file.now (option_map kept_of c.args.kept)) _ _
    c.read-reading.ensures.ahead c.in-Some.ensures refl

pub returns-in-Ok-clause-made : goal.returns-in-Ok-clause-made
returns-in-Ok-clause-made g c =
    gate-made _ _ c.read-reading.result c.args.file.now (option_map kept_of c.args.kept) c.args.turns c.run_from.result _ _ _
    c.read-reading.ensures.ahead c.read-reading.ensures.made
    (λ ahead. c.run_from.ensures.made (option_map kept_of c.args.kept) ahead c.in-Ok.ensures)

pub returns-in-Ok-clause-used : goal.returns-in-Ok-clause-used
returns-in-Ok-clause-used g c =
    went-without _ _ c.read-reading.result c.args.turns (used_up c.args.file.now (option_map kept_of c.args.kept)) None _
    c.read-reading.ensures.ahead (search rules) c.run_from.ensures.used

pub returns-in-Err-clause-writes : goal.returns-in-Err-clause-writes
returns-in-Err-clause-writes g c = none-failed _ _ c.read-reading.ensures.writes

pub returns-in-Err-clause-stores : goal.returns-in-Err-clause-stores
returns-in-Err-clause-stores g c = none-failed _ _ c.read-reading.ensures.stores

pub returns-in-Err-clause-used : goal.returns-in-Err-clause-used
returns-in-Err-clause-used g c =
    went-without _ _ c.read-reading.result c.args.turns (used_up c.args.file.now (option_map kept_of c.args.kept)) None _
    c.read-reading.ensures.ahead (search rules) not-memory
