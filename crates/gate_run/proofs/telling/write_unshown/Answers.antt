use Rattle.std.proofs.Common.{rules, refl}
use Rattle.gate_run.proofs.TellLemmas.{stops-unwritten, stops-unstored}
use Rattle.gate_run.proofs.telling.write_unshown.Goals as goal

pub returns-in_err-write_metrics_failed-clause-writes :
    goal.returns-in_err-write_metrics_failed-clause-writes
returns-in_err-write_metrics_failed-clause-writes g c =
    stops-unwritten c.from_residual.result _ _ (search rules) refl

pub returns-in_err-write_metrics_failed-clause-stores :
    goal.returns-in_err-write_metrics_failed-clause-stores
returns-in_err-write_metrics_failed-clause-stores g c =
    stops-unstored c.from_residual.result _ _ (search rules) refl
