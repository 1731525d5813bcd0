use Rattle.std.proofs.Common.{rules, refl}
use Rattle.gate_run.proofs.TellLemmas.{none-failed, stops-unwritten, stops-unstored}
use Rattle.gate_run.proofs.telling.show.Goals as goal

pub returns-in_err-write_metrics-clause-writes : goal.returns-in_err-write_metrics-clause-writes
returns-in_err-write_metrics-clause-writes g c =
    stops-unwritten c.from_residual.result _ _ (search rules) refl

pub returns-in-Ok-clause-writes : goal.returns-in-Ok-clause-writes
returns-in-Ok-clause-writes g c = none-failed _ _ c.show.ensures.writes

pub returns-in_err-write_metrics-clause-stores : goal.returns-in_err-write_metrics-clause-stores
returns-in_err-write_metrics-clause-stores g c =
    stops-unstored c.from_residual.result _ _ (search rules) refl

pub returns-in-Ok-clause-stores : goal.returns-in-Ok-clause-stores
returns-in-Ok-clause-stores g c = none-failed _ _ c.show.ensures.stores
