use Rattle.std.proofs.Common.{rules, refl}
use Rattle.gate_run.proofs.TellLemmas.{stops-unwritten, stops-unstored}
use Rattle.gate_run.proofs.storing.commit.Goals as goal

pub returns-in_err-reserve-clause-writes : goal.returns-in_err-reserve-clause-writes
returns-in_err-reserve-clause-writes g c = stops-unwritten c.from_residual.result _ _ (search rules) refl

pub returns-in_err-reserve-clause-stores : goal.returns-in_err-reserve-clause-stores
returns-in_err-reserve-clause-stores g c = stops-unstored c.from_residual.result _ _ (search rules) refl
