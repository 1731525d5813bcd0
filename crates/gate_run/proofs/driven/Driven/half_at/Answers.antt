use Rattle.std.proofs.Common.{rules}
use Rattle.gate_run.specs.Stages.{half_over, hears_over}
use Rattle.gate_run.proofs.HalfLemmas.{half-unheard, half-goes}
use Rattle.gate_run.proofs.TellLemmas.{stops-unwritten, stops-unstored}
use Rattle.gate_run.proofs.driven.Driven.half_at.Goals as goal

pub returns-in_err-hear-clause-goes : goal.returns-in_err-hear-clause-goes
returns-in_err-hear-clause-goes g c = λ p shown is told.
    half-unheard _ (half_over c.args.board c.args.face p) c.from_residual.result _ _ _ (search rules)
    c.in_err-hear.ensures.made

pub returns-in_err-hear-clause-writes : goal.returns-in_err-hear-clause-writes
returns-in_err-hear-clause-writes g c =
    stops-unwritten c.from_residual.result _ _ (search rules) c.in_err-hear.ensures.writes

pub returns-in_err-hear-clause-stores : goal.returns-in_err-hear-clause-stores
returns-in_err-hear-clause-stores g c =
    stops-unstored c.from_residual.result _ _ (search rules) c.in_err-hear.ensures.stores

pub returns-clause-goes : goal.returns-clause-goes
returns-clause-goes g c = λ p shown is told.
    half-goes _ c.args.board c.args.face p c.answer.result _ _ _ _ c.in_ok-hear.ensures.made
    (c.answer.ensures.goes (hears_over c.args.face p) (c.in_ok-hear.ensures.at p shown is told))
