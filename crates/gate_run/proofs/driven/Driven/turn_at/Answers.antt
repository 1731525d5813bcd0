use Rattle.gate_cases.specs.declared.face.Face.TheVariants.{Old, New}
use Rattle.gate_run.specs.Stages.{half_over, turn_over}
use Rattle.gate_run.proofs.MadeLemmas.{err-is, goes-err, goes-on, stops-first}
use Rattle.gate_run.proofs.TellLemmas.{stops-after, stores-after}
use Rattle.gate_run.proofs.driven.Driven.turn_at.Goals as goal

pub returns-in_err-half_at-clause-goes : goal.returns-in_err-half_at-clause-goes
returns-in_err-half_at-clause-goes g c = λ p shown is told.
    goes-err _ (turn_over c.args.board p) c.from_residual.result c.in_err-half_at.field-0.0 _ _ _
    (err-is _ _ c.from_residual.ensures.1)
    (stops-first (half_over c.args.board Old p) (half_over c.args.board New) _ _
    (c.in_err-half_at.ensures.goes p shown is told))

pub returns-clause-goes : goal.returns-clause-goes
returns-clause-goes g c = λ p shown is told.
    let made = c.in_ok-half_at.ensures.goes p shown is told in
    goes-on _ (half_over c.args.board Old p) (half_over c.args.board New) c.half.result _ _ _ _
    made.made (c.half.ensures.goes (half_over c.args.board Old p).point made.at)

pub returns-clause-writes : goal.returns-clause-writes
returns-clause-writes g c =
    stops-after c.half.result _ _ _ c.in_ok-half_at.ensures.writes c.half.ensures.writes

pub returns-clause-stores : goal.returns-clause-stores
returns-clause-stores g c =
    stores-after c.half.result _ _ _ c.in_ok-half_at.ensures.stores c.half.ensures.stores
