use Rattle.gate_run.specs.Stages.{commits_over, sends_and_tells, answers_over}
use Rattle.gate_run.proofs.MadeLemmas.{err-is, goes-err, goes-on, stops-first}
use Rattle.gate_run.proofs.TellLemmas.{stops-after, stores-after}
use Rattle.gate_run.proofs.driven.Driven.answer.Goals as goal

pub returns-in_err-commit-clause-goes : goal.returns-in_err-commit-clause-goes
returns-in_err-commit-clause-goes g c = λ p at.
    goes-err _ (answers_over c.args.board p) c.from_residual.result c.in_err-commit.field-0.0 _ _ _
    (err-is _ _ c.from_residual.ensures.1)
    (stops-first (commits_over p) (sends_and_tells c.args.board) _ _ (c.in_err-commit.ensures.goes p at))

pub returns-clause-goes : goal.returns-clause-goes
returns-clause-goes g c = λ p at.
    let made = c.in_ok-commit.ensures.goes p at in
    goes-on _ (commits_over p) (sends_and_tells c.args.board) c.send_and_tell.result _ _ _ _
    made.made (c.send_and_tell.ensures.goes (commits_over p).point made.at)

pub returns-clause-writes : goal.returns-clause-writes
returns-clause-writes g c =
    stops-after c.send_and_tell.result _ _ _ c.in_ok-commit.ensures.writes c.send_and_tell.ensures.writes

pub returns-clause-stores : goal.returns-clause-stores
returns-clause-stores g c =
    stores-after c.send_and_tell.result _ _ _ c.in_ok-commit.ensures.stores c.send_and_tell.ensures.stores
