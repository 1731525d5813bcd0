use Rattle.serve_run.proofs.ActLemmas.{goes-err, goes-last, turn-stopped, turn-between}
use Rattle.serve_run.proofs.turning.Driven.turn.Goals as goal

pub returns-in_err-half-clause-goes : goal.returns-in_err-half-clause-goes
returns-in_err-half-clause-goes g c = λ state shows.
    goes-err _ _ _ _ _ _ c.from_residual.result c.in_err-half.field-0.0 c.from_residual.ensures.1
    (turn-stopped g.T.TurnStep.rules state _ _ _ _ c.in_err-half.field-0.0 (c.in_err-half.ensures.goes state shows))

pub returns-clause-goes : goal.returns-clause-goes
returns-clause-goes g c = λ state shows.
    let (between, shown, going) = turn-between g.T.TurnStep.rules state _ _ _ _ _ (c.in_ok-half.ensures.goes state shows) in
    goes-last _ _ _ _ _ _ _ _ _ c.half-2.result going (c.half-2.ensures.goes between shown)
