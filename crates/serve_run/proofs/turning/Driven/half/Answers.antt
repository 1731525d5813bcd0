use Rattle.serve_run.proofs.ActLemmas.{goes-err, goes-last, Going-passed, Going-stopped, half-read, after-pass, polled-half, polled-stopped-half}
use Rattle.serve_run.proofs.turning.Driven.half.Goals as goal

pub returns-in_err-pass-clause-goes : goal.returns-in_err-pass-clause-goes
returns-in_err-pass-clause-goes g c = λ state shows.
    goes-err _ _ _ _ _ _ c.from_residual.result c.in_err-pass.field-0.0 c.from_residual.ensures.1
    (Going-stopped c.in_err-pass.field-0.0 _ _ (λ x. after-pass g.T.TurnStep.rules c.args.face state c.now-now.result) _ _ _ _ _ _
    (half-read g.T.TurnStep.rules c.args.face state c.now-now.result _ _ _ _ c.now-now.ensures.read c.now-now.ensures.sink)
    (c.in_err-pass.ensures.goes state shows))

pub returns-in_err-came-clause-goes : goal.returns-in_err-came-clause-goes
returns-in_err-came-clause-goes g c = λ state shows.
    let (x, shown, going) = Going-passed _ _ _ (λ x. after-pass g.T.TurnStep.rules c.args.face state c.now-now.result) _ _ _ _ _ _
    (half-read g.T.TurnStep.rules c.args.face state c.now-now.result _ _ _ _ c.now-now.ensures.read c.now-now.ensures.sink)
    (c.in_ok-pass.ensures.goes state shows) in
    goes-err _ _ _ _ _ _ c.from_residual-in_err-came.result c.in_err-came.field-0.0 c.from_residual-in_err-came.ensures.1
    (polled-stopped-half g.T.TurnStep.rules c.args.face state c.now-now.result _ _ _ _ _ _ c.in_err-came.field-0.0 going c.in_err-came.ensures.goes)

pub returns-clause-goes : goal.returns-clause-goes
returns-clause-goes g c = λ state shows.
    let (x, shown, going) = Going-passed _ _ _ (λ x. after-pass g.T.TurnStep.rules c.args.face state c.now-now.result) _ _ _ _ _ _
    (half-read g.T.TurnStep.rules c.args.face state c.now-now.result _ _ _ _ c.now-now.ensures.read c.now-now.ensures.sink)
    (c.in_ok-pass.ensures.goes state shows) in
    let (polled, is, going_on) = polled-half g.T.TurnStep.rules c.args.face state c.now-now.result _ _ _ _ _ _ _ going c.in_ok-came.ensures.goes in
    goes-last _ _ _ _ _ _ _ _ _ c.take.result going_on
    (c.take.ensures.goes (g.T.TurnStep.rules.tick c.now-now.result state).state polled (rw c.poll.ensures.kept shown) is)
