use Rattle.serve_run.proofs.ActLemmas.{taken-none, taken-some, stopped-at-once}
use Rattle.serve_run.proofs.turning.Driven.take.Goals as goal

pub returns-in_default-clause-goes : goal.returns-in_default-clause-goes
returns-in_default-clause-goes g c = λ state polled shows is.
    taken-none _ g.T.TurnStep.rules c.args.face c.args.now c.args.self.now.buffer.items state _ c.args.came c.in_default.is polled is _ shows

pub returns-in-Ok-clause-goes : goal.returns-in-Ok-clause-goes
returns-in-Ok-clause-goes g c = λ state polled shows is.
    taken-some _ g.T.TurnStep.rules c.args.face c.args.now c.args.self.now.buffer.items state _ _ c.args.came c.in-Some.n c.in-Some.is polled is _ _
    c.perform.result _ (rw c.deref.ensures.value at c.in-Ok.ensures.step state shows) c.perform.ensures.goes

pub returns-in-Err-clause-goes : goal.returns-in-Err-clause-goes
returns-in-Err-clause-goes g c = λ state polled shows is. stopped-at-once _ _ _
