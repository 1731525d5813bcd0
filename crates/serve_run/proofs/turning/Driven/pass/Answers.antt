use Rattle.serve_run.proofs.ActLemmas.{goes-shown, stopped-at-once}
use Rattle.serve_run.proofs.turning.Driven.pass.Goals as goal

pub returns-in-Ok-clause-goes : goal.returns-in-Ok-clause-goes
returns-in-Ok-clause-goes g c = λ state shows.
    let step = c.in-Ok.ensures.step state shows in
    goes-shown _ _ _ _ _ c.perform.result (rw step.effects_are at c.perform.ensures.goes) _ step.shows

pub returns-in-Err-clause-goes : goal.returns-in-Err-clause-goes
returns-in-Err-clause-goes g c = λ state shows. stopped-at-once _ _ _
