use Rattle.gate_run.specs.Comes.{most_polls}
use Rattle.gate_run.specs.Stages.{polls_within}
use Rattle.gate_run.proofs.HalfLemmas.{heard-so}
use Rattle.gate_run.proofs.driven.Driven.hear.Goals as goal

pub returns-clause-at : goal.returns-clause-at
returns-clause-at g c = λ p shown is told.
    heard-so _ _ _ _ c.args.face c.args.reading p is told
    (c.in_ok-tick.ensures _ (c.in_ok-resume.ensures.after _ (c.in_ok-read.ensures.after p.standing shown)))
    (λ q at. c.count_foreign.ensures.at (polls_within most_polls c.args.face q) (c.in_ok-polls.ensures.at q at))
