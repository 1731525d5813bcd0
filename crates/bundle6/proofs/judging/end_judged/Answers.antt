-- The pass ends where the bundle does, or it is refused as the bundle is.
use Rattle.bundle6.proofs.PassLemmas.{judges-ended, judges-stopped}
use Rattle.bundle6.proofs.judging.end_judged.Goals as goal

pub returns-in_default-None : goal.returns-in_default-None
returns-in_default-None c =
    judges-ended c.args.most c.args.text.now c.run.result.0 c.run.ensures.stands
    (rw c.in_default-None.is-1 at c.run.ensures.comes)

pub returns-in_default-Some : goal.returns-in_default-Some
returns-in_default-Some c =
    judges-stopped c.args.most c.args.text.now c.in_default-Some.refused
    (rw c.in_default-Some.is-1 at c.run.ensures.comes)
