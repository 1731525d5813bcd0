use Rattle.std.proofs.Common.{sym, ◌∙◌, arith}
use Rattle.bundle_runs.proofs.CheckStepLemmas.{shadowed-after, check-finish-none, check-finish-room, check-finish-cut}
use Rattle.bundle_runs.proofs.check_reader.Checking.finish.Goals as goal

pub returns-in-None-clause-finished : goal.returns-in-None-clause-finished
returns-in-None-clause-finished c = λ old shadows.
    check-finish-none c.args.self.now old _ (sym c.take.ensures.value ∙ c.in-None.is) shadows

pub overflow_add-self : goal.overflow_add-self
overflow_add-self c =
    let room = check-finish-room c.args.self.now c.requires.shadowed.0 c.in-Some.begun c.in-Some-finish.at
    (sym c.take.ensures.value ∙ c.in-Some.is) c.requires.shadowed.1 c.in-Some-finish.ensures in
    omega (arith, room)

pub returns-in_err-write_refused-in-Some-finish-clause-shadowed : goal.returns-in_err-write_refused-in-Some-finish-clause-shadowed
returns-in_err-write_refused-in-Some-finish-clause-shadowed c = rw c.take.ensures.after (shadowed-after c.args.self.now c.requires.shadowed)

pub returns-clause-shadowed : goal.returns-clause-shadowed
returns-clause-shadowed c = rw c.take.ensures.after (shadowed-after c.args.self.now c.requires.shadowed)

pub returns-clause-finished : goal.returns-clause-finished
returns-clause-finished c = λ old shadows.
    check-finish-cut c.args.self.now old c.in-Some.begun c.in-Some-finish.at _ _ (sym c.take.ensures.value ∙ c.in-Some.is) shadows
    c.in-Some-finish.ensures c.in_ok-write_refused-in-Some-finish.ensures
