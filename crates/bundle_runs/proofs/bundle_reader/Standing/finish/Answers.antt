use Rattle.std.proofs.Common.{◌≡◌, Some, sym, ◌∙◌, ap, arith}
use Rattle.bundle_runs.specs.Taking.{kept_by}
use Rattle.bundle_runs.proofs.TakingLemmas.{finish-none, finish-cut, cut-inside}
use Rattle.bundle_runs.proofs.bundle_reader.Standing.finish.Goals as goal

pub returns-in-None-clause-finished : goal.returns-in-None-clause-finished
returns-in-None-clause-finished c =
    rw c.status.ensures.is (finish-none c.args.self.now _ (ap kept_by (sym c.take.ensures.value ∙ c.in-None.is)))

pub overflow_add-self : goal.overflow_add-self
overflow_add-self c =
    let begun : c.args.self.now.unfinished ≡ Some c.in-Some.unfinished = sym c.take.ensures.value ∙ c.in-Some.is in
    let inside = cut-inside c.in-Some.unfinished c.in-Some-finish.at (rw begun at c.requires.sound.begun) c.in-Some-finish.ensures.0 in
    let held = rw begun at c.requires.sound.held in
    omega (arith, inside, held, c.requires.sound.within)

pub returns-clause-finished : goal.returns-clause-finished
returns-clause-finished c =
    let begun : c.args.self.now.unfinished ≡ Some c.in-Some.unfinished = sym c.take.ensures.value ∙ c.in-Some.is in
    finish-cut c.args.self.now c.in-Some.unfinished c.in-Some-finish.at _ _ begun
    (rw begun at c.requires.sound.begun) c.in-Some-finish.ensures.0
    c.in_ok-write_refused-in-Some-finish.ensures
