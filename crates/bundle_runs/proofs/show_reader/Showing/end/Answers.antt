use Rattle.std.proofs.Common.{sym, ◌∙◌, arith, refl}
use Rattle.bundle_runs.proofs.ShowStepLemmas.{showing-after, show-finish-none, show-finish-room, show-finish-cut}
use Rattle.bundle_runs.proofs.show_reader.Showing.end.Goals as goal

pub returns-in-None-clause-finished : goal.returns-in-None-clause-finished
returns-in-None-clause-finished c = λ old shows.
    show-finish-none c.args.self.now old _ (sym c.take.ensures.value ∙ c.in-None.is) shows

pub overflow_add-self : goal.overflow_add-self
overflow_add-self c =
    let room = show-finish-room c.args.self.now c.in-Some.begun c.in-Some-finish.at c.requires.none_due c.requires.showing
    (sym c.take.ensures.value ∙ c.in-Some.is) c.in-Some-finish.ensures.cut in
    omega (arith, room)

pub returns-in_err-write_refused-in-Some-finish-clause-showing : goal.returns-in_err-write_refused-in-Some-finish-clause-showing
returns-in_err-write_refused-in-Some-finish-clause-showing c =
    showing-after c.args.self.now _ c.requires.showing refl refl refl c.take.ensures.after c.requires.none_due c.clear.ensures.items c.in-Some-finish.ensures.rests

pub returns-clause-showing : goal.returns-clause-showing
returns-clause-showing c =
    showing-after c.args.self.now _ c.requires.showing refl refl refl c.take.ensures.after c.requires.none_due c.clear.ensures.items c.in-Some-finish.ensures.rests

pub returns-clause-finished : goal.returns-clause-finished
returns-clause-finished c = λ old shows.
    show-finish-cut c.args.self.now old c.in-Some.begun c.in-Some-finish.at _ _ (sym c.take.ensures.value ∙ c.in-Some.is) shows
    c.in-Some-finish.ensures.cut c.in_ok-write_refused-in-Some-finish.ensures
