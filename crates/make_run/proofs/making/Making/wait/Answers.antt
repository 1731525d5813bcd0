use Rattle.std.proofs.Common.{◌≡◌, ◌+◌, ◌<◌, ◌^◌, refl, inl, arith}
use Rattle.std.proofs.Math.Path.{subst}
use Rattle.path_laws.specs.Path.{clock_shows}
use Rattle.world_run.proofs.StepLemmas.{on_time, has_text}
use Rattle.make_run.specs.Ties.{Plays}
use Rattle.make_run.proofs.PlayLemmas.{plays-done, waits-as}
use Rattle.make_run.proofs.making.Making.wait.Goals as goal

pub returns-clause-plays : goal.returns-clause-plays
returns-clause-plays c = λ s w stands.
    let early : c.saturating_add-now.result < 2 ^ 62 = omega (arith, c.if-now-ge-NO_MOMENT.false) in
    let sum : c.saturating_add-now.result ≡ c.now.result + c.args.ms = omega (arith, c.saturating_add-now.ensures, early) in
    subst (λ event. Plays s w event c.args.self.now c.tell.new.self c.tell.result)
    (waits-as c.args.self.now.path s w stands c.now.result c.saturating_add-now.result c.args.ms c.now.ensures sum)
    (plays-done c.args.self.now (record c.args.self.now { path = c.clock.new.self }) c.tell.new.self (clock_shows c.saturating_add-now.result)
    c.in_ok-effects.effects s w stands c.in_ok-effects.ensures.done.happens refl refl c.tell.ensures.path
    (on_time c.saturating_add-now.result early) refl
    c.tell.result c.tell.ensures.few c.tell.ensures.past c.tell.ensures.takes
    (λ is. let wanted = c.tell.ensures.memory is in
    inl (has_text c.args.self.now.path c.clock.new.self (clock_shows c.saturating_add-now.result) c.in_ok-effects.effects s w stands
    c.in_ok-effects.ensures.done.happens (on_time c.saturating_add-now.result early) refl wanted.0 wanted.1)))
