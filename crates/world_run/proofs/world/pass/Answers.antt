use Rattle.std.proofs.Common.{refl, inl}
use Rattle.std.proofs.lemmas.Result.{on_err_weaker}
use Rattle.std.specs.String.{string_bytes}
use Rattle.path_laws.specs.Path.{clock_shows}
use Rattle.world_run.proofs.StepLemmas.{done_turn, has_text, on_time}
use Rattle.world_run.proofs.world.pass.Goals as goal

pub returns-clause-turn : goal.returns-clause-turn
returns-clause-turn c = λ s w stands.
    done_turn c.args.path.now c.clock.new.self (clock_shows c.args.now) c.in_ok-effects.effects s w stands c.in_ok-effects.ensures.done.happens
    (on_time c.args.now c.requires.moment) (string_bytes c.args.text.now) (string_bytes c.tell.new.text) _ c.tell.result refl c.tell.ensures.told

pub returns-clause-memory : goal.returns-clause-memory
returns-clause-memory c = λ s w stands.
    on_err_weaker c.tell.result
    (λ wanted. inl (has_text c.args.path.now c.clock.new.self (clock_shows c.args.now) c.in_ok-effects.effects s w stands
    c.in_ok-effects.ensures.done.happens (on_time c.args.now c.requires.moment) refl wanted.0 wanted.1))
    c.tell.ensures.memory
