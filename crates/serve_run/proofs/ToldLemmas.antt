-- A run over links and a clock that tell all of how they go on.
use Rattle.std.proofs.Common.{◌≡◌, refl, ◌∙◌, ap}
use Rattle.serve_run.specs.Serve.{serve_turns}
use Rattle.serve_run.specs.Told.{IsExactWhereTold, link_of, outside_of}

pub told-exact : IsExactWhereTold
told-exact gate count before now sink sink_now old new old_failing new_failing shows later a b c d e ran =
    let run = serve_turns gate count in
    let gives_old = rw a at ran.told.old.gives in
    let fails_old = rw b at ran.told.old.failing in
    let gives_new = rw c at ran.told.new.gives in
    let fails_new = rw d at ran.told.new.failing in
    let clock = rw e at ran.told.clock in
    let same : ran.outside ≡ outside_of (link_of old old_failing) (link_of new new_failing) shows later =
    rw (← gives_old, ← fails_old, ← gives_new, ← fails_new, ← clock.0, ← clock.1) refl in
    let made : ran.made ≡ (run (outside_of (link_of old old_failing) (link_of new new_failing) shows later)).made =
    ran.went.0 ∙ ap (λ o. (run o).made) same in
    record {
      wrote = rw made at ran.wrote;
      old = rw made at ran.links.old.gone;
      new = rw made at ran.links.new.gone;
      trace = rw made at ran.trace;
    }
