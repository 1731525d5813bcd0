-- The primary block, of which some octets more are kept.
use Rattle.std.proofs.Common.{Ok, refl, arith}
use Rattle.bundle_judges.proofs.StepLemmas7.{steps-same}
use Rattle.bundle_judges.proofs.StartLemmas7.{chunk-joins, start-late, start-starts, start-waited, start-refused, with_main}
use Rattle.bundle_judges.proofs.stand7.Stand.start_on.Goals as goal

pub overflow_sub-end : goal.overflow_sub-end
overflow_sub-end c =
    let text = c.requires.there.0 in
    let chunk = chunk-joins text c.args.rest.now _ c.args.self.now c.extend_from_slice.new.self.items _ c.requires.there.1 c.requires.stage c.requires.there.2
    refl c.in_ok-extend_from_slice.ensures.items in
    omega (arith, start-late text c.args.self.now _ _ c.in-Ok.end _ chunk (rw c.as_slice.ensures.value at c.in-Ok.ensures.exact))

pub returns-in-Ok : goal.returns-in-Ok
returns-in-Ok c = λ text stands is.
    let chunk = chunk-joins text c.args.rest.now _ c.args.self.now c.extend_from_slice.new.self.items _ stands c.requires.stage is
    refl c.in_ok-extend_from_slice.ensures.items in
    let s = with_main c.args.self.now c.clear.new.self in
    steps-same text c.args.self.now s (Ok c.started.result) c.started.new.self refl refl refl
    (c.started.ensures text (start-starts text c.args.self.now s _ _ c.in-Ok.end c.in-Ok.part stands c.requires.stage chunk
    (rw c.as_slice.ensures.value at c.in-Ok.ensures.within.within) (rw c.as_slice.ensures.value at c.in-Ok.ensures.exact) refl refl c.clear.ensures.items))

pub returns-in-Truncated : goal.returns-in-Truncated
returns-in-Truncated c = λ text stands is.
    let chunk = chunk-joins text c.args.rest.now _ c.args.self.now c.extend_from_slice.new.self.items _ stands c.requires.stage is
    refl c.in_ok-extend_from_slice.ensures.items in
    rw c.wait.ensures.step
    (start-waited text c.args.rest.now c.args.self.now c.wait.new.self c.extend_from_slice.new.self c.min.result _ c.in-Err.refused.at stands c.requires.stage is c.min.ensures refl
    chunk c.wait.ensures.stand (rw c.in-Truncated.is at (rw c.as_slice.ensures.value at c.in-Err.ensures.exact)) c.requires.begun)

pub returns-in_default : goal.returns-in_default
returns-in_default c = λ text stands is.
    let chunk = chunk-joins text c.args.rest.now _ c.args.self.now c.extend_from_slice.new.self.items _ stands c.requires.stage is
    refl c.in_ok-extend_from_slice.ensures.items in
    rw c.into.ensures
    (start-refused text c.args.self.now _ _ c.in-Err.refused.at c.in-Err.refused.cause chunk
    (rw c.as_slice.ensures.value at c.in-Err.ensures.exact) c.in_default.not-Truncated)
