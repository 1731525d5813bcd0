-- The steps so far, and one more.
use Rattle.std.proofs.Common.{arith}
use Rattle.std.proofs.lemmas.List.{length-drop, take_rest}
use Rattle.bundle_judges.specs.Stand7.{Moves}
use Rattle.bundle_judges.proofs.RunLemmas7.{so_far-start, so_far-more, step-within}
use Rattle.bundle_judges.proofs.stand7.Stand.run.Goals as goal

pub steps-preserved : goal.steps-preserved
steps-preserved c =
    let text = c.steps.invariant.there.0 in
    let stands = c.steps.invariant.there.1 in
    let is = c.steps.invariant.there.2 in
    let moves : Moves text c.steps.self c.in-After.more c.step.new.self = (rw c.in-After.is at c.in_ok-more.ensures) text stands is in
    let now = so_far-more text c.steps.self c.steps.self c.step.new.self c.steps.rest.now c.in-After.more
    (so_far-start text c.steps.self c.steps.rest.now stands is) moves in
    let within = step-within text c.steps.self c.step.new.self c.steps.rest.now c.in-After.more stands is moves in
    rw (take_rest c.steps.rest.now c.in-After.more) (record {
      there = (text, moves.stands, now.left);
      counted = omega (arith, c.steps.invariant.counted, moves.came, within.0, length-drop c.in-After.more c.steps.rest.now);
      so_far = λ text stands is.
          let so_far = c.steps.invariant.so_far text stands is in
          so_far-more text _ c.steps.self c.step.new.self c.steps.rest.now c.in-After.more so_far
          ((rw c.in-After.is at c.in_ok-more.ensures) text so_far.stands so_far.left);
    })
