use Rattle.std.proofs.Common.{length, arith, sym, ◌∙◌, ap, subst}
use Rattle.path_world.specs.Shows.{AreBounded}
use Rattle.path_world.specs.Values.{PathValue}
use Rattle.path_world.proofs.DrainWearLemmas.{live-stands, tick-clock, tick-told, unspent}
use Rattle.path_world.proofs.world.PathWorld.tick_to.Goals as goal

pub returns-clause-done : goal.returns-clause-done
returns-clause-done c =
    tick-told c.args.self.now c.clock.new.self _ c.args.deadline c.in_ok-effects.effects c.args.steps.now.items c.push.new.self.items c.in_ok-effects.ensures.done.happens c.requires.moment c.requires.due
    (unspent c.self-2.inside.spent c.self-2.inside.parts c.clock.new.self c.self-2.view_is c.in_ok-effects.ensures.done.happens.whole)
    c.in_ok-push.ensures.items

pub returns-clause-clock : goal.returns-clause-clock
returns-clause-clock c =
    let stands = live-stands c.self.inside.spent c.self.inside.parts c.args.self.now c.self.view_is c.requires.whole c.self.invariant in
    ap (λ (v : PathValue). v.moment) c.self-2.view_is
    ∙ (tick-clock c.args.self.now c.clock.new.self c.args.deadline c.in_ok-effects.effects stands c.in_ok-effects.ensures.done.happens c.requires.later).0

pub returns-clause-there : goal.returns-clause-there
returns-clause-there c =
    let stands = live-stands c.self.inside.spent c.self.inside.parts c.args.self.now c.self.view_is c.requires.whole c.self.invariant in
    let same = ap (λ (v : PathValue). length v.sent) c.self-2.view_is in
    let more = (tick-clock c.args.self.now c.clock.new.self c.args.deadline c.in_ok-effects.effects stands c.in_ok-effects.ensures.done.happens c.requires.later).1 in
    omega (arith, same, more)

pub returns-clause-bounds : goal.returns-clause-bounds
returns-clause-bounds c =
    subst AreBounded (sym (unspent c.self-2.inside.spent c.self-2.inside.parts c.clock.new.self c.self-2.view_is c.in_ok-effects.ensures.done.happens.whole))
    (c.in_ok-effects.ensures.bounds c.in_ok-effects.ensures.done.happens.whole)
