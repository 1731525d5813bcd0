use Rattle.std.proofs.Common.{length, arith, ◌∙◌, ap, subst}
use Rattle.ltp_world.specs.Ties.{IsSound}
use Rattle.ltp_world.specs.Values.{WorldValue}
use Rattle.ltp_world.proofs.WorldLemmas.{unbroken}
use Rattle.ltp_world.proofs.DrainLemmas.{tick-told, tick-clock}
use Rattle.ltp_world.proofs.PickLemmas.{tick-takes}
use Rattle.ltp_world.proofs.world.LinkWorld.tick_to.Goals as goal

pub returns-clause-done : goal.returns-clause-done
returns-clause-done c =
    tick-told c.args.self.now c.clock.new.self _ c.args.deadline c.in_ok-told.told c.args.steps.now.items c.push.new.self.items c.in_ok-told.ensures.done c.requires.moment c.requires.due c.requires.later
    (unbroken c.self-2.inside.broken (c.self-2.inside.first, c.self-2.inside.second) c.self-2.inside.sent.items c.self-2.inside.moment c.clock.new.self c.self-2.view_is c.in_ok-told.ensures.done.0.whole)
    c.in_ok-push.ensures.items

pub returns-clause-clock : goal.returns-clause-clock
returns-clause-clock c =
    ap (λ (v : WorldValue). v.moment) c.self-2.view_is
    ∙ (tick-clock c.args.self.now c.clock.new.self c.args.deadline c.in_ok-told.told ((subst IsSound c.self.view_is c.self.invariant).stands c.requires.whole) c.in_ok-told.ensures.done c.requires.later).0

pub returns-clause-there : goal.returns-clause-there
returns-clause-there c =
    let same = ap (λ (v : WorldValue). length v.sent) c.self-2.view_is in
    let more = (tick-clock c.args.self.now c.clock.new.self c.args.deadline c.in_ok-told.told ((subst IsSound c.self.view_is c.self.invariant).stands c.requires.whole) c.in_ok-told.ensures.done c.requires.later).1 in
    omega (arith, same, more)

pub returns-clause-takes : goal.returns-clause-takes
returns-clause-takes c =
    tick-takes c.args.self.now c.clock.new.self _ c.args.deadline c.in_ok-told.told c.args.steps.now.items c.push.new.self.items c.in_ok-told.ensures.done c.requires.later
    (unbroken c.self-2.inside.broken (c.self-2.inside.first, c.self-2.inside.second) c.self-2.inside.sent.items c.self-2.inside.moment c.clock.new.self c.self-2.view_is c.in_ok-told.ensures.done.0.whole)
    c.in_ok-push.ensures.items
