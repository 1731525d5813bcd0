use Rattle.std.proofs.Common.{◌<◌, ◌+◌, length, arith, sym, ◌∙◌, ap, subst}
use Rattle.path_world.specs.Shows.{AreBounded}
use Rattle.path_world.specs.Values.{PathValue}
use Rattle.path_world.specs.Work.{left_of}
use Rattle.path_world.proofs.DrainWearLemmas.{deliver-clock, deliver-told, live-stands, step-falls, unspent}
use Rattle.path_world.proofs.world.PathWorld.deliver_step.Goals as goal

pub returns-clause-done : goal.returns-clause-done
returns-clause-done c =
    deliver-told c.args.self.now c.deliver.new.self _ c.args.k c.in-Ok.effects c.args.steps.now.items c.push.new.self.items c.in-Ok.ensures.does.0 c.in-Ok.ensures.does.1
    (unspent c.self-2.inside.spent c.self-2.inside.parts c.deliver.new.self c.self-2.view_is c.in-Ok.ensures.does.1.whole)
    c.in_ok-push.ensures.items

pub returns-clause-clock : goal.returns-clause-clock
returns-clause-clock c =
    ap (λ (v : PathValue). v.moment) c.self-2.view_is
    ∙ (deliver-clock c.args.self.now c.deliver.new.self c.args.k c.in-Ok.effects (live-stands c.self.inside.spent c.self.inside.parts c.args.self.now c.self.view_is c.requires.whole c.self.invariant) c.in-Ok.ensures.does.1).0

pub returns-clause-falls : goal.returns-clause-falls
returns-clause-falls c =
    subst (λ (v : PathValue). left_of v (c.args.k + 1) < left_of c.args.self.now c.args.k)
    (sym (unspent c.self-2.inside.spent c.self-2.inside.parts c.deliver.new.self c.self-2.view_is c.in-Ok.ensures.does.1.whole))
    (step-falls c.args.self.now c.deliver.new.self c.args.k c.in-Ok.effects (live-stands c.self.inside.spent c.self.inside.parts c.args.self.now c.self.view_is c.requires.whole c.self.invariant) c.in-Ok.ensures.does.0 c.in-Ok.ensures.does.1)

pub returns-clause-there : goal.returns-clause-there
returns-clause-there c =
    let same = ap (λ (v : PathValue). length v.sent) c.self-2.view_is in
    let more = (deliver-clock c.args.self.now c.deliver.new.self c.args.k c.in-Ok.effects (live-stands c.self.inside.spent c.self.inside.parts c.args.self.now c.self.view_is c.requires.whole c.self.invariant) c.in-Ok.ensures.does.1).1 in
    omega (arith, same, more, c.requires.there)

pub returns-clause-bounds : goal.returns-clause-bounds
returns-clause-bounds c =
    subst AreBounded (sym (unspent c.self-2.inside.spent c.self-2.inside.parts c.deliver.new.self c.self-2.view_is c.in-Ok.ensures.does.1.whole))
    (c.in-Ok.ensures.bounds c.in-Ok.ensures.does.1.whole)
