use Rattle.std.proofs.Common.{◌<◌, ◌+◌, length, arith, sym, ◌∙◌, ap, subst}
use Rattle.ltp_world.specs.Ties.{IsSound}
use Rattle.ltp_world.specs.Values.{WorldValue}
use Rattle.ltp_world.specs.Work.{left_of}
use Rattle.ltp_world.proofs.WorldLemmas.{unbroken}
use Rattle.ltp_world.proofs.DrainLemmas.{deliver-told, deliver-clock, step-falls}
use Rattle.ltp_world.proofs.PickLemmas.{deliver-takes}
use Rattle.ltp_world.proofs.world.LinkWorld.deliver_step.Goals as goal

pub returns-clause-done : goal.returns-clause-done
returns-clause-done c =
    deliver-told c.args.self.now c.deliver_at.new.self _ c.args.k c.in_ok-told.told c.in_ok-one.field-0 c.args.steps.now.items c.push.new.self.items c.in_ok-told.ensures.done
    (unbroken c.self-2.inside.broken (c.self-2.inside.first, c.self-2.inside.second) c.self-2.inside.sent.items c.self-2.inside.moment c.deliver_at.new.self c.self-2.view_is c.in_ok-told.ensures.done.1.whole)
    c.in_ok-one.ensures c.in_ok-push.ensures.items

pub returns-clause-clock : goal.returns-clause-clock
returns-clause-clock c =
    ap (λ (v : WorldValue). v.moment) c.self-2.view_is
    ∙ (deliver-clock c.args.self.now c.deliver_at.new.self c.args.k c.in_ok-told.told ((subst IsSound c.self.view_is c.self.invariant).stands c.requires.whole) c.in_ok-told.ensures.done).0

pub returns-clause-falls : goal.returns-clause-falls
returns-clause-falls c =
    subst (λ v. left_of v (c.args.k + 1) < left_of c.args.self.now c.args.k)
    (sym (unbroken c.self-2.inside.broken (c.self-2.inside.first, c.self-2.inside.second) c.self-2.inside.sent.items c.self-2.inside.moment c.deliver_at.new.self c.self-2.view_is c.in_ok-told.ensures.done.1.whole))
    (step-falls c.args.self.now c.deliver_at.new.self c.args.k c.in_ok-told.told ((subst IsSound c.self.view_is c.self.invariant).stands c.requires.whole) c.in_ok-told.ensures.done)

pub returns-clause-there : goal.returns-clause-there
returns-clause-there c =
    let same = ap (λ (v : WorldValue). length v.sent) c.self-2.view_is in
    let more = (deliver-clock c.args.self.now c.deliver_at.new.self c.args.k c.in_ok-told.told ((subst IsSound c.self.view_is c.self.invariant).stands c.requires.whole) c.in_ok-told.ensures.done).1 in
    omega (arith, same, more, c.requires.there)

pub returns-clause-grows : goal.returns-clause-grows
returns-clause-grows c =
    let same = ap (λ (v : WorldValue). length v.sent) c.self-2.view_is in
    let more = (deliver-clock c.args.self.now c.deliver_at.new.self c.args.k c.in_ok-told.told ((subst IsSound c.self.view_is c.self.invariant).stands c.requires.whole) c.in_ok-told.ensures.done).1 in
    omega (arith, same, more)

pub returns-clause-takes : goal.returns-clause-takes
returns-clause-takes c =
    deliver-takes c.args.self.now c.deliver_at.new.self _ c.args.k c.in_ok-told.told c.in_ok-one.field-0 c.args.steps.now.items c.push.new.self.items c.in_ok-told.ensures.done
    (unbroken c.self-2.inside.broken (c.self-2.inside.first, c.self-2.inside.second) c.self-2.inside.sent.items c.self-2.inside.moment c.deliver_at.new.self c.self-2.view_is c.in_ok-told.ensures.done.1.whole)
    c.in_ok-one.ensures c.in_ok-push.ensures.items
