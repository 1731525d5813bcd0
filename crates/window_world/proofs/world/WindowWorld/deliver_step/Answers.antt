use Rattle.std.proofs.Common.{false, ◌≡◌, ◌<◌, ◌+◌, true, arith, sym, ◌∙◌, ap, subst}
use Rattle.contact_plan.specs.Windows.{is_open}
use Rattle.ltp_world.specs.Work.{left_of}
use Rattle.ltp_world.proofs.DrainLemmas.{deliver-clock, step-falls}
use Rattle.window_world.specs.Leads.{LeadsOn}
use Rattle.window_world.specs.Ties.{made_world}
use Rattle.window_world.specs.Values.{WindowValue}
use Rattle.window_world.proofs.WindowLemmas.{deliver-told, step-sound, whole-link}
use Rattle.window_world.proofs.world.WindowWorld.deliver_step.Goals as goal

pub invariant_of-self-2 : goal.invariant_of-self-2
invariant_of-self-2 c =
    step-sound c.self.inside.broken c.self.inside.link c.deliver.new.self c.self.inside.plan c.self.inside.moment c.args.k c.in-Ok.told
    c.self.invariant (ap (λ (v : WindowValue). v.spent) c.self.view_is ∙ c.requires.whole) c.in-Ok.ensures.does

pub returns-clause-done : goal.returns-clause-done
returns-clause-done c =
    subst (λ (v : WindowValue). LeadsOn v (made_world false c.deliver.new.self c.self.inside.plan c.self.inside.moment) c.args.k (c.args.k + 1) c.args.steps.now.items c.push.new.self.items) c.self.view_is
    (deliver-told c.self.inside.broken c.self.inside.link c.deliver.new.self c.self.inside.plan c.self.inside.moment c.args.k c.in-Ok.told c.in_ok-effects.effects c.args.steps.now.items c.push.new.self.items
    c.self.invariant (ap (λ (v : WindowValue). v.spent) c.self.view_is ∙ c.requires.whole) c.in-Ok.ensures.does
    (subst (λ (v : WindowValue). is_open v.plan v.moment ≡ true) (sym c.self.view_is) c.requires.open) c.in_ok-effects.ensures c.in_ok-push.ensures.items)

pub returns-clause-clock : goal.returns-clause-clock
returns-clause-clock c =
    (deliver-clock c.self.inside.link c.deliver.new.self c.args.k c.in-Ok.told (c.self.invariant.stands (whole-link c.self.inside.broken c.self.inside.link (ap (λ (v : WindowValue). v.spent) c.self.view_is ∙ c.requires.whole))) c.in-Ok.ensures.does).0
    ∙ ap (λ (v : WindowValue). v.link.moment) c.self.view_is

pub returns-clause-falls : goal.returns-clause-falls
returns-clause-falls c =
    subst (λ (v : WindowValue). left_of c.deliver.new.self (c.args.k + 1) < left_of v.link c.args.k) c.self.view_is
    (step-falls c.self.inside.link c.deliver.new.self c.args.k c.in-Ok.told (c.self.invariant.stands (whole-link c.self.inside.broken c.self.inside.link (ap (λ (v : WindowValue). v.spent) c.self.view_is ∙ c.requires.whole))) c.in-Ok.ensures.does)

pub returns-clause-there : goal.returns-clause-there
returns-clause-there c =
    let more = (deliver-clock c.self.inside.link c.deliver.new.self c.args.k c.in-Ok.told (c.self.invariant.stands (whole-link c.self.inside.broken c.self.inside.link (ap (λ (v : WindowValue). v.spent) c.self.view_is ∙ c.requires.whole))) c.in-Ok.ensures.does).1 in
    let low = c.in-Ok.ensures.does.0 in
    omega (arith, more, low)

pub returns-clause-contact : goal.returns-clause-contact
returns-clause-contact c = (invariant_of-self-2 c).contact
