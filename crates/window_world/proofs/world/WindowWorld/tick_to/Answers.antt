use Rattle.std.proofs.Common.{false, ◌≡◌, ◌<◌, ◌≤◌, Some, length, sym, ◌∙◌, ap, subst}
use Rattle.contact_plan.specs.Windows.{IsMoment}
use Rattle.ltp_world.specs.Clean.{deadline_in}
use Rattle.ltp_world.proofs.DrainLemmas.{tick-clock}
use Rattle.window_world.specs.Leads.{LeadsOn}
use Rattle.window_world.specs.Ties.{made_world}
use Rattle.window_world.specs.Values.{WindowValue}
use Rattle.window_world.proofs.WindowLemmas.{moment-early, moves-sound, tick-told, whole-link}
use Rattle.window_world.proofs.world.WindowWorld.tick_to.Goals as goal

pub clock-requires-clause-moment : goal.clock-requires-clause-moment
clock-requires-clause-moment c = moment-early c.self.inside.plan c.args.deadline c.args.moment c.self.invariant.plan (subst (λ (v : WindowValue). IsMoment v.plan c.args.deadline c.args.moment) (sym c.self.view_is) c.requires.moment)

pub invariant_of-self-2 : goal.invariant_of-self-2
invariant_of-self-2 c =
    moves-sound c.self.inside.broken c.self.inside.link c.clock.new.self c.self.inside.plan c.self.inside.moment c.args.deadline c.args.moment c.in_ok-effects.effects
    c.self.invariant (whole-link c.self.inside.broken c.self.inside.link (ap (λ (v : WindowValue). v.spent) c.self.view_is ∙ c.requires.whole)) (subst (λ (v : WindowValue). v.link.moment < c.args.deadline) (sym c.self.view_is) c.requires.later) (subst (λ (v : WindowValue). IsMoment v.plan c.args.deadline c.args.moment) (sym c.self.view_is) c.requires.moment) c.in_ok-effects.ensures.done

pub returns-clause-done : goal.returns-clause-done
returns-clause-done c =
    subst (λ (v : WindowValue). LeadsOn v (made_world false c.clock.new.self c.self.inside.plan c.args.moment) (length v.link.sent) (length v.link.sent) c.args.steps.now.items c.push.new.self.items) c.self.view_is
    (tick-told c.self.inside.broken c.self.inside.link c.clock.new.self c.self.inside.plan c.self.inside.moment c.args.deadline c.args.moment c.in_ok-effects.effects c.args.steps.now.items c.push.new.self.items
    c.self.invariant (ap (λ (v : WindowValue). v.spent) c.self.view_is ∙ c.requires.whole) c.in_ok-effects.ensures.done
    (subst (λ (v : WindowValue). deadline_in v.link ≡ Some c.args.deadline) (sym c.self.view_is) c.requires.due) (subst (λ (v : WindowValue). v.link.moment < c.args.deadline) (sym c.self.view_is) c.requires.later) (subst (λ (v : WindowValue). IsMoment v.plan c.args.deadline c.args.moment) (sym c.self.view_is) c.requires.moment) c.in_ok-push.ensures.items)

pub returns-clause-clock : goal.returns-clause-clock
returns-clause-clock c = (
  (tick-clock c.self.inside.link c.clock.new.self c.args.deadline c.in_ok-effects.effects (c.self.invariant.stands (whole-link c.self.inside.broken c.self.inside.link (ap (λ (v : WindowValue). v.spent) c.self.view_is ∙ c.requires.whole))) c.in_ok-effects.ensures.done (subst (λ (v : WindowValue). v.link.moment < c.args.deadline) (sym c.self.view_is) c.requires.later)).0,
  moment-early c.self.inside.plan c.args.deadline c.args.moment c.self.invariant.plan
      (subst (λ (v : WindowValue). IsMoment v.plan c.args.deadline c.args.moment) (sym c.self.view_is) c.requires.moment),
)

pub returns-clause-there : goal.returns-clause-there
returns-clause-there c =
    subst (λ (v : WindowValue). length v.link.sent ≤ length c.clock.new.self.sent) c.self.view_is
    (tick-clock c.self.inside.link c.clock.new.self c.args.deadline c.in_ok-effects.effects (c.self.invariant.stands (whole-link c.self.inside.broken c.self.inside.link (ap (λ (v : WindowValue). v.spent) c.self.view_is ∙ c.requires.whole))) c.in_ok-effects.ensures.done (subst (λ (v : WindowValue). v.link.moment < c.args.deadline) (sym c.self.view_is) c.requires.later)).1

pub returns-clause-contact : goal.returns-clause-contact
returns-clause-contact c = (invariant_of-self-2 c).contact
