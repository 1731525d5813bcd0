use Rattle.std.proofs.Common.{◌≡◌, ◌≤◌, ℕ, List, [], length, None, Some, sym, ap, ◌∙◌, arith, subst, rules}
use Rattle.contact_plan.specs.declared.window.Window.{Window}
use Rattle.contact_plan.specs.Windows.{IsPlan, total}
use Rattle.ltp_world.specs.Clean.{deadline_in}
use Rattle.window_world.specs.declared.effects.At.{At}
use Rattle.window_world.specs.Leads.{LeadsOn}
use Rattle.window_world.specs.Values.{WindowValue}
use Rattle.window_world.proofs.WindowLemmas.{drain-completes-at, drain-done, drain-fronts-at, drain-stops, leads-more}
use Rattle.window_world.proofs.world.WindowWorld.drain.Goals as goal

pub returns-in_default-clause-does : goal.returns-in_default-clause-does
returns-in_default-clause-does c =
    let none : deadline_in c.self-in-ticking.inside.link ≡ None = search rules in
    drain-done c.args.self.now c.deliver_from.new.self c.of.result
    (subst (λ (ats : List At). LeadsOn c.args.self.now c.deliver_from.new.self (length c.args.self.now.link.sent) (length c.deliver_from.new.self.link.sent) [] ats)
    (sym c.of.ensures.effects) (leads-more _ _ _ _ _ _ _ _ _ c.ticking.invariant.made c.in_ok-deliver_from.ensures.done))
    c.of.ensures.events c.of.ensures.plan (subst (λ (v : WindowValue). deadline_in v.link ≡ None) c.self-in-ticking.view_is none)

pub returns-in_default-clause-fronts : goal.returns-in_default-clause-fronts
returns-in_default-clause-fronts c = drain-fronts-at c.args.self.now c.deliver_from.new.self c.of.result (returns-in_default-clause-does c)

pub returns-in_default-clause-completes : goal.returns-in_default-clause-completes
returns-in_default-clause-completes c =
    drain-completes-at c.args.self.now c.deliver_from.new.self c.of.result (subst (λ (v : WindowValue). IsPlan v.plan) c.self.view_is c.self.invariant.plan) (returns-in_default-clause-does c)

pub returns-in_default-moment-clause-does : goal.returns-in_default-moment-clause-does
returns-in_default-moment-clause-does c =
    let past : total c.self-in-ticking.inside.plan ≤ c.in-Some.deadline = search rules in
    let due : deadline_in c.self-in-ticking.inside.link ≡ Some c.in-Some.deadline = search rules in
    let leads : LeadsOn c.args.self.now c.deliver_from.new.self (length c.args.self.now.link.sent) (length c.deliver_from.new.self.link.sent) [] c.deliver_from.new.steps.items =
    (leads-more _ _ _ _ _ _ _ _ _ c.ticking.invariant.made c.in_ok-deliver_from.ensures.done) in
    drain-stops c.args.self.now c.deliver_from.new.self c.of-in_default-moment.result c.in-Some.deadline
    (subst (λ (ats : List At). LeadsOn c.args.self.now c.deliver_from.new.self (length c.args.self.now.link.sent) (length c.deliver_from.new.self.link.sent) [] ats)
    (sym c.of-in_default-moment.ensures.effects) leads)
    c.of-in_default-moment.ensures.events c.of-in_default-moment.ensures.plan
    (subst (λ (v : WindowValue). deadline_in v.link ≡ Some c.in-Some.deadline) c.self-in-ticking.view_is due)
    (subst (λ (v : WindowValue). IsPlan v.plan) c.self.view_is c.self.invariant.plan)
    (subst (λ (p : List Window). total p ≤ c.in-Some.deadline) (ap (λ (v : WindowValue). v.plan) c.self-in-ticking.view_is ∙ leads.plan) past)

pub returns-in_default-moment-clause-fronts : goal.returns-in_default-moment-clause-fronts
returns-in_default-moment-clause-fronts c =
    drain-fronts-at c.args.self.now c.deliver_from.new.self c.of-in_default-moment.result (returns-in_default-moment-clause-does c)

pub returns-in_default-moment-clause-completes : goal.returns-in_default-moment-clause-completes
returns-in_default-moment-clause-completes c =
    drain-completes-at c.args.self.now c.deliver_from.new.self c.of-in_default-moment.result (subst (λ (v : WindowValue). IsPlan v.plan) c.self.view_is c.self.invariant.plan) (returns-in_default-moment-clause-does c)

pub ticking-preserved : goal.ticking-preserved
ticking-preserved c =
    let same = c.sent-from-in-ticking.ensures ∙ ap (λ (v : WindowValue). length v.link.sent) c.self-in-ticking.view_is in record {
      whole = c.in_ok-tick_to.ensures.done.whole;
      there = omega (arith, same, c.in_ok-tick_to.ensures.there);
      open_now = λ _. c.in_ok-tick_to.ensures.open;
      made = subst (λ (n : ℕ). LeadsOn c.args.self.now c.tick_to.new.self (length c.args.self.now.link.sent) n [] c.tick_to.new.steps.items) (sym same)
          (leads-more _ _ _ _ _ _ _ _ _ c.ticking.invariant.made (leads-more _ _ _ _ _ _ _ _ _ c.in_ok-deliver_from.ensures.done c.in_ok-tick_to.ensures.done));
      contact = c.in_ok-tick_to.ensures.contact;
      bounds = λ b. c.in_ok-tick_to.ensures.bounds (c.in_ok-deliver_from.ensures.bounds (c.ticking.invariant.bounds b));
    }
