use Rattle.std.proofs.Common.{◌≡◌, [], length, None, inl, inr, refl, sym, arith, subst, rules}
use Rattle.path_world.specs.Clean.{LeadsOn}
use Rattle.path_world.specs.Values.{path_deadline}
use Rattle.path_world.proofs.ClockLemmas.{due-early}
use Rattle.path_world.proofs.DrainLemmas.{advance-none, advance-more, drain-done, drain-late, drain-completes, drain-sent}
use Rattle.path_world.proofs.DrainWearLemmas.{live-bounded}
use Rattle.path_world.proofs.world.PathWorld.drain.Goals as goal

pub ticking-init : goal.ticking-init
ticking-init c = record {
  whole = c.requires.whole;
  made = subst (λ steps. LeadsOn c.args.self.now c.args.self.now (length c.args.self.now.sent) (length c.args.self.now.sent) [] steps) (sym c.new-steps.ensures.items)
      (advance-none c.args.self.now (length c.args.self.now.sent) [] c.requires.whole);
  begun = inl refl;
  bounds = live-bounded c.self.inside.spent c.self.inside.parts c.args.self.now c.self.view_is c.requires.whole c.self.invariant;
}

pub ticking-preserved : goal.ticking-preserved
ticking-preserved c = record {
  whole = c.in_ok-deliver_from.ensures.done.whole;
  made = advance-more _ _ _ _ _ _ _ _ _ c.ticking.invariant.made (advance-more _ _ _ _ _ _ _ _ _ c.in_ok-tick_to.ensures.done
      (subst (λ n. LeadsOn c.tick_to.new.self c.deliver_from.new.self n (length c.deliver_from.new.self.sent) c.tick_to.new.steps.items c.deliver_from.new.steps.items)
      c.sent-from.ensures c.in_ok-deliver_from.ensures.done));
  begun = inr (due-early _ _ c.in-Some.deadline c.ticking.invariant.begun (sym c.in-Some.ensures.least) (omega (arith, c.if-deadline-ge-NO_MOMENT.false)));
  bounds = c.in_ok-deliver_from.ensures.bounds c.in_ok-tick_to.ensures.bounds;
}

pub returns-then-deadline-ge-NO_MOMENT-clause-does : goal.returns-then-deadline-ge-NO_MOMENT-clause-does
returns-then-deadline-ge-NO_MOMENT-clause-does c =
    drain-late c.args.self.now c.ticking.self c.in-Some.deadline c.ticking.steps.items c.ticking.invariant.made (sym c.in-Some.ensures.least)
    (omega (arith, c.if-deadline-ge-NO_MOMENT.true))

pub returns-clause-does : goal.returns-clause-does
returns-clause-does c =
    let none : path_deadline c.ticking.self ≡ None = search rules in
    drain-done c.args.self.now c.ticking.self (record { events = c.len-events.result; effects = c.from_vec-effects.result })
    (subst (λ steps. LeadsOn c.args.self.now c.ticking.self (length c.args.self.now.sent) (length c.ticking.self.sent) [] steps) (sym c.from_vec-effects.ensures)
    c.ticking.invariant.made) c.len-events.ensures none

pub returns-clause-completes : goal.returns-clause-completes
returns-clause-completes c = drain-completes c.args.self.now c.ticking.self (record { events = c.len-events.result; effects = c.from_vec-effects.result }) (returns-clause-does c)

pub returns-clause-as_sent : goal.returns-clause-as_sent
returns-clause-as_sent c = drain-sent c.received_as_sent.ensures c.args.self.now c.ticking.self (record { events = c.len-events.result; effects = c.from_vec-effects.result }) (returns-clause-does c)
