use Rattle.std.proofs.Common.{◌≡◌, Some, None, sym, arith, subst, rules}
use Rattle.ltp_world.specs.Clean.{LeadsOn, deadline_in}
use Rattle.ltp_world.proofs.DrainLemmas.{advance-none, advance-more}
use Rattle.ltp_world.proofs.world.LinkWorld.drain_from.Goals as goal

pub ticking-init : goal.ticking-init
ticking-init c = record {
  whole = c.requires.whole;
  there = c.requires.there;
  made = advance-none c.args.self.now c.args.from c.args.steps.now.items c.requires.whole;
  bounds = λ b. b;
}

pub ticking-preserved : goal.ticking-preserved
ticking-preserved c = record {
  whole = c.in_ok-tick_to.ensures.done.whole;
  there = omega (arith, c.sent-from.ensures, c.in_ok-tick_to.ensures.there);
  made = subst (λ n. LeadsOn c.args.self.now c.tick_to.new.self c.args.from n c.args.steps.now.items c.tick_to.new.steps.items) (sym c.sent-from.ensures)
      (advance-more _ _ _ _ _ _ _ _ _ c.ticking.invariant.made (advance-more _ _ _ _ _ _ _ _ _ c.in_ok-deliver_from.ensures.done c.in_ok-tick_to.ensures.done));
  bounds = λ b. c.in_ok-tick_to.ensures.bounds (c.in_ok-deliver_from.ensures.bounds (c.ticking.invariant.bounds b));
}

pub returns-then-deadline-ge-NO_MOMENT-clause-does : goal.returns-then-deadline-ge-NO_MOMENT-clause-does
returns-then-deadline-ge-NO_MOMENT-clause-does c =
    let due : deadline_in c.deliver_from.new.self ≡ Some c.in-Some.deadline = search rules in
    record {
      now = c.deliver_from.new.steps.items;
      leads = advance-more _ _ _ _ _ _ _ _ _ c.ticking.invariant.made c.in_ok-deliver_from.ensures.done;
      deadline = c.in-Some.deadline;
      due = due;
      late = omega (arith, c.if-deadline-ge-NO_MOMENT.true);
    }

pub returns-clause-does : goal.returns-clause-does
returns-clause-does c =
    let none : deadline_in c.deliver_from.new.self ≡ None = search rules in
    (advance-more _ _ _ _ _ _ _ _ _ c.ticking.invariant.made c.in_ok-deliver_from.ensures.done, none)
