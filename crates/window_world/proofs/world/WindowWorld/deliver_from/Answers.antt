use Rattle.std.proofs.Common.{refl, arith, ◌∙◌}
use Rattle.window_world.proofs.WindowLemmas.{leads-more, leads-none}
use Rattle.window_world.proofs.world.WindowWorld.deliver_from.Goals as goal

pub delivering-init : goal.delivering-init
delivering-init c = record {
  whole = c.requires.whole;
  there = c.requires.there;
  open_now = c.requires.open;
  made = leads-none c.args.self.now c.args.from c.args.steps.now.items c.requires.whole (c.requires.contact c.requires.whole).0;
  clock = refl;
  contact = c.requires.contact;
  bounds = λ b. b;
}

pub delivering-preserved : goal.delivering-preserved
delivering-preserved c = record {
  whole = c.in_ok-deliver_step.ensures.done.whole;
  there = omega (arith, c.in_ok-deliver_step.ensures.there);
  open_now = λ _. c.in_ok-deliver_step.ensures.open;
  made = leads-more _ _ _ _ _ _ _ _ _ c.delivering.invariant.made c.in_ok-deliver_step.ensures.done;
  clock = c.in_ok-deliver_step.ensures.clock ∙ c.delivering.invariant.clock;
  contact = c.in_ok-deliver_step.ensures.contact;
  bounds = λ b. c.in_ok-deliver_step.ensures.bounds (c.delivering.invariant.bounds b);
}
