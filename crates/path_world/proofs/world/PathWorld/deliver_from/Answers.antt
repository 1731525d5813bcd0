use Rattle.std.proofs.Common.{refl, arith, ◌∙◌}
use Rattle.path_world.proofs.DrainLemmas.{advance-none, advance-more}
use Rattle.path_world.proofs.world.PathWorld.deliver_from.Goals as goal

pub delivering-init : goal.delivering-init
delivering-init c = record {
  whole = c.requires.whole;
  there = c.requires.there;
  made = advance-none c.args.self.now c.args.from c.args.steps.now.items c.requires.whole;
  clock = refl;
  bounds = λ b. b;
}

pub delivering-preserved : goal.delivering-preserved
delivering-preserved c = record {
  whole = c.in_ok-deliver_step.ensures.done.whole;
  there = omega (arith, c.in_ok-deliver_step.ensures.there);
  made = advance-more _ _ _ _ _ _ _ _ _ c.delivering.invariant.made c.in_ok-deliver_step.ensures.done;
  clock = c.in_ok-deliver_step.ensures.clock ∙ c.delivering.invariant.clock;
  bounds = λ b. c.in_ok-deliver_step.ensures.bounds;
}
