use Rattle.std.proofs.Common.{arith, sym, subst}
use Rattle.ltp_world.specs.Marks.{RestTo, least_mark}
use Rattle.ltp_world.proofs.RestLemmas.{rest-more, rest-none}
use Rattle.ltp_world.proofs.world.LinkWorld.deliver_new.Goals as goal

pub delivering-init : goal.delivering-init
delivering-init c = record {
  whole = c.requires.whole;
  there = omega (arith, c.min-k.ensures, c.requires.there.0);
  grew = omega arith;
  within = c.requires.there;
  made = subst (λ k. RestTo c.args.self.now c.args.self.now (least_mark c.args.marks) k c.args.marks c.args.steps.now.items c.args.steps.now.items) (sym c.min-k.ensures)
      (rest-none c.args.self.now (least_mark c.args.marks) c.args.marks c.args.steps.now.items c.requires.whole);
  bounds = λ b. b;
}

pub delivering-preserved : goal.delivering-preserved
delivering-preserved c = record {
  whole = c.in_ok-deliver_if_new.ensures.done.whole;
  there = omega (arith, c.in_ok-deliver_if_new.ensures.there);
  grew = omega (arith, c.delivering.invariant.grew, c.in_ok-deliver_if_new.ensures.grows);
  within = c.in_ok-deliver_if_new.ensures.marks;
  made = rest-more _ _ _ _ _ _ _ _ _ _ c.delivering.invariant.made c.in_ok-deliver_if_new.ensures.done;
  bounds = λ b. c.in_ok-deliver_if_new.ensures.bounds (c.delivering.invariant.bounds b);
}
