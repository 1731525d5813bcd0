use Rattle.std.proofs.Common.{refl, ◌∙◌}
use Rattle.make_run.proofs.PlayLemmas.{takes-none, takes-step}
use Rattle.make_run.proofs.making.Making.take_all.Goals as goal

pub each-init : goal.each-init
each-init c = record { path = refl; takes = takes-none c.args.self.now }

pub each-preserved : goal.each-preserved
each-preserved c = record {
  path = c.take.ensures.path ∙ c.each.invariant.path;
  takes = takes-step c.args.self.now c.each.self c.take.new.self c.each.yielded c.in-Some.effects c.each.invariant.takes c.in_ok-take.ensures.takes;
}
