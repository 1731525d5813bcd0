use Rattle.std.proofs.Common.{◌∙◌, ap}
use Rattle.window_world.specs.Values.{WindowValue}
use Rattle.window_world.proofs.WindowLemmas.{delivers-sound}
use Rattle.window_world.proofs.world.WindowWorld.deliver.Goals as goal

pub invariant_of-self : goal.invariant_of-self
invariant_of-self c =
    delivers-sound c.self.inside.broken c.self.inside.link c.deliver.new.self c.self.inside.plan c.self.inside.moment c.args.k c.deliver.result
    c.self.invariant (ap (λ (v : WindowValue). v.spent) c.self.view_is ∙ c.requires.whole) c.deliver.ensures.does

pub invariant_of-self-2 : goal.invariant_of-self-2
invariant_of-self-2 c =
    delivers-sound c.self.inside.broken c.self.inside.link c.deliver.new.self c.self.inside.plan c.self.inside.moment c.args.k c.deliver.result
    c.self.invariant (ap (λ (v : WindowValue). v.spent) c.self.view_is ∙ c.requires.whole) c.deliver.ensures.does

pub returns-clause-contact : goal.returns-clause-contact
returns-clause-contact c = (invariant_of-self-2 c).contact
