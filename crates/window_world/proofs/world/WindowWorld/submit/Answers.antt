use Rattle.std.proofs.Common.{◌∙◌, ap}
use Rattle.window_world.specs.Values.{WindowValue}
use Rattle.window_world.proofs.WindowLemmas.{submits-sound}
use Rattle.window_world.proofs.world.WindowWorld.submit.Goals as goal

pub invariant_of-self : goal.invariant_of-self
invariant_of-self c =
    submits-sound c.self.inside.broken c.self.inside.link c.submit.new.self c.self.inside.plan c.self.inside.moment c.args.end c.args.block.now c.args.red c.submit.result
    c.self.invariant (ap (λ (v : WindowValue). v.spent) c.self.view_is ∙ c.requires.whole) c.submit.ensures.does

pub invariant_of-self-2 : goal.invariant_of-self-2
invariant_of-self-2 c =
    submits-sound c.self.inside.broken c.self.inside.link c.submit.new.self c.self.inside.plan c.self.inside.moment c.args.end c.args.block.now c.args.red c.submit.result
    c.self.invariant (ap (λ (v : WindowValue). v.spent) c.self.view_is ∙ c.requires.whole) c.submit.ensures.does

pub returns-clause-contact : goal.returns-clause-contact
returns-clause-contact c = (invariant_of-self-2 c).contact
