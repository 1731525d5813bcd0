use Rattle.fragment_lines.proofs.HeadLemmas.{given-begun, told-if}
use Rattle.fragment_lines.proofs.joining.BundleJoiner.add.Goals as goal

pub invariant_of-self : goal.invariant_of-self
invariant_of-self c =
    given-begun c.self.inside.joiner.joins c.args.full c.add.result c.add.new.self
    (c.self.invariant (rw (← c.self.view_is) at c.requires.whole)) c.requires.sound c.add.ensures.adds

pub returns-clause-answer : goal.returns-clause-answer
returns-clause-answer c =
    rw (← c.self.view_is) (told-if c.self.inside.joiner.joins c.args.full c.add.result c.answer_of.result c.add.new.self
    (c.self.invariant (rw (← c.self.view_is) at c.requires.whole)) c.requires.sound c.add.ensures.adds c.answer_of.ensures.told).answer

pub returns-clause-after : goal.returns-clause-after
returns-clause-after c =
    rw (← c.self.view_is) (told-if c.self.inside.joiner.joins c.args.full c.add.result c.answer_of.result c.add.new.self
    (c.self.invariant (rw (← c.self.view_is) at c.requires.whole)) c.requires.sound c.add.ensures.adds c.answer_of.ensures.told).after

pub returns-clause-sayable : goal.returns-clause-sayable
returns-clause-sayable c =
    (told-if c.self.inside.joiner.joins c.args.full c.add.result c.answer_of.result c.add.new.self
    (c.self.invariant (rw (← c.self.view_is) at c.requires.whole)) c.requires.sound c.add.ensures.adds c.answer_of.ensures.told).sayable
