use Rattle.path_world.proofs.ClockLemmas.{went-on}
use Rattle.path_world.proofs.parts.Parts.go_on.Goals as goal

pub returns : goal.returns
returns c =
    went-on c.args.self.now c.args.now c.nothing.result c.requires.whole c.requires.moment c.requires.later c.requires.quiet c.nothing.ensures
