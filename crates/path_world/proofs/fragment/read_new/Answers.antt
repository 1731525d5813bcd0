use Rattle.path_world.proofs.FragmentLemmas.{taken-new}
use Rattle.path_world.proofs.fragment.read_new.Goals as goal

pub returns-in-Ok-clause-taken : goal.returns-in-Ok-clause-taken
returns-in-Ok-clause-taken c = taken-new c.args.bundle.now c.in-Ok.full c.fragment_of.result c.requires c.in-Ok.ensures.sound c.in-Ok.ensures.exact c.fragment_of.ensures
