use Rattle.path_world.proofs.FragmentLemmas.{found-old, early-old, refused-old}
use Rattle.path_world.proofs.fragment.fragment_old.Goals as goal

pub returns-in-Ok-clause-exact : goal.returns-in-Ok-clause-exact
returns-in-Ok-clause-exact c =
    found-old c.args.block.now c.in-Ok.bundle c.in-Ok.end c.read_old.result c.in-Ok.ensures.exact c.if-end-block.true c.read_old.ensures.exact

pub returns-in-Ok-2-clause-exact : goal.returns-in-Ok-2-clause-exact
returns-in-Ok-2-clause-exact c = early-old c.args.block.now c.in-Ok.bundle c.in-Ok.end c.in-Ok.ensures.exact c.if-end-block.false

pub returns-in-Err-Refused-clause-exact : goal.returns-in-Err-Refused-clause-exact
returns-in-Err-Refused-clause-exact c = refused-old c.args.block.now _ _ _ c.in-Err-Refused.field-0-is c.in-Err-Refused.ensures.exact
