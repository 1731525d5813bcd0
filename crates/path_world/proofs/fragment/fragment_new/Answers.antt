use Rattle.path_world.proofs.FragmentLemmas.{found-new, early-new, refused-new}
use Rattle.path_world.proofs.fragment.fragment_new.Goals as goal

pub returns-in-Ok-clause-exact : goal.returns-in-Ok-clause-exact
returns-in-Ok-clause-exact c =
    found-new c.args.block.now c.in-Ok.bundle c.in-Ok.end c.read_new.result c.in-Ok.ensures.exact c.if-end-block.true c.read_new.ensures.exact

pub returns-in-Ok-2-clause-exact : goal.returns-in-Ok-2-clause-exact
returns-in-Ok-2-clause-exact c = early-new c.args.block.now c.in-Ok.bundle c.in-Ok.end c.in-Ok.ensures.exact c.if-end-block.false

pub returns-in-Err-Refused-clause-exact : goal.returns-in-Err-Refused-clause-exact
returns-in-Err-Refused-clause-exact c = refused-new c.args.block.now _ _ _ c.in-Err-Refused.field-0-is c.in-Err-Refused.ensures.exact
