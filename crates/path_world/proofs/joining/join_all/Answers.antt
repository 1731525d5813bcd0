use Rattle.std.proofs.Common.{[], sym, subst}
use Rattle.path_world.specs.Ties.{JoinsAll}
use Rattle.path_world.proofs.JoinLemmas.{joins-none, joins-more}
use Rattle.path_world.proofs.joining.join_all.Goals as goal

pub joining-init : goal.joining-init
joining-init c =
    subst (JoinsAll c.args.face c.args.joiner.now c.args.joiner.now [] []) (sym c.new-answers.ensures.items) (joins-none c.args.face c.args.joiner.now [] c.requires.whole)

pub joining-preserved : goal.joining-preserved
joining-preserved c =
    joins-more c.args.face c.args.joiner.now c.joining.joiner c.join_block.new.joiner c.args.ups.now c.joining.up-index c.up-item.result c.as_slice.result.now c.joining.answers.items
    c.join_block.new.answers.items c.joining-test.true c.up-item.is c.as_slice.ensures c.joining.invariant c.in_ok-join_block.ensures
