use Rattle.std.proofs.Common.{sym, ◌∙◌}
use Rattle.path_world.proofs.JoinLemmas.{joins-block, joins-block-none}
use Rattle.path_world.proofs.joining.join_block.Goals as goal

pub returns-in_ok-push : goal.returns-in_ok-push
returns-in_ok-push c =
    joins-block c.args.face c.args.joiner.now c.join.new.joiner c.args.block.now c.in-Some.full c.args.answers.now.items c.push.new.self.items c.in_ok-join.field-0
    (sym c.in-Some.is ∙ c.in_ok-full.ensures.exact) c.in_ok-join.ensures.whole c.in_ok-join.ensures.after c.in_ok-join.ensures.told c.in_ok-push.ensures.items

pub returns-in_default : goal.returns-in_default
returns-in_default c =
    joins-block-none c.args.face c.args.joiner.now c.args.block.now c.args.answers.now.items c.requires.whole (sym c.in_default.is ∙ c.in_ok-full.ensures.exact)
