use Rattle.std.proofs.Common.{◌∙◌}
use Rattle.peer_cases.proofs.ItemLemmas.{several-is, items-start}
use Rattle.peer_cases.proofs.items.Items.new.Goals as goal

pub returns-clause-left : goal.returns-clause-left
returns-clause-left c =
    items-start c.is_several.result c.args.face c.args.block.now
    (c.is_several.ensures
    ∙ several-is c.args.face c.args.block.now c.next_at-next.result c.next_at-next.ensures.exact c.next_at-next.ensures.within)
