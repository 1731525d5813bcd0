-- A block that is there as a whole.
use Rattle.std.proofs.lemmas.List.{take_rest}
use Rattle.bundle_judges.proofs.HereLemmas7.{block-by}
use Rattle.bundle_judges.proofs.here7.block_here.Goals as goal

pub returns-in-Some : goal.returns-in-Some
returns-in-Some c =
    block-by c.args.part c.args.seen.now c.args.rest.now c.in-Ok-item_of.field-0-0.now _ c.in-Ok.front _ c.in-Ok.from c.in-Ok-item_of.size c.in-Some.more c.new.result
    c.count-left.ensures c.in-Ok.ensures.exact c.in-Ok.ensures.within.within (take_rest c.args.rest.now c.in-Ok.from) c.in-Ok-item_of.ensures.exact c.in-Ok-item_of.ensures.within
    c.new.ensures c.in-Some.ensures
