use Rattle.bundle7.proofs.WritingLemmas.{blocks-more-at, blocks-none-yet}
use Rattle.bundle7.proofs.writing.append_blocks.Goals as goal

pub each-init : goal.each-init
each-init c = blocks-none-yet c.args.out.now.items

pub each-preserved : goal.each-preserved
each-preserved c =
    blocks-more-at c.args.out.now.items c.each.out.items c.append_block.new.out.items c.args.blocks.now c.each.block-index c.block-item.result
    c.each-test.true c.block-item.is c.each.invariant c.in_ok-append_block.ensures
