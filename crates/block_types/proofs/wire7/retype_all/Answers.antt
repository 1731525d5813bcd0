use Rattle.std.proofs.Common.{ap, ◌∙◌, get_or, set}
use Rattle.translate.proofs.MapLemmas.{become-next, become-more, become-all}
use Rattle.block_types.specs.Relabelled.{retyped7}
use Rattle.block_types.proofs.wire7.retype_all.Goals as goal

-- the block at the index becomes what it is to become
pub loop-block-preserved : goal.loop-block-preserved
loop-block-preserved c =
    let at = c.loop-block.block-index in
    let item = c.block-item.result in
    let each = retyped7 c.args.types in
    let next = ap (λ ys. get_or ys at item) c.loop-block.invariant ∙ become-next each c.args.blocks.now at item c.loop-block-test.true in
    ap (λ ys. set ys at c.retype.new.block) c.loop-block.invariant
    ∙ become-more each c.args.blocks.now at c.retype.new.block item c.loop-block-test.true (c.retype.ensures ∙ ap each next)

pub returns : goal.returns
returns c = c.loop-block.invariant ∙ become-all (retyped7 c.args.types) c.args.blocks.now c.loop-block.block-index c.loop-block-test.false
