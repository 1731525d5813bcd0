use Rattle.std.proofs.Common.{◌∙◌, arith}
use Rattle.translate.proofs.NumberLemmas.{added-more, added-all}
use Rattle.translate.proofs.writing7.push_exts7.Goals as goal

pub adding-preserved : goal.adding-preserved
adding-preserved c = record {
  small = omega (arith, c.adding.invariant.small, c.in_ok-next.ensures.bound);
  rest = rw c.in_ok-next.ensures.number
      (added-more c.args.exts.now c.args.exts.now c.adding.next c.adding.ext-index c.ext-item.result c.adding.blocks.items
      c.push_ext7.new.blocks.items c.adding-test.true c.ext-item.is c.in_ok-next.ensures.block ∙ c.adding.invariant.rest);
}

pub returns : goal.returns
returns c =
    added-all c.args.exts.now c.args.exts.now c.adding.next c.adding.ext-index c.adding.blocks.items _ (omega arith) c.adding.invariant.rest
