use Rattle.std.proofs.Common.{arith}
use Rattle.translate.specs.Legal.{IsSized7}
use Rattle.translate.proofs.LoopLemmas.{have-step, have-all}
use Rattle.translate.proofs.translation.sized7.Goals as goal

pub telling-preserved : goal.telling-preserved
telling-preserved c =
    have-step IsSized7 c.args.blocks.now c.telling.block-index c.block-item.result c.telling-test.true c.block-item.is
    (rw c.as_slice.ensures at c.sized.ensures) c.telling.invariant

pub returns : goal.returns
returns c = have-all IsSized7 c.args.blocks.now c.telling.block-index (omega arith) c.telling.invariant
