use Rattle.std.proofs.Common.{ap, arith, length, take}
use Rattle.link_run.specs.WrittenLines.{count_sent}
use Rattle.link_run.proofs.LoopLemmas.{capped-step, count-sent-more}
use Rattle.link_run.proofs.counting.count_sent.Goals as goal

pub each-preserved : goal.each-preserved
each-preserved c =
    capped-step c.args.count (count_sent (take c.each.told-index c.args.tolds.now)) (length c.told-item.result.effects.out) c.each.sum c.saturating_add-sum.result _ c.each.invariant
    (let same = ap length c.as_slice.ensures in omega (arith, c.saturating_add-sum.ensures, same))
    (count-sent-more c.args.tolds.now c.each.told-index c.told-item.result c.each-test.true c.told-item.is)
