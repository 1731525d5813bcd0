use Rattle.std.proofs.Common.{ap, arith, length, take}
use Rattle.link_run.specs.WrittenLines.{octets_of}
use Rattle.link_run.proofs.LoopLemmas.{capped-step, octets-of-more}
use Rattle.link_run.proofs.counting.add_datagrams.Goals as goal

pub each-preserved : goal.each-preserved
each-preserved c =
    capped-step c.args.octets (octets_of (take c.each.datagram-index c.args.datagrams.now)) (length c.datagram-item.result) c.each.sum c.saturating_add-sum.result _ c.each.invariant
    (let same = ap length c.as_slice.ensures in omega (arith, c.saturating_add-sum.ensures, same))
    (octets-of-more c.args.datagrams.now c.each.datagram-index c.datagram-item.result c.each-test.true c.datagram-item.is)
