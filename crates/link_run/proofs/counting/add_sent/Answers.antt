use Rattle.std.proofs.Common.{◌≡◌, ◌+◌, ℕ, List, subst, take}
use Rattle.link_run.specs.Shows.{capped}
use Rattle.link_run.specs.WrittenLines.{octets_of, octets_sent}
use Rattle.link_run.proofs.LoopLemmas.{capped-step, octets-sent-more}
use Rattle.link_run.proofs.counting.add_sent.Goals as goal

pub each-preserved : goal.each-preserved
each-preserved c =
    capped-step c.args.octets (octets_sent (take c.each.told-index c.args.tolds.now)) (octets_of c.told-item.result.effects.out) c.each.sum c.add_datagrams-sum.result _
    c.each.invariant
    (subst (λ (ds : List (List ℕ)). c.add_datagrams-sum.result ≡ capped (c.each.sum + octets_of ds)) c.as_slice.ensures c.add_datagrams-sum.ensures)
    (octets-sent-more c.args.tolds.now c.each.told-index c.told-item.result c.each-test.true c.told-item.is)
