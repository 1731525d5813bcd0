use Rattle.std.proofs.Common.{◌≡◌, ◌+◌, List, subst, take}
use Rattle.ltp_world.specs.declared.effects.EndEffects.{EndEffects}
use Rattle.link_run.specs.Shows.{capped}
use Rattle.link_run.specs.WrittenLines.{count_sent, count_timed}
use Rattle.link_run.proofs.LoopLemmas.{capped-step, count-timed-more}
use Rattle.link_run.proofs.counting.count_timed.Goals as goal

pub each-preserved : goal.each-preserved
each-preserved c =
    capped-step c.args.count (count_timed (take c.each.at-index c.args.ats.now)) (count_sent c.at-item.result.effects) c.each.sum c.count_sent-sum.result _
    c.each.invariant
    (subst (λ (es : List EndEffects). c.count_sent-sum.result ≡ capped (c.each.sum + count_sent es)) c.as_slice.ensures c.count_sent-sum.ensures)
    (count-timed-more c.args.ats.now c.each.at-index c.at-item.result c.each-test.true c.at-item.is)
