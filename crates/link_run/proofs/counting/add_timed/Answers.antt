use Rattle.std.proofs.Common.{◌≡◌, ◌+◌, List, subst, take}
use Rattle.ltp_world.specs.declared.effects.EndEffects.{EndEffects}
use Rattle.link_run.specs.Shows.{capped}
use Rattle.link_run.specs.WrittenLines.{octets_sent, octets_timed}
use Rattle.link_run.proofs.LoopLemmas.{capped-step, octets-timed-more}
use Rattle.link_run.proofs.counting.add_timed.Goals as goal

pub each-preserved : goal.each-preserved
each-preserved c =
    capped-step c.args.octets (octets_timed (take c.each.at-index c.args.ats.now)) (octets_sent c.at-item.result.effects) c.each.sum c.add_sent-sum.result _
    c.each.invariant
    (subst (λ (es : List EndEffects). c.add_sent-sum.result ≡ capped (c.each.sum + octets_sent es)) c.as_slice.ensures c.add_sent-sum.ensures)
    (octets-timed-more c.args.ats.now c.each.at-index c.at-item.result c.each-test.true c.at-item.is)
