use Rattle.std.proofs.Common.{◌≡◌, ◌+◌, List, subst, take}
use Rattle.ltp_world.specs.declared.effects.EndEffects.{EndEffects}
use Rattle.link_run.specs.Shows.{capped}
use Rattle.link_run.specs.WrittenLines.{octets_sent, octets_steps}
use Rattle.link_run.proofs.LoopLemmas.{capped-step}
use Rattle.link_run.proofs.StepsLemmas.{octets-steps-more}
use Rattle.link_run.proofs.counting.add_steps.Goals as goal

pub each-preserved : goal.each-preserved
each-preserved c =
    capped-step c.args.octets (octets_steps (take c.each.step-index c.args.steps.now)) (octets_sent c.step-item.result) c.each.sum c.add_sent-sum.result _
    c.each.invariant
    (subst (λ (es : List EndEffects). c.add_sent-sum.result ≡ capped (c.each.sum + octets_sent es)) c.as_slice.ensures c.add_sent-sum.ensures)
    (octets-steps-more c.args.steps.now c.each.step-index c.step-item.result c.each-test.true c.step-item.is)
