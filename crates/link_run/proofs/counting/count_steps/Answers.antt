use Rattle.std.proofs.Common.{◌≡◌, ◌+◌, List, subst, take}
use Rattle.ltp_world.specs.declared.effects.EndEffects.{EndEffects}
use Rattle.link_run.specs.Shows.{capped}
use Rattle.link_run.specs.WrittenLines.{count_sent, count_steps}
use Rattle.link_run.proofs.LoopLemmas.{capped-step}
use Rattle.link_run.proofs.StepsLemmas.{count-steps-more}
use Rattle.link_run.proofs.counting.count_steps.Goals as goal

pub each-preserved : goal.each-preserved
each-preserved c =
    capped-step c.args.count (count_steps (take c.each.step-index c.args.steps.now)) (count_sent c.step-item.result) c.each.sum c.count_sent-sum.result _
    c.each.invariant
    (subst (λ (es : List EndEffects). c.count_sent-sum.result ≡ capped (c.each.sum + count_sent es)) c.as_slice.ensures c.count_sent-sum.ensures)
    (count-steps-more c.args.steps.now c.each.step-index c.step-item.result c.each-test.true c.step-item.is)
