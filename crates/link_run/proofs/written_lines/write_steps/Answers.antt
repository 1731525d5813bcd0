use Rattle.std.proofs.Common.{◌≡◌, ◌+◌, ◌++◌, ◌<◌, ◌^◌, List, arith, subst}
use Rattle.std.specs.String.{string_bytes}
use Rattle.ltp_world.specs.declared.effects.EndEffects.{EndEffects}
use Rattle.link_run.specs.Shows.{capped}
use Rattle.link_run.specs.WrittenLines.{count_sent, told_text}
use Rattle.link_run.proofs.StepsLemmas.{steps-fits, steps-more, steps-none, steps-number}
use Rattle.link_run.proofs.written_lines.write_steps.Goals as goal

pub each-init : goal.each-init
each-init c = record {
  k = λ fits. omega arith;
  text = λ fits. steps-none (string_bytes c.args.text.now) c.args.before;
}

pub each-preserved : goal.each-preserved
each-preserved c = record {
  k = λ fits.
      steps-number c.args.before c.args.steps.now c.each.step-index c.step-item.result c.each-test.true c.step-item.is fits
      c.each.k c.count_sent-k.result (c.each.invariant.k fits)
      (subst (λ (es : List EndEffects). c.count_sent-k.result ≡ capped (c.each.k + count_sent es)) c.as_slice-tolds.ensures c.count_sent-k.ensures);
  text = λ fits.
      steps-more c.args.before c.args.steps.now c.each.step-index c.step-item.result c.each-test.true c.step-item.is fits
      c.each.k (string_bytes c.args.text.now) (string_bytes c.each.text) (string_bytes c.write_told.new.text)
      (c.each.invariant.k fits) (c.each.invariant.text fits)
      (subst (λ (es : List EndEffects). c.each.k + count_sent es < 2 ^ 64
      → string_bytes c.write_told.new.text ≡ string_bytes c.each.text ++ told_text c.each.k es) c.as_slice-tolds.ensures c.in_ok-write_told.ensures
      (steps-fits c.args.before c.args.steps.now c.each.step-index c.step-item.result c.each-test.true c.step-item.is fits c.each.k (c.each.invariant.k fits)));
}
