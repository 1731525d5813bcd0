use Rattle.std.proofs.Common.{◌≡◌, ◌+◌, ◌++◌, ◌<◌, ◌^◌, List, refl, arith, subst}
use Rattle.std.specs.String.{string_bytes}
use Rattle.ltp_world.specs.declared.effects.EndEffects.{EndEffects}
use Rattle.link_run.specs.Shows.{capped}
use Rattle.link_run.specs.WrittenLines.{count_sent, told_text}
use Rattle.link_run.proofs.LoopLemmas.{shown-more, timed-fits, timed-more, timed-none, timed-number}
use Rattle.link_run.proofs.written_lines.write_timed.Goals as goal

pub each-init : goal.each-init
each-init c = record {
  shown = refl;
  k = λ fits. omega arith;
  text = λ fits. timed-none (string_bytes c.args.text.now) c.args.windows c.args.moment c.args.before;
}

pub each-preserved : goal.each-preserved
each-preserved c = record {
  shown = shown-more c.args.windows c.args.moment c.args.before c.args.ats.now c.each.at-index c.at-item.result c.each-test.true c.at-item.is;
  k = λ fits.
      timed-number c.args.windows c.args.moment c.args.before c.args.ats.now c.each.at-index c.at-item.result c.each-test.true c.at-item.is fits
      c.each.k c.count_sent-k.result (c.each.invariant.k fits)
      (subst (λ (es : List EndEffects). c.count_sent-k.result ≡ capped (c.each.k + count_sent es)) c.as_slice-tolds.ensures c.count_sent-k.ensures);
  text = λ fits.
      timed-more c.args.windows c.args.moment c.args.before c.args.ats.now c.each.at-index c.at-item.result c.each-test.true c.at-item.is
      c.each.shown c.each.k (string_bytes c.args.text.now) (string_bytes c.each.text) (string_bytes c.write_moved.new.text) (string_bytes c.write_told.new.text)
      c.each.invariant.shown (c.each.invariant.k fits) (c.each.invariant.text fits) c.in_ok-write_moved.ensures
      (subst (λ (es : List EndEffects). c.each.k + count_sent es < 2 ^ 64
      → string_bytes c.write_told.new.text ≡ string_bytes c.write_moved.new.text ++ told_text c.each.k es) c.as_slice-tolds.ensures c.in_ok-write_told.ensures
      (timed-fits c.args.windows c.args.moment c.args.before c.args.ats.now c.each.at-index c.at-item.result c.each-test.true c.at-item.is fits c.each.k (c.each.invariant.k fits)));
}
