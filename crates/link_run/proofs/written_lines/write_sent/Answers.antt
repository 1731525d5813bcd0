use Rattle.std.proofs.Common.{◌≡◌, ◌+◌, ◌++◌, ◌<◌, ◌^◌, ℕ, List, length, ap, arith, subst}
use Rattle.std.specs.String.{string_bytes}
use Rattle.link_run.specs.WrittenLines.{out_lines}
use Rattle.link_run.proofs.LoopLemmas.{sent-fits, sent-more, sent-none, sent-number}
use Rattle.link_run.proofs.written_lines.write_sent.Goals as goal

pub each-init : goal.each-init
each-init c = record { k = λ fits. omega arith; text = λ fits. sent-none (string_bytes c.args.text.now) c.args.before }

pub each-preserved : goal.each-preserved
each-preserved c = record {
  k = λ fits.
      sent-number c.args.before c.args.tolds.now c.each.told-index c.told-item.result c.each-test.true c.told-item.is fits
      c.each.k c.saturating_add-k.result (c.each.invariant.k fits)
      (let same = ap length c.as_slice-out.ensures in omega (arith, c.saturating_add-k.ensures, same));
  text = λ fits.
      sent-more c.args.before c.args.tolds.now c.each.told-index c.told-item.result c.each-test.true c.told-item.is fits
      c.each.k (string_bytes c.args.text.now) (string_bytes c.each.text) (string_bytes c.write_out.new.text) (c.each.invariant.k fits) (c.each.invariant.text fits)
      (subst (λ (ds : List (List ℕ)). c.each.k + length ds < 2 ^ 64
      → string_bytes c.write_out.new.text ≡ string_bytes c.each.text ++ out_lines c.each.k c.told-item.result.end ds) c.as_slice-out.ensures c.in_ok-write_out.ensures
      (sent-fits c.args.before c.args.tolds.now c.each.told-index c.told-item.result c.each-test.true c.told-item.is fits c.each.k (c.each.invariant.k fits)));
}
