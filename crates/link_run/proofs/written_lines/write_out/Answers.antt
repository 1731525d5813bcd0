use Rattle.std.proofs.Common.{length, arith}
use Rattle.std.specs.String.{string_bytes}
use Rattle.link_run.proofs.LoopLemmas.{next-number, out-more, out-none}
use Rattle.link_run.proofs.written_lines.write_out.Goals as goal

pub each-init : goal.each-init
each-init c = record { k = λ fits. omega arith; text = λ fits. out-none (string_bytes c.args.text.now) c.args.before c.args.end }

pub each-preserved : goal.each-preserved
each-preserved c = record {
  k = λ fits.
      next-number c.args.before (length c.args.out.now) c.each.datagram-index c.each.k c.saturating_add-k.result fits c.each-test.true (c.each.invariant.k fits)
      (omega (arith, c.saturating_add-k.ensures));
  text = λ fits.
      out-more c.args.before c.args.end c.args.out.now c.each.datagram-index c.each.k c.datagram-item.result
      (string_bytes c.args.text.now) (string_bytes c.each.text) (string_bytes c.write_datagram.new.text)
      c.each-test.true c.datagram-item.is (c.each.invariant.k fits) (c.each.invariant.text fits) c.in_ok-write_datagram.ensures;
}
