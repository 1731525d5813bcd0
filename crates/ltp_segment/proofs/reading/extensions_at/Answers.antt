use Rattle.std.proofs.Common.{ap, arith}
use Rattle.std.proofs.Math.Nat.{sub-zero}
use Rattle.wire_fields.specs.Reading.{read}
use Rattle.wire_fields.specs.Words.{repeated}
use Rattle.wire_fields.proofs.GroupLemmas.{repeated-step}
use Rattle.ltp_segment.specs.Table.{extension, extensions}
use Rattle.ltp_segment.proofs.reading.extensions_at.Goals as goal

pub passing-init : goal.passing-init
unfolding extensions
passing-init c = record {
  after = omega arith;
  place = omega arith;
  left = ap (λ n. read (repeated n (λ _. extension) tt) c.args.text.now c.args.at) (sub-zero c.args.count);
}

pub passing-preserved : goal.passing-preserved
passing-preserved c = record {
  after = omega (arith, c.in_ok-next.ensures.within.behind);
  place = c.in_ok-next.ensures.within.within;
  left = repeated-step (λ _. extension) c.args.text.now c.args.count c.passing.counter tt tt c.passing.after c.in_ok-next.next
      (read (extensions c.args.count) c.args.text.now c.args.at) (omega arith) c.in_ok-next.ensures.exact c.passing.invariant.left;
}
