use Rattle.std.proofs.Common.{◌∙◌, arith, sym, length}
use Rattle.translate.proofs.NumberLemmas.{free-more}
use Rattle.translate.proofs.writing7.next_free.Goals as goal

pub passing-preserved : goal.passing-preserved
passing-preserved c = record {
  bound = omega (arith, c.passing.invariant.bound);
  rest = sym (free-more c.args.exts.now (length c.args.exts.now) c.passing.counter c.passing.free c.passing-test.true
      (sym c.is_taken.ensures ∙ c.if-not-is_taken.false)) ∙ c.passing.invariant.rest;
}
