-- One endpoint more, or none.
use Rattle.std.proofs.Common.{arith}
use Rattle.bundle_meaning.specs.Body.{name_of}
use Rattle.bundle_meaning.proofs.NamesLemmas.{so_far-more, so_far-end}
use Rattle.bundle_meaning.proofs.wrap_new.names_at.Goals as goal

pub passing-preserved : goal.passing-preserved
passing-preserved c = record {
  place = record {
    behind = omega (arith, c.passing.invariant.place.behind, c.in_ok-after.ensures.within.behind);
    within = c.in_ok-after.ensures.within.within;
  };
  so_far = so_far-more c.args.count c.passing.counter c.args.text.now c.passing.behind c.args.at c.in_ok-after.after
      (name_of c.in_ok-after.field-0-0.now) c.passing-test.true c.passing.invariant.so_far c.in_ok-after.ensures.exact;
}

pub returns-clause-exact : goal.returns-clause-exact
returns-clause-exact c =
    so_far-end (record { text = c.args.text; at = c.args.at; count = c.args.count }) c.passing.counter c.passing.behind
    (omega arith) c.passing.invariant.so_far
