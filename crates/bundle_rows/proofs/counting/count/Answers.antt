use Rattle.std.proofs.Common.{sym}
use Rattle.bundle_rows.proofs.CountLemmas.{counting-more, counting-none, counting-end}
use Rattle.bundle_rows.proofs.counting.count.Goals as goal

pub reading-preserved : goal.reading-preserved
reading-preserved c = record {
  so_far = counting-more c.args.face c.args.block.now c.reading.bundles c.reading.place c.in-Bundle.to c.reading.invariant.so_far
      (sym c.in-Bundle.ensures.exact) c.in-Bundle.ensures.within.0 c.in-Bundle.ensures.within.1;
}

pub returns-in-Nothing-clause-bundles : goal.returns-in-Nothing-clause-bundles
returns-in-Nothing-clause-bundles c =
    (counting-none c.args.face c.args.block.now c.reading.bundles c.reading.place c.reading.invariant.so_far (sym c.in-Nothing.ensures.exact)).0

pub returns-in-Nothing-clause-end : goal.returns-in-Nothing-clause-end
returns-in-Nothing-clause-end c =
    (counting-none c.args.face c.args.block.now c.reading.bundles c.reading.place c.reading.invariant.so_far (sym c.in-Nothing.ensures.exact)).1

pub returns-in-End-clause-bundles : goal.returns-in-End-clause-bundles
returns-in-End-clause-bundles c =
    (counting-end c.args.face c.args.block.now c.reading.bundles c.reading.place c.in-End.at c.in-End.cause c.reading.invariant.so_far
    (sym c.in-End.ensures.exact) c.in-End.ensures.within.0).0

pub returns-in-End-clause-end : goal.returns-in-End-clause-end
returns-in-End-clause-end c =
    (counting-end c.args.face c.args.block.now c.reading.bundles c.reading.place c.in-End.at c.in-End.cause c.reading.invariant.so_far
    (sym c.in-End.ensures.exact) c.in-End.ensures.within.0).1
