use Rattle.std.proofs.Common.{arith, sym, ◌∙◌}
use Rattle.ltp_world.proofs.SearchLemmas.{place-end, place-here, place-later}
use Rattle.ltp_world.proofs.world.LinkWorld.next_new.Goals as goal

pub seeking-preserved : goal.seeking-preserved
seeking-preserved c = record {
  low = omega (arith, c.seeking.invariant.low);
  within = omega (arith, c.seeking-test.true, c.sent.ensures);
  found = sym (place-later c.args.end c.seeking.k c.args.self.now.sent c.sent_by.result c.is.result (omega (arith, c.seeking-test.true, c.sent.ensures)) c.sent_by.ensures c.is.ensures c.if-not-is.true)
      ∙ c.seeking.invariant.found;
}

pub returns-else-not-is-clause-first : goal.returns-else-not-is-clause-first
returns-else-not-is-clause-first c =
    sym (place-here c.args.end c.seeking.k c.args.self.now.sent c.sent_by.result c.is.result (omega (arith, c.seeking-test.true, c.sent.ensures)) c.sent_by.ensures c.is.ensures c.if-not-is.false)
    ∙ c.seeking.invariant.found

pub returns-after-seeking-clause-first : goal.returns-after-seeking-clause-first
returns-after-seeking-clause-first c =
    sym (place-end c.args.end c.seeking.k c.args.self.now.sent (omega (arith, c.seeking-test.false, c.sent.ensures))) ∙ c.seeking.invariant.found
