use Rattle.bundle6.proofs.NumberingLemmas.{lent-push}
use Rattle.bundle6.proofs.numbering.lend_all.Goals as goal

pub lending-preserved : goal.lending-preserved
lending-preserved c =
    lent-push c.args.found.now.items c.lending.found.items c.push.new.self.items c.args.refs.now c.lending.at c.get.result
    (rw c.len-at-end.ensures at c.lending-test.true) c.get.ensures c.in_ok-push.ensures.items c.lending.invariant
