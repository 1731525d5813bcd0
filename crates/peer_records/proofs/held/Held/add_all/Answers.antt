use Rattle.std.proofs.Common.{arith}
use Rattle.peer_records.specs.Ties.{added_all}
use Rattle.peer_records.proofs.HeldLemmas.{added-step, added-end}
use Rattle.peer_records.proofs.held.Held.add_all.Goals as goal

pub added-preserved : goal.added-preserved
added-preserved c =
    added-step c.args.added.now c.added.one-index c.one-item.result c.added.last _ c.added.self c.add.new.self (added_all c.args.greatest c.args.added.now c.args.self.now)
    c.added-test.true c.one-item.is c.in_ok-last.ensures.waits c.in_ok-last.ensures.greatest c.added.invariant

pub returns-clause-ok : goal.returns-clause-ok
returns-clause-ok c =
    added-end c.args.added.now c.added.one-index c.added.last c.added.self (added_all c.args.greatest c.args.added.now c.args.self.now) (omega (arith, c.added-test.false)) c.added.invariant
