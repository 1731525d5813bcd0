use Rattle.std.proofs.Common.{arith}
use Rattle.peer_records.specs.Ties.{begun_all}
use Rattle.peer_records.proofs.HeldLemmas.{begun-step, begun-end}
use Rattle.peer_records.proofs.held.Held.begin_all.Goals as goal

pub begun-preserved : goal.begun-preserved
begun-preserved c =
    begun-step c.args.begun.now c.begun.one-index c.one-item.result c.begun.self c.begin.new.self (begun_all c.args.begun.now c.args.self.now)
    c.begun-test.true c.one-item.is c.in_ok-begin.ensures c.begun.invariant

pub returns-clause-ok : goal.returns-clause-ok
returns-clause-ok c =
    begun-end c.args.begun.now c.begun.one-index c.begun.self (begun_all c.args.begun.now c.args.self.now) (omega (arith, c.begun-test.false)) c.begun.invariant
