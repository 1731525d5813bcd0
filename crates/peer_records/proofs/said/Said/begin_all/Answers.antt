use Rattle.std.proofs.Common.{map, arith}
use Rattle.peer_gateway.specs.Answers.{added_seen}
use Rattle.peer_records.proofs.SaidLemmas.{begins, begins-step, begins-end, short-step, short-all}
use Rattle.peer_records.proofs.said.Said.begin_all.Goals as goal

pub added-preserved : goal.added-preserved
added-preserved c = (
  begins-step c.args.added.now c.added.one-index c.one-item.result c.added.self c.add.new.self (begins (map added_seen c.args.added.now) c.args.self.now)
      c.added-test.true c.one-item.is c.in_ok-add.ensures.ok c.added.invariant.0,
  short-step c.args.added.now c.added.one-index c.one-item.result c.added-test.true c.one-item.is c.added.invariant.1 c.in_ok-add.ensures.short,
)

pub returns-clause-ok : goal.returns-clause-ok
returns-clause-ok c =
    begins-end c.args.added.now c.added.one-index c.added.self (begins (map added_seen c.args.added.now) c.args.self.now) (omega (arith, c.added-test.false)) c.added.invariant.0

pub returns-clause-short : goal.returns-clause-short
returns-clause-short c = short-all c.args.added.now c.added.one-index (omega (arith, c.added-test.false)) c.added.invariant.1
