use Rattle.std.proofs.Common.{map, sym, arith}
use Rattle.store_traits.specs.Torn.{tear_of}
use Rattle.store_traits.proofs.TornLemmas.{left-next, left-ends, left-was}
use Rattle.store_traits.proofs.torn.TornStore.left.Goals as goal

pub changes-preserved : goal.changes-preserved
changes-preserved c =
    left-next c.args.tears.now c.args.self.now.log.items c.changes.at c.args.moment c.index-change.result.now c.changes.file.items c.in_ok-file-2.file.items _
    c.changes-test.true c.requires (rw (sym c.tear_at.ensures, sym c.index-change.ensures) c.in_ok-file-2.ensures) c.changes.invariant

pub returns-clause-chosen : goal.returns-clause-chosen
returns-clause-chosen c =
    left-ends c.args.tears.now c.args.self.now.log.items c.changes.at c.args.moment c.changes.file.items _ (omega (arith, c.changes-test.false)) c.changes.invariant

pub returns-clause-may : goal.returns-clause-may
returns-clause-may c =
    left-was c.args.self.now.first.items c.args.self.now.log.items c.args.moment (map tear_of c.args.tears.now) c.changes.file.items c.requires
    (left-ends c.args.tears.now c.args.self.now.log.items c.changes.at c.args.moment c.changes.file.items _ (omega (arith, c.changes-test.false)) c.changes.invariant)
