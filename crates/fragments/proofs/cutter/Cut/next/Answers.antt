-- The next piece, and those that are left after it.
use Rattle.std.proofs.Common.{arith}
use Rattle.fragments.proofs.CutterLemmas.{gives-none, gives-next}
use Rattle.fragments.proofs.cutter.Cut.next.Goals as goal

pub returns-then-self-eq0-clause-gives : goal.returns-then-self-eq0-clause-gives
returns-then-self-eq0-clause-gives c =
    gives-none c.args.self.now.full c.args.self.now.size c.args.self.now.next c.args.self.now.count c.if-self-eq0.true

pub returns-clause-gives : goal.returns-clause-gives
returns-clause-gives c =
    rw c.in_ok-piece.ensures
    (gives-next c.args.self.now.full c.args.self.now.size c.args.self.now.next c.args.self.now.count (omega (arith, c.if-self-eq0.false)))
