-- The bundle ends, or a block follows.
use Rattle.bundle_judges.proofs.StandLemmas6.{leaves-ended, leaves-on}
use Rattle.bundle_judges.proofs.stand6.Stand.leave.Goals as goal

pub returns-then-last : goal.returns-then-last
returns-then-last c = λ text leaves. leaves-ended text c.args.self.now c.args.more (rw c.if-last.true at leaves)

pub returns : goal.returns
returns c = λ text leaves. rw c.enter.ensures (leaves-on text c.args.self.now c.args.more (rw c.if-last.false at leaves))
