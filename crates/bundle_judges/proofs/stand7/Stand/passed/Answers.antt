-- What follows a field of few octets.
use Rattle.std.proofs.Common.{take, ap}
use Rattle.bundle_judges.proofs.StandLemmas7.{passes-item, passes-check, passes-octets, passes-end}
use Rattle.bundle_judges.proofs.stand7.Stand.passed.Goals as goal

pub checked-requires-clause-checks : goal.checked-requires-clause-checks
checked-requires-clause-checks c =
    (c.requires.passes.0, passes-octets c.requires.passes.0 c.args.self.now c.args.end c.args.more c.in-Octets.lead _ (rw c.in-Octets.is at c.requires.passes.1))

pub returns-in-Item : goal.returns-in-Item
returns-in-Item c = λ text passes.
    rw (c.go.ensures.step, c.go.ensures.stand, c.with-sum.ensures)
    (passes-item text c.args.self.now c.args.end c.args.more _ c.in-Item.front c.in-Item.sum (rw c.in-Item.is at passes) (ap (take c.args.end) c.as_slice.ensures))

pub returns-in-Check : goal.returns-in-Check
returns-in-Check c = λ text passes.
    rw (c.go-in-Check.ensures.step, c.go-in-Check.ensures.stand, c.with-sum-in-Check.ensures)
    (passes-check text c.args.self.now c.args.end c.args.more _ c.in-Check.lead c.in-Check.sum (rw c.in-Check.is at passes) (ap (take c.args.end) c.as_slice.ensures))

pub returns-in-Octets : goal.returns-in-Octets
returns-in-Octets c = λ text passes.
    c.checked.ensures text (passes-octets text c.args.self.now c.args.end c.args.more c.in-Octets.lead _ (rw c.in-Octets.is at passes))

pub returns-in-End : goal.returns-in-End
returns-in-End c = λ text passes. passes-end text c.args.self.now c.args.end c.args.more (rw c.in-End.is at passes)
