-- A block follows, or the end.
use Rattle.std.proofs.Common.{sym, ◌∙◌}
use Rattle.bundle_judges.proofs.StandLemmas7.{checks-last, checks-more}
use Rattle.bundle_judges.proofs.stand7.Stand.checked.Goals as goal

pub returns-then-is_last : goal.returns-then-is_last
returns-then-is_last c = λ text checks.
    rw (c.go.ensures.step, c.go.ensures.stand) (checks-last text c.args.self.now c.args.lead c.args.more checks (rw c.count.ensures at (sym c.is_last.ensures ∙ c.if-is_last.true)))

pub returns : goal.returns
returns c = λ text checks.
    rw (c.go-2.ensures.step, c.go-2.ensures.stand) (checks-more text c.args.self.now _ c.args.lead c.args.more checks (rw c.count.ensures at (sym c.is_last.ensures ∙ c.if-is_last.false)) c.push.ensures)
