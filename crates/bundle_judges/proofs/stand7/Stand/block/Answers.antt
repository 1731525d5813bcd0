-- A block where it lies.
use Rattle.std.proofs.Common.{sym, ◌∙◌}
use Rattle.bundle_judges.proofs.HereLemmas7.{none-there, block-checks}
use Rattle.bundle_judges.proofs.stand7.Stand.block.Goals as goal

pub checked-requires-clause-checks : goal.checked-requires-clause-checks
checked-requires-clause-checks c =
    let none = none-there c.args.self.now.head (sym c.is_empty.ensures ∙ c.if-is_empty.true) in (
      c.requires.there.0,
      block-checks c.requires.there.0 c.args.rest.now c.args.self.now c.in-Some.lead c.in-Some.end c.requires.there.1 c.requires.stage none
          c.requires.there.2 c.in-Some.ensures,
    )

pub returns-in-Some : goal.returns-in-Some
returns-in-Some c = λ text stands is.
    let none = none-there c.args.self.now.head (sym c.is_empty.ensures ∙ c.if-is_empty.true) in
    c.checked.ensures text
    (block-checks text c.args.rest.now c.args.self.now c.in-Some.lead c.in-Some.end stands c.requires.stage none is c.in-Some.ensures)
