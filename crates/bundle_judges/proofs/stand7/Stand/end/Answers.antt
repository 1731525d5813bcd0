-- The mark that ends a bundle.
use Rattle.std.proofs.Common.{sym, ◌∙◌}
use Rattle.bundle_judges.proofs.HereLemmas7.{none-there, end-ends}
use Rattle.bundle_judges.proofs.stand7.Stand.end.Goals as goal

pub returns-in-Ok : goal.returns-in-Ok
returns-in-Ok c = λ text stands is.
    let none = none-there c.args.self.now.head (sym c.is_empty.ensures ∙ c.if-is_empty.true) in
    end-ends text c.args.rest.now c.args.self.now _ c.in-Ok.end stands c.requires.stage none is c.in-Ok.ensures.exact
