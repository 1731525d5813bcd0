-- The mark that ends the bundle.
use Rattle.bundle_judges.proofs.StraightLemmas7.{end-here}
use Rattle.bundle_judges.proofs.stand7.Stand.end_here.Goals as goal

pub returns-in-Ok : goal.returns-in-Ok
returns-in-Ok c = λ text left reaches is.
    end-here text left c.args.rest.now c.args.self.now c.args.more _ c.in-Ok.end reaches is c.in-Ok.ensures.exact
