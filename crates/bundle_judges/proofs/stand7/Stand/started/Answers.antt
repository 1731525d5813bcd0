-- Blocks follow the primary block.
use Rattle.bundle_judges.proofs.StandLemmas7.{starts-on}
use Rattle.bundle_judges.proofs.stand7.Stand.started.Goals as goal

pub returns : goal.returns
returns c = λ text starts.
    rw (c.go.ensures.step, c.go.ensures.stand) (starts-on text c.args.self.now c.args.part _ c.args.more starts c.clear.ensures)
