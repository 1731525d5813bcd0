-- Blocks follow the primary block.
use Rattle.std.proofs.Common.{Ok, refl}
use Rattle.bundle_judges.proofs.StandLemmas7.{with_start}
use Rattle.bundle_judges.proofs.StepLemmas7.{steps-same}
use Rattle.bundle_judges.proofs.StraightLemmas7.{reaches-start}
use Rattle.bundle_judges.proofs.stand7.Stand.started_here.Goals as goal

pub blocks_here-requires-clause-reaches : goal.blocks_here-requires-clause-reaches
blocks_here-requires-clause-reaches c =
    (c.requires.starts.0, reaches-start c.requires.starts.0 c.args.rest.now c.args.self.now c.args.part c.clear.new.self c.args.end c.requires.starts.1 c.clear.ensures)

pub returns : goal.returns
returns c = λ text starts.
    steps-same text c.args.self.now (with_start c.args.self.now c.args.part c.clear.new.self) (Ok c.blocks_here.result) c.blocks_here.new.self refl refl refl
    (c.blocks_here.ensures text (reaches-start text c.args.rest.now c.args.self.now c.args.part c.clear.new.self c.args.end starts c.clear.ensures))
