-- Nothing came.
use Rattle.bundle_judges.proofs.FeedLemmas7.{taken-start}
use Rattle.bundle_judges.proofs.judge7.Judge7.restart.Goals as goal

pub returns-clause-taken : goal.returns-clause-taken
returns-clause-taken c = taken-start _ c.restart.ensures.come c.restart.ensures.before
