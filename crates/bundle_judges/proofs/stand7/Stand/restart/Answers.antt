-- Nothing came of another stream.
use Rattle.std.proofs.Common.{arith}
use Rattle.bundle_judges.proofs.FeedLemmas7.{come-anew}
use Rattle.bundle_judges.proofs.stand7.Stand.restart.Goals as goal

pub returns-else-self-gt0-clause-come : goal.returns-else-self-gt0-clause-come
returns-else-self-gt0-clause-come c = come-anew _ c.args.self.now c.requires.1.come (omega (arith, c.if-self-gt0.false))
