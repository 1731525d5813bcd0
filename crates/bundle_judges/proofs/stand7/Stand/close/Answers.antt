-- Nothing came of the next.
use Rattle.std.proofs.Common.{refl}
use Rattle.bundle_judges.proofs.FeedLemmas7.{come-nothing}
use Rattle.bundle_judges.proofs.stand7.Stand.close.Goals as goal

pub returns-clause-come : goal.returns-clause-come
returns-clause-come c = come-nothing _ refl refl refl c.clear.ensures c.clear-2.ensures.items c.clear-3.ensures
