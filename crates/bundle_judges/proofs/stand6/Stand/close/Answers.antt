-- Nothing came of the next.
use Rattle.std.proofs.Common.{refl}
use Rattle.bundle_judges.proofs.FeedLemmas6.{come-nothing}
use Rattle.bundle_judges.proofs.stand6.Stand.close.Goals as goal

pub returns-clause-come : goal.returns-clause-come
returns-clause-come c = come-nothing _ refl refl refl refl refl refl c.clear.ensures.items c.clear-2.ensures
