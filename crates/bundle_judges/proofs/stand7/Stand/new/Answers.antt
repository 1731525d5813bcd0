-- Nothing came.
use Rattle.std.proofs.Common.{refl}
use Rattle.bundle_judges.proofs.FeedLemmas7.{come-nothing}
use Rattle.bundle_judges.proofs.stand7.Stand.new.Goals as goal

pub returns-clause-come : goal.returns-clause-come
returns-clause-come c = come-nothing _ refl refl refl c.none.ensures c.new.ensures.items c.none-2.ensures
