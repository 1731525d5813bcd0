-- Nothing came.
use Rattle.std.proofs.Common.{refl}
use Rattle.bundle_judges.proofs.FeedLemmas6.{come-nothing}
use Rattle.bundle_judges.proofs.stand6.Stand.new.Goals as goal

pub returns-clause-come : goal.returns-clause-come
returns-clause-come c = come-nothing _ refl refl refl refl refl refl c.new.ensures.items c.none.ensures
