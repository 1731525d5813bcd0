-- A piece, of which a part may be taken.
use Rattle.std.proofs.Common.{refl}
use Rattle.bundle_judges.proofs.FeedLemmas6.{near-part, part-judges}
use Rattle.bundle_judges.proofs.stand6.Stand.feed.Goals as goal

pub returns-then-self-eq0 : goal.returns-then-self-eq0
returns-then-self-eq0 c = λ stream taken.
    part-judges c.args.longest stream c.args.piece.now _ _ taken.small
    (near-part c.args.longest _ _ stream c.args.piece.now c.min.ensures taken.took.come.all) refl c.begin.result c.begin.new.self
    (c.begin.ensures stream taken.took)

pub returns-else-self-eq0 : goal.returns-else-self-eq0
returns-else-self-eq0 c = λ stream taken.
    part-judges c.args.longest stream c.args.piece.now _ _ taken.small
    (near-part c.args.longest _ _ stream c.args.piece.now c.min.ensures taken.took.come.all) refl c.go_on.result c.go_on.new.self
    (c.go_on.ensures stream taken.took)
