-- A piece, of which a part may be taken.
use Rattle.std.proofs.Common.{true, sym, refl}
use Rattle.std.proofs.lemmas.Bool.{lt-ltb}
use Rattle.bundle_judges.proofs.FeedLemmas7.{near-part, part-judges}
use Rattle.bundle_judges.proofs.stand7.Stand.feed.Goals as goal

pub returns-then-self-eq0 : goal.returns-then-self-eq0
returns-then-self-eq0 c = λ stream taken.
    part-judges c.args.longest stream c.args.piece.now _ true taken.small
    (near-part c.args.longest _ _ stream c.args.piece.now c.min.ensures taken.took.come.all) (sym (lt-ltb _ _ c.if-cut.true)) c.look.result c.look.new.self
    (c.look.ensures stream taken.took)

pub returns-else-cut : goal.returns-else-cut
returns-else-cut c = λ stream taken.
    part-judges c.args.longest stream c.args.piece.now _ _ taken.small
    (near-part c.args.longest _ _ stream c.args.piece.now c.min.ensures taken.took.come.all) refl c.go_on.result c.go_on.new.self
    (c.go_on.ensures stream taken.took)
