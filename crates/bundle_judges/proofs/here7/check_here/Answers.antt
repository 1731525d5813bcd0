-- A check where it lies.
use Rattle.std.proofs.lemmas.List.{take_rest}
use Rattle.bundle_judges.proofs.HereLemmas7.{check-by}
use Rattle.bundle_judges.proofs.here7.check_here.Goals as goal

pub returns-in-Some : goal.returns-in-Some
returns-in-Some c =
    check-by c.args.rest.now _ _ c.args.none c.with.result c.args.to c.in-Ok.head c.in-Some.octets (take_rest c.args.rest.now c.args.to)
    c.in-Ok.ensures.exact c.in-Ok.ensures.within c.with.ensures (take_rest _ c.in-Ok.head) c.in-Some.ensures.0 c.in-Some.ensures.1
