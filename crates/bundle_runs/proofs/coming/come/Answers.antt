use Rattle.std.proofs.Common.{arith}
use Rattle.bundle_runs.proofs.ComingLemmas.{judged-so-more-of}
use Rattle.bundle_runs.proofs.coming.come.Goals as goal

pub returns-in-Some : goal.returns-in-Some
returns-in-Some c = λ old comes sound room.
    judged-so-more-of c.in-Some.bundle c.feed.new.self c.args.reader.now c.feed.new.reader old c.args.left.now c.feed.result (rw c.in-Some.is at comes) sound
    (λ i. omega (arith, c.type_inv.left i)) room c.feed.ensures
