use Rattle.std.proofs.Common.{arith}
use Rattle.bundle_runs.specs.Given.{IsRead}
use Rattle.bundle_runs.proofs.BegunLemmas.{took-more-of}
use Rattle.bundle_runs.proofs.bundle_reader.Standing.decoded.Goals as goal

pub returns-in-Some : goal.returns-in-Some
returns-in-Some c =
    took-more-of IsRead c.args.self.now c.in-Some.unfinished c.feed.new.self c.args.left.now c.feed.result c.in-Some.is c.requires.sound
    (λ i. omega (arith, c.type_inv.left i)) c.feed.ensures
