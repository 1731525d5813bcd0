-- The bundle lies in the part.
use Rattle.std.proofs.Common.{arith}
use Rattle.bundle6.specs.declared.bundle.Bundle6.{Bundle6}
use Rattle.bundle6.specs.Holding.{IsWhole}
use Rattle.bundle_judges.proofs.FeedLemmas6.{part-whole}
use Rattle.bundle_judges.proofs.stand6.Stand.begin.Goals as goal

pub returns-in-Ok-Some : goal.returns-in-Ok-Some
returns-in-Ok-Some c = λ stream took.
    let whole : (b : Bundle6) × IsWhole c.args.part.now b c.in-Ok-Some.end = rw c.in-Ok-Some.field-0-is at c.in-Ok-Some.ensures in
    part-whole stream c.args.part.now c.args.cut whole.0 c.in-Ok-Some.end c.args.self.now
    (omega (arith, c.requires.empty, took.come.all)) whole.1 took.come took.before
