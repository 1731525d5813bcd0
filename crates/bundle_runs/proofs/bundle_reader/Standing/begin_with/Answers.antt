use Rattle.std.proofs.Common.{Some, arith}
use Rattle.bundle_runs.specs.Given.{IsRead}
use Rattle.bundle_runs.specs.Taking.{with_unfinished}
use Rattle.bundle_runs.proofs.BegunLemmas.{took-first, took-settled}
use Rattle.bundle_runs.proofs.bundle_reader.Standing.begin_with.Goals as goal

pub returns-in-Part : goal.returns-in-Part
returns-in-Part c =
    took-first IsRead c.args.self.now c.args.unfinished c.feed.new.self c.args.left.now _ c.requires.none (λ i. omega (arith, c.type_inv.left i))
    c.requires.some c.requires.fresh.1 c.requires.fresh.2 (rw c.in-Part.is at c.in_ok-given.ensures)

pub returns-in_default : goal.returns-in_default
returns-in_default c =
    took-settled IsRead c.args.self.now (with_unfinished c.args.self.now (Some c.feed.new.self)) c.args.left.now c.args.self.now.unfinished _ c.in_default.not-Part
    (took-first IsRead c.args.self.now c.args.unfinished c.feed.new.self c.args.left.now _ c.requires.none (λ i. omega (arith, c.type_inv.left i))
    c.requires.some c.requires.fresh.1 c.requires.fresh.2 c.in_ok-given.ensures)
