use Rattle.std.proofs.Common.{subst, sym, arith}
use Rattle.bundle_runs.specs.Taking.{IsCut}
use Rattle.bundle_runs.proofs.CheckLemmas.{six-begun}
use Rattle.bundle_runs.proofs.ComingLemmas.{front-six}
use Rattle.bundle_runs.proofs.begun.begin6.Goals as goal

pub returns-in-Ok : goal.returns-in-Ok
returns-in-Ok c =
    six-begun c.args.octets.now c.feed.new.self c.in-Ok.field-0 (c.in-Ok.ensures.feeds c.new-judge.ensures.fresh _ c.new-judge.ensures.taken)
    c.in-Ok.ensures.remembers (λ i. omega (arith, c.type_inv.octets i)) c.requires.some c.requires.first
    (subst IsCut (sym (front-six c.args.octets.now c.requires.first)) c.requires.cut)
