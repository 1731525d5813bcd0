-- What a judge of whole bundles says.
use Rattle.std.proofs.Common.{arith}
use Rattle.bundle6.proofs.ReaderLemmas.{judged-whole}
use Rattle.bundle_judges.proofs.FeedLemmas6.{looked-refused}
use Rattle.bundle_judges.proofs.feed6.look.Goals as goal

pub returns-in-Ok : goal.returns-in-Ok
returns-in-Ok c = judged-whole c.args.part.now c.in-Ok.end (λ i. omega (arith, c.type_inv.part i)) c.in-Ok.ensures.exact

pub returns-in_default : goal.returns-in_default
returns-in_default c =
    looked-refused c.args.part.now c.args.cut c.in-Err.refused (λ i. omega (arith, c.type_inv.part i)) c.in-Err.ensures.exact c.in_default.not-Truncated
