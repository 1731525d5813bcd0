-- The part where it lies.
use Rattle.std.proofs.Common.{true, arith}
use Rattle.bundle7.proofs.ReaderLemmas.{judged-whole}
use Rattle.bundle_judges.proofs.FeedLemmas7.{looked-refused, part-whole, part-spread, part-turned}
use Rattle.bundle_judges.proofs.stand7.Stand.look.Goals as goal

pub after-requires : goal.after-requires
after-requires c =
    omega (arith, (looked-refused c.args.part.now true c.in-Err.refused (λ i. omega (arith, c.type_inv.part i)) c.in-Err.ensures.exact c.in_default.not-Truncated).0, c.requires.counted)

pub returns-in-Ok : goal.returns-in-Ok
returns-in-Ok c = λ stream took.
    let whole = judged-whole c.args.part.now c.in-Ok.end (λ i. omega (arith, c.type_inv.part i)) c.in-Ok.ensures.exact in
    part-whole stream c.args.part.now true whole.0 c.in-Ok.end c.args.self.now (omega (arith, c.requires.empty, took.come.all)) whole.1 took.come took.before

pub returns-in-Truncated : goal.returns-in-Truncated
returns-in-Truncated c = λ stream took.
    part-spread stream c.args.part.now c.args.self.now.before c.in-Err.refused c.args.self.now took.come c.requires.empty took.before
    c.in-Err.ensures.exact c.in-Truncated.is

pub returns-in_default : goal.returns-in_default
returns-in_default c = λ stream took.
    let refused = looked-refused c.args.part.now true c.in-Err.refused (λ i. omega (arith, c.type_inv.part i)) c.in-Err.ensures.exact c.in_default.not-Truncated in
    rw (c.into.ensures, c.after.ensures)
    (part-turned stream c.args.part.now true c.args.self.now.before c.in-Err.refused c.args.self.now took.come c.requires.empty took.before refused.1)
