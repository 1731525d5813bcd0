use Rattle.std.proofs.Common.{arith}
use Rattle.bundle_runs.proofs.CheckLemmas.{judged-more-of}
use Rattle.bundle_runs.proofs.check_reader.Checking.judged.Goals as goal

pub returns-in-Some-clause-judged : goal.returns-in-Some-clause-judged
returns-in-Some-clause-judged c = λ old shadows.
    judged-more-of c.args.self.now old c.in-Some.begun c.judge.new.self c.args.left.now c.judge.result c.in-Some.is shadows
    (λ i. omega (arith, c.type_inv.left i)) c.requires.room c.judge.ensures
