use Rattle.std.proofs.Common.{None, false, [], ap, arith}
use Rattle.bundle_runs.specs.declared.check_reader.Checking.{Checking}
use Rattle.bundle_runs.proofs.CheckLemmas.{may-begin, judged-first}
use Rattle.bundle_runs.proofs.check_reader.Checking.begin_seven.Goals as goal

pub judge7-requires : goal.judge7-requires
judge7-requires c =
    let (old, shadows) = c.requires.shadowed in (
      record { stream = record { before = 0; kept = [] }; refused = None; spent = false },
      may-begin c.args.self.now old c.args.left.now shadows c.requires.few,
    )

pub returns-in-Whole-clause-judged : goal.returns-in-Whole-clause-judged
returns-in-Whole-clause-judged c = λ old shadows.
    judged-first c.args.self.now _ old c.judge7.new.judge c.args.left.now c.in_ok-given.given c.requires.none shadows
    (λ i. omega (arith, c.type_inv.left i)) c.requires.some c.requires.first
    (c.in_ok-given.ensures.judges _ (may-begin c.args.self.now old c.args.left.now shadows c.requires.few))
    (rw c.in-Whole.is tt)
    (rw c.in-Whole.is (record { fresh = c.restart.ensures.fresh; whole = c.restart.ensures.whole; taken = c.restart.ensures.taken }))

pub returns-in-Part-clause-judged : goal.returns-in-Part-clause-judged
returns-in-Part-clause-judged c = λ old shadows.
    judged-first c.args.self.now _ old c.judge7.new.judge c.args.left.now c.in_ok-given.given c.requires.none shadows
    (λ i. omega (arith, c.type_inv.left i)) c.requires.some c.requires.first
    (c.in_ok-given.ensures.judges _ (may-begin c.args.self.now old c.args.left.now shadows c.requires.few))
    (rw c.in-Part.is (ap (λ (t : Checking). t.begun) c.keep7.ensures.same)) (rw c.in-Part.is c.keep7.ensures.fresh)

pub returns-in-Refused-clause-judged : goal.returns-in-Refused-clause-judged
returns-in-Refused-clause-judged c = λ old shadows.
    judged-first c.args.self.now _ old c.judge7.new.judge c.args.left.now c.in_ok-given.given c.requires.none shadows
    (λ i. omega (arith, c.type_inv.left i)) c.requires.some c.requires.first
    (c.in_ok-given.ensures.judges _ (may-begin c.args.self.now old c.args.left.now shadows c.requires.few))
    (rw c.in-Refused.is tt) (rw c.in-Refused.is tt)
