use Rattle.std.proofs.Common.{ℕ, refl, sym, arith, subst}
use Rattle.contact_plan.specs.Kept.{windows_of}
use Rattle.contact_plan.specs.Windows.{IsMoment}
use Rattle.contact_plan.proofs.KeptLemmas.{kept-at, moment-is, none-past, stands-at}
use Rattle.contact_plan.proofs.kept.moment.Goals as goal

pub returns-then-passed-kept : goal.returns-then-passed-kept
returns-then-passed-kept c =
    let none = none-past 0 0 c.args.contact c.args.kept.now c.passed_by-passed.result c.requires (omega arith) c.passed_by-passed.ensures c.if-passed-kept.true in
    omega (arith, none)

pub moment_at-requires-clause-since : goal.moment_at-requires-clause-since
moment_at-requires-clause-since c =
    (stands-at c.args.contact c.args.kept.now c.passed_by-passed.result (record { window = record { from = 0; to = 0 }; contact = 0 }) c.requires c.passed_by-passed.ensures
    (omega (arith, c.if-passed-kept.false))).since

pub moment_at-requires-clause-order : goal.moment_at-requires-clause-order
moment_at-requires-clause-order c =
    (kept-at 0 0 c.args.kept.now c.passed_by-passed.result (record { window = record { from = 0; to = 0 }; contact = 0 }) c.requires (omega (arith, c.if-passed-kept.false))).order

pub returns : goal.returns
returns c =
    subst (λ (t : ℕ). IsMoment (windows_of c.args.kept.now) c.args.contact t) (sym c.moment_at.ensures)
    (moment-is c.args.contact c.args.kept.now c.passed_by-passed.result _ (record { window = record { from = 0; to = 0 }; contact = 0 }) c.requires (omega (arith, c.if-passed-kept.false)) refl
    (stands-at c.args.contact c.args.kept.now c.passed_by-passed.result (record { window = record { from = 0; to = 0 }; contact = 0 }) c.requires c.passed_by-passed.ensures
    (omega (arith, c.if-passed-kept.false))))
