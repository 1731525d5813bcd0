use Rattle.std.proofs.Common.{ℕ, ap, arith}
use Rattle.contact_plan.proofs.KeptLemmas.{elapsed-at, elapsed-past, kept-at}
use Rattle.contact_plan.proofs.kept.elapsed.Goals as goal

pub returns-then-ended-kept : goal.returns-then-ended-kept
returns-then-ended-kept c =
    let past = elapsed-past 0 0 c.args.kept.now c.args.now c.ended_by-ended.result c.requires c.ended_by-ended.ensures c.if-ended-kept.true in
    let is = ap (λ (p : ℕ × ℕ). p.1) c.last.ensures in
    omega (arith, past, is)

pub contact_at-requires-clause-order : goal.contact_at-requires-clause-order
contact_at-requires-clause-order c =
    (kept-at 0 0 c.args.kept.now c.ended_by-ended.result (record { window = record { from = 0; to = 0 }; contact = 0 }) c.requires (omega (arith, c.if-ended-kept.false))).order

pub contact_at-requires-clause-contact : goal.contact_at-requires-clause-contact
contact_at-requires-clause-contact c =
    (kept-at 0 0 c.args.kept.now c.ended_by-ended.result (record { window = record { from = 0; to = 0 }; contact = 0 }) c.requires (omega (arith, c.if-ended-kept.false))).contact

pub returns : goal.returns
returns c =
    let at = elapsed-at 0 0 c.args.kept.now c.args.now c.ended_by-ended.result (record { window = record { from = 0; to = 0 }; contact = 0 })
    c.requires c.ended_by-ended.ensures (omega (arith, c.if-ended-kept.false)) in
    let is = c.contact_at.ensures in
    omega (arith, at, is)
