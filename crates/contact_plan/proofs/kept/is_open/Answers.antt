use Rattle.std.proofs.Common.{◌≡◌, false, nat_lt, length, sym, ◌∙◌, arith}
use Rattle.std.proofs.lemmas.Bool.Decides.{nat_tests}
use Rattle.contact_plan.proofs.KeptLemmas.{open-at, open-past}
use Rattle.contact_plan.proofs.kept.is_open.Goals as goal

pub returns-then-ended-kept : goal.returns-then-ended-kept
returns-then-ended-kept c =
    sym (open-at 0 0 c.args.kept.now c.args.now c.ended_by-ended.result (record { window = record { from = 0; to = 0 }; contact = 0 })
    c.requires c.ended_by-ended.ensures c.if-ended-kept.true)

pub returns-else-ended-kept : goal.returns-else-ended-kept
returns-else-ended-kept c =
    let out : nat_lt c.ended_by-ended.result (length c.args.kept.now) ≡ false = grind (arith, nat_tests) in
    out ∙ sym (open-past c.args.kept.now c.args.now c.ended_by-ended.result c.ended_by-ended.ensures (omega (arith, c.if-ended-kept.false)))
