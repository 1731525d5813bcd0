use Rattle.std.proofs.Common.{sym, ◌∙◌}
use Rattle.contact_plan.proofs.KeptLemmas.{index-at, index-past, then-from, then-none}
use Rattle.contact_plan.proofs.kept.at.Goals as goal
use Rattle.contact_plan.proofs.kept.at.Goals.{else-ended-kept-via-then-ended-kept+else-kept-ended, else-ended-kept-via-else-ended-kept}

pub returns-then-kept-ended : goal.returns-then-kept-ended
returns-then-kept-ended c =
    sym (index-at 0 0 0 c.args.kept.now c.args.now c.ended_by-ended.result (record { window = record { from = 0; to = 0 }; contact = 0 })
    c.requires c.ended_by-ended.ensures c.if-ended-kept.true
    ∙ then-from c.args.now c.args.kept.now c.ended_by-ended.result (record { window = record { from = 0; to = 0 }; contact = 0 }) c.if-kept-ended.true)

pub returns-else-ended-kept : goal.returns-else-ended-kept
returns-else-ended-kept c = elim c.else-ended-kept.branch [
  | else-ended-kept-via-then-ended-kept+else-kept-ended w ↦ sym (index-at 0 0 0 c.args.kept.now c.args.now c.ended_by-ended.result (record { window = record { from = 0; to = 0 }; contact = 0 })
      c.requires c.ended_by-ended.ensures w.if-ended-kept.true
      ∙ then-none c.args.now c.args.kept.now c.ended_by-ended.result (record { window = record { from = 0; to = 0 }; contact = 0 }) w.if-kept-ended.false)
  | else-ended-kept-via-else-ended-kept w ↦ sym (index-past 0 c.args.kept.now c.args.now c.ended_by-ended.result c.ended_by-ended.ensures w.if-ended-kept.false)
]
