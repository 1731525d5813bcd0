use Rattle.std.proofs.Common.{sym}
use Rattle.contact_plan.proofs.KeptLemmas.{next-at, next-past}
use Rattle.contact_plan.proofs.kept.next.Goals as goal

pub returns-then-begun-kept : goal.returns-then-begun-kept
returns-then-begun-kept c =
    sym (next-at c.args.kept.now c.args.now c.begun_by-begun.result (record { window = record { from = 0; to = 0 }; contact = 0 }) c.begun_by-begun.ensures c.if-begun-kept.true)

pub returns-else-begun-kept : goal.returns-else-begun-kept
returns-else-begun-kept c = sym (next-past c.args.kept.now c.args.now c.begun_by-begun.result c.begun_by-begun.ensures c.if-begun-kept.false)
