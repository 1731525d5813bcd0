use Rattle.std.proofs.Common.{nat_le, rules}
use Rattle.std.proofs.lemmas.List.Sorted.{IsPartitionPoint-from_clause}
use Rattle.contact_plan.proofs.KeptLemmas.{parts-at, tos-part}
use Rattle.contact_plan.proofs.kept.ended_by.Goals as goal

pub returns : goal.returns
returns c =
    parts-at (λ k. (k.window).to) c.args.now c.args.kept.now c.partition_point.result c.partition_point.ensures.bound
    (IsPartitionPoint-from_clause (λ k. nat_le (k.window).to c.args.now) c.args.kept.now c.partition_point.result c.partition_point.ensures.partitioned
    (tos-part c.args.now c.args.kept.now c.requires) (search rules))
