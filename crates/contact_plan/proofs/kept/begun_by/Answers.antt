use Rattle.std.proofs.Common.{nat_le, rules}
use Rattle.std.proofs.lemmas.List.Sorted.{IsPartitionPoint-from_clause}
use Rattle.contact_plan.proofs.KeptLemmas.{parts-at, froms-part}
use Rattle.contact_plan.proofs.kept.begun_by.Goals as goal

pub returns : goal.returns
returns c =
    parts-at (λ k. (k.window).from) c.args.now c.args.kept.now c.partition_point.result c.partition_point.ensures.bound
    (IsPartitionPoint-from_clause (λ k. nat_le (k.window).from c.args.now) c.args.kept.now c.partition_point.result c.partition_point.ensures.partitioned
    (froms-part c.args.now c.args.kept.now c.requires) (search rules))
