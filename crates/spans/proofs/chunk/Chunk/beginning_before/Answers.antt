use Rattle.std.proofs.Common.{◌≡◌, List, ltb, sym, subst, ◌∙◌, rules}
use Rattle.std.proofs.lemmas.List.Sorted.{IsPartitionPoint-from_clause}
use Rattle.std.specs.List.{count_by}
use Rattle.spans.specs.declared.range.Run.{Run}
use Rattle.spans.specs.Runs.{AreApart}
use Rattle.spans.proofs.Counting.{IsPartitionedBy-begins, below-partition}
use Rattle.spans.proofs.chunk.Chunk.beginning_before.Goals as goal

pub returns-clause-count : goal.returns-clause-count
returns-clause-count c =
    let runs = c.deref.result.now in
    let same = c.deref.ensures.value ∙ c.self.view_is in
    let apart = subst (λ (xs : List Run). AreApart 0 xs) (sym same) c.requires in
    subst (λ (xs : List Run). c.partition_point.result ≡ count_by (λ r. ltb r.from c.args.to) xs) same
    (below-partition c.args.to runs c.partition_point.result c.partition_point.ensures.bound
    (IsPartitionPoint-from_clause (λ r. ltb r.from c.args.to) runs c.partition_point.result c.partition_point.ensures.partitioned
    (IsPartitionedBy-begins c.args.to runs apart) (search rules)))
