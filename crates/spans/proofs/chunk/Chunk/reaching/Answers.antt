use Rattle.std.proofs.Common.{List, ltb, take, drop, sym, subst, ◌∙◌, rules}
use Rattle.std.proofs.lemmas.List.Sorted.{IsPartitionPoint-from_clause}
use Rattle.spans.specs.declared.range.Run.{Run}
use Rattle.spans.specs.Runs.{AreApart, EndBefore, FirstReaches}
use Rattle.spans.proofs.Apart.{IsPartitionedBy-apart, EndBefore-partition, FirstReaches-partition}
use Rattle.spans.proofs.chunk.Chunk.reaching.Goals as goal

pub returns-clause-before : goal.returns-clause-before
returns-clause-before c =
    let runs = c.deref.result.now in
    let same = c.deref.ensures.value ∙ c.self.view_is in
    let apart = subst (λ (xs : List Run). AreApart 0 xs) (sym same) c.requires in
    subst (λ (xs : List Run). EndBefore c.args.place (take c.partition_point.result xs)) same
    (EndBefore-partition c.args.place runs c.partition_point.result c.partition_point.ensures.bound
    (IsPartitionPoint-from_clause (λ r. ltb r.to c.args.place) runs c.partition_point.result c.partition_point.ensures.partitioned
    (IsPartitionedBy-apart c.args.place runs apart) (search rules)))

pub returns-clause-reached : goal.returns-clause-reached
returns-clause-reached c =
    let runs = c.deref.result.now in
    let same = c.deref.ensures.value ∙ c.self.view_is in
    let apart = subst (λ (xs : List Run). AreApart 0 xs) (sym same) c.requires in
    subst (λ (xs : List Run). FirstReaches c.args.place (drop c.partition_point.result xs)) same
    (FirstReaches-partition c.args.place runs c.partition_point.result
    (IsPartitionPoint-from_clause (λ r. ltb r.to c.args.place) runs c.partition_point.result c.partition_point.ensures.partitioned
    (IsPartitionedBy-apart c.args.place runs apart) (search rules)))
