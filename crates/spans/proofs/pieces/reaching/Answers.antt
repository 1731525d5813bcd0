use Rattle.std.proofs.Common.{◌≡◌, ◌≤◌, List, [], ltb, length, take, drop, get_or, subst, rules}
use Rattle.std.proofs.lemmas.List.{get_or_read}
use Rattle.std.proofs.lemmas.List.Sorted.{IsPartitionPoint-from_clause}
use Rattle.spans.specs.declared.range.Run.{Run}
use Rattle.spans.specs.Runs.{EndBefore, FirstReaches, end_after}
use Rattle.spans.proofs.Joined.{IsPartitionedBy-ends, AreApart-at, Found, Found-in, Found-past}
use Rattle.spans.proofs.pieces.reaching.Goals as goal

chunk : (c : goal.After-index-chunks-chunk) → c.index-chunks-chunk.result ≡ get_or c.args.chunks.now c.partition_point-chunk.result []
chunk c = get_or_read c.args.chunks.now c.partition_point-chunk.result c.index-chunks-chunk.result c.if-chunk-chunks.true c.index-chunks-chunk.is []

pub reaching-at-requires : goal.reaching-at-requires
reaching-at-requires c =
    rw (chunk c) (AreApart-at 0 c.args.chunks.now c.partition_point-chunk.result c.requires.apart c.if-chunk-chunks.true)

found : (c : goal.After-reaching-at) → Found c.args.from c.args.chunks.now c.partition_point-chunk.result c.reaching-at.result
found c =
    let chunks = c.args.chunks.now in
    let at = c.partition_point-chunk.result in
    let k = get_or_read chunks at c.index-chunks-chunk.result c.if-chunk-chunks.true c.index-chunks-chunk.is [] in
    Found-in c.args.from chunks at c.reaching-at.result c.requires.apart c.requires.filled c.if-chunk-chunks.true
    (IsPartitionPoint-from_clause (λ k. ltb (end_after 0 k) c.args.from) chunks at c.partition_point-chunk.ensures.partitioned
    (IsPartitionedBy-ends c.args.from chunks c.requires.apart c.requires.filled) (search rules))
    (subst (λ (xs : List Run). c.reaching-at.result ≤ length xs) k c.reaching-at.ensures.within)
    (subst (λ (xs : List Run). EndBefore c.args.from (take c.reaching-at.result xs)) k c.reaching-at.ensures.before)
    (subst (λ (xs : List Run). FirstReaches c.args.from (drop c.reaching-at.result xs)) k c.reaching-at.ensures.reached)

pub returns-then-chunk-chunks-clause-at : goal.returns-then-chunk-chunks-clause-at
returns-then-chunk-chunks-clause-at c = (found c).at

pub returns-then-chunk-chunks-clause-before : goal.returns-then-chunk-chunks-clause-before
returns-then-chunk-chunks-clause-before c = (found c).before

pub returns-then-chunk-chunks-clause-reached : goal.returns-then-chunk-chunks-clause-reached
returns-then-chunk-chunks-clause-reached c = (found c).reached

past : (c : goal.Else-chunk-chunks) → Found c.args.from c.args.chunks.now c.partition_point-chunk.result 0
past c =
    let chunks = c.args.chunks.now in
    let at = c.partition_point-chunk.result in
    Found-past c.args.from chunks at c.requires.apart c.if-chunk-chunks.false c.partition_point-chunk.ensures.bound
    (IsPartitionPoint-from_clause (λ k. ltb (end_after 0 k) c.args.from) chunks at c.partition_point-chunk.ensures.partitioned
    (IsPartitionedBy-ends c.args.from chunks c.requires.apart c.requires.filled) (search rules))

pub returns-else-chunk-chunks-clause-before : goal.returns-else-chunk-chunks-clause-before
returns-else-chunk-chunks-clause-before c = (past c).before

pub returns-else-chunk-chunks-clause-reached : goal.returns-else-chunk-chunks-clause-reached
returns-else-chunk-chunks-clause-reached c = (past c).reached
