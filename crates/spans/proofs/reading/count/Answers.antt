use Rattle.std.proofs.Common.{◌≡◌, ◌+◌, ◌<◌, ◌^◌, List, [], ltb, arith, rules, ap, ◌∙◌}
use Rattle.std.proofs.lemmas.List.{get_or_read, get_or_past}
use Rattle.std.proofs.lemmas.List.Sorted.{IsPartitionPoint-from_clause}
use Rattle.std.proofs.lemmas.List.Sums.{count_by-le-length}
use Rattle.std.specs.List.{count_by}
use Rattle.spans.specs.declared.range.Run.{Run}
use Rattle.spans.specs.Chunks.{joined}
use Rattle.spans.specs.Runs.{last_begin}
use Rattle.spans.proofs.Counting.{IsPartitionedBy-last_begins, count-chunks, length-joined-take}
use Rattle.spans.proofs.Joined.{AreApart-at}
use Rattle.spans.proofs.reading.count.Goals as goal

pub total-before-requires : goal.total-before-requires
total-before-requires c = omega (arith, length-joined-take c.args.chunks.now c.partition_point-whole.result)

pub beginning_before-requires : goal.beginning_before-requires
beginning_before-requires c =
    let chunks = c.args.chunks.now in
    let at = c.partition_point-whole.result in
    let k = get_or_read chunks at c.index-chunks-whole.result c.if-whole-chunks.true c.index-chunks-whole.is [] in
    rw k (AreApart-at 0 chunks at c.requires.apart c.if-whole-chunks.true)

counted : (c : goal.After-beginning_before) → c.total-before.result + c.beginning_before.result ≡ count_by (λ r. ltb r.from c.args.to) (joined c.args.chunks.now)
counted c =
    let chunks = c.args.chunks.now in
    let at = c.partition_point-whole.result in
    let k = get_or_read chunks at c.index-chunks-whole.result c.if-whole-chunks.true c.index-chunks-whole.is [] in
    let all = count-chunks c.args.to chunks at c.requires.apart c.requires.filled
    (IsPartitionPoint-from_clause (λ k. ltb (last_begin 0 k) c.args.to) chunks at c.partition_point-whole.ensures.partitioned
    (IsPartitionedBy-last_begins c.args.to chunks c.requires.apart c.requires.filled) (search rules)) in
    let here = c.beginning_before.ensures.count ∙ ap (λ (xs : List Run). count_by (λ r. ltb r.from c.args.to) xs) k in
    omega (arith, all, here, c.total-before.ensures)

pub overflow_add-result : goal.overflow_add-result
overflow_add-result c =
    let most = count_by-le-length (λ (r : Run). ltb r.from c.args.to) (joined c.args.chunks.now) in
    let small : c.total-before.result + c.beginning_before.result < 2 ^ 64 = omega (arith, most, counted c) in
    search rules

pub returns-then-whole-chunks : goal.returns-then-whole-chunks
returns-then-whole-chunks c = counted c

pub returns-else-whole-chunks : goal.returns-else-whole-chunks
returns-else-whole-chunks c =
    let chunks = c.args.chunks.now in
    let at = c.partition_point-whole.result in
    let none = ap (λ (xs : List Run). count_by (λ r. ltb r.from c.args.to) xs) (get_or_past chunks at [] c.if-whole-chunks.false) in
    let all = count-chunks c.args.to chunks at c.requires.apart c.requires.filled
    (IsPartitionPoint-from_clause (λ k. ltb (last_begin 0 k) c.args.to) chunks at c.partition_point-whole.ensures.partitioned
    (IsPartitionedBy-last_begins c.args.to chunks c.requires.apart c.requires.filled) (search rules)) in
    omega (arith, all, none, c.total-before.ensures)
