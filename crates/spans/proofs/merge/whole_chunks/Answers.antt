use Rattle.std.proofs.Common.{◌≡◌, ◌+◌, ◌<◌, ◌≤◌, List, [], length, arith, subst, sym, ◌∙◌}
use Rattle.std.proofs.lemmas.List.{get_or_read}
use Rattle.spans.specs.declared.range.Run.{Run}
use Rattle.spans.specs.Runs.{last_begin}
use Rattle.spans.proofs.Absorbing.{MeetsWhole-more, apart-front}
use Rattle.spans.proofs.merge.whole_chunks.Goals as goal

pub swallowed-growth-requires-clause-apart : goal.swallowed-growth-requires-clause-apart
swallowed-growth-requires-clause-apart c =
    apart-front (c.loop-whole.growth.end + 1) c.args.chunks.now c.loop-whole.whole c.index-chunks-whole-in-loop-whole.result (omega arith) c.index-chunks-whole-in-loop-whole.is c.loop-whole.invariant.apart

pub loop-whole-preserved : goal.loop-whole-preserved
loop-whole-preserved c =
    let chunks = c.args.chunks.now in
    let whole = c.loop-whole.whole in
    let k = c.index-chunks-whole-in-loop-whole.result in
    let below : whole < length chunks = omega arith in
    let same : c.index-chunks-whole.result ≡ k =
    get_or_read chunks whole c.index-chunks-whole.result below c.index-chunks-whole.is [] ∙ sym (get_or_read chunks whole k below c.index-chunks-whole-in-loop-whole.is []) in
    let last : last_begin 0 c.index-chunks-whole.result ≤ c.args.to = omega arith in
    MeetsWhole-more c.args.to c.args.growth c.loop-whole.growth c.swallowed-growth.result chunks c.args.from whole k
    c.loop-whole.invariant below c.index-chunks-whole-in-loop-whole.is
    (subst (λ (xs : List Run). last_begin 0 xs ≤ c.args.to) same last) c.swallowed-growth.ensures.grown c.swallowed-growth.ensures.bound
