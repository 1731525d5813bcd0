use Rattle.std.proofs.Common.{◌+◌, ◌<◌, List, [], length, arith, subst, sym, ◌∙◌}
use Rattle.std.proofs.lemmas.List.{get_or_read}
use Rattle.spans.specs.declared.range.Run.{Run}
use Rattle.spans.specs.Runs.{last_begin}
use Rattle.spans.proofs.Absorbing.{left-front, grown-front, apart-front, some-front}
use Rattle.spans.proofs.Grows.{left_after-some}
use Rattle.spans.proofs.Joined.{AreFilled-set}
use Rattle.spans.proofs.merge.absorb_front.Goals as goal

pub absorb-requires-clause-apart : goal.absorb-requires-clause-apart
absorb-requires-clause-apart c =
    apart-front (c.args.growth.end + 1) c.args.chunks.now.items c.args.chunk c.index_mut.result.now (omega arith) c.index_mut.ensures.value c.requires.apart

pub returns-then-chunk-len-clause-filled : goal.returns-then-chunk-len-clause-filled
returns-then-chunk-len-clause-filled c =
    let k = c.index_mut.result.now in
    let below : c.args.chunk < length c.args.chunks.now.items = omega arith in
    let read = c.index_mut.ensures.value in
    let is = get_or_read c.args.chunks.now.items c.args.chunk k below read [] in
    let last = subst (λ (xs : List Run). c.args.to < last_begin 0 xs) (sym is) (c.requires.part below) in
    let apart = apart-front (c.args.growth.end + 1) c.args.chunks.now.items c.args.chunk k below read c.requires.apart in
    let some = left_after-some c.args.to 0 (c.args.growth.end + 1) k (some-front c.args.chunks.now.items c.args.chunk k below read c.requires.filled) apart last in
    AreFilled-set c.args.chunks.now.items c.args.chunk c.absorb.new.self c.requires.filled
    (subst (λ (xs : List Run). 0 < length xs) (sym c.absorb.ensures.left) some)

pub returns-then-chunk-len-clause-left : goal.returns-then-chunk-len-clause-left
returns-then-chunk-len-clause-left c =
    let k = c.index_mut.result.now in
    let below : c.args.chunk < length c.args.chunks.now.items = omega arith in
    let read = c.index_mut.ensures.value in
    let is = get_or_read c.args.chunks.now.items c.args.chunk k below read [] in
    let last = subst (λ (xs : List Run). c.args.to < last_begin 0 xs) (sym is) (c.requires.part below) in
    left-front c.args.to c.args.growth c.args.chunks.now.items c.args.chunk k c.absorb.new.self below read
    (some-front c.args.chunks.now.items c.args.chunk k below read c.requires.filled) c.requires.apart last c.absorb.ensures.left

pub returns-then-chunk-len-clause-grown : goal.returns-then-chunk-len-clause-grown
returns-then-chunk-len-clause-grown c =
    let k = c.index_mut.result.now in
    let below : c.args.chunk < length c.args.chunks.now.items = omega arith in
    let read = c.index_mut.ensures.value in
    let is = get_or_read c.args.chunks.now.items c.args.chunk k below read [] in
    let last = subst (λ (xs : List Run). c.args.to < last_begin 0 xs) (sym is) (c.requires.part below) in
    c.absorb.ensures.grown
    ∙ grown-front c.args.to c.args.growth c.args.chunks.now.items c.args.chunk k below read
    (some-front c.args.chunks.now.items c.args.chunk k below read c.requires.filled) c.requires.apart last
