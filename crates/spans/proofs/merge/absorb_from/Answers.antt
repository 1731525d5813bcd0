use Rattle.std.proofs.Common.{◌+◌, ◌≤◌, List, [], length, subst, sym}
use Rattle.std.proofs.lemmas.List.{get_or_read}
use Rattle.spans.specs.declared.range.Run.{Run}
use Rattle.spans.proofs.Widening.{Absorbed, Absorbed-made, apart-here, apart-past, filled-made}
use Rattle.spans.proofs.merge.absorb_from.Goals as goal

pub absorb-growth-requires-clause-apart : goal.absorb-growth-requires-clause-apart
absorb-growth-requires-clause-apart c =
    apart-here (c.args.growth.end + 1) c.args.place.chunk c.args.place.at c.args.chunks.now.items c.index_mut.result.now c.requires.within c.index_mut.ensures.value c.requires.apart

within : (c : goal.After-struct_known-1) → c.args.place.at ≤ length c.index_mut.result.now
within c =
    let k = get_or_read c.args.chunks.now.items c.args.place.chunk c.index_mut.result.now c.requires.within c.index_mut.ensures.value [] in
    subst (λ (xs : List Run). c.args.place.at ≤ length xs) (sym k) c.requires.at

pub absorb-requires-clause-apart : goal.absorb-requires-clause-apart
absorb-requires-clause-apart c =
    apart-past c.args.to c.args.place.chunk c.args.place.at c.args.growth c.absorb-growth.result c.args.chunks.now.items c.index_mut.result.now c.absorb-growth.new.self
    c.requires.within c.index_mut.ensures.value c.requires.apart c.absorb-growth.ensures.grown

pub absorb-requires-clause-filled : goal.absorb-requires-clause-filled
absorb-requires-clause-filled c =
    filled-made c.args.to c.args.place.chunk c.args.place.at c.args.chunks.now.items c.index_mut.result.now c.absorb-growth.new.self
    c.requires.some (within c) c.absorb-growth.ensures.left c.requires.filled

absorbed : (c : goal.After-absorb) → Absorbed c.args.to c.args.growth c.absorb.result c.args.chunks.now.items c.absorb.new.chunks.items c.args.place.chunk c.args.place.at
absorbed c =
    let k = get_or_read c.args.chunks.now.items c.args.place.chunk c.index_mut.result.now c.requires.within c.index_mut.ensures.value [] in
    Absorbed-made c.args.to c.args.growth c.absorb-growth.result c.absorb.result c.args.chunks.now.items c.absorb.new.chunks.items c.args.place.chunk c.args.place.at c.index_mut.result.now c.absorb-growth.new.self
    c.requires.within c.index_mut.ensures.value (subst (λ (xs : List Run). c.args.place.at ≤ length xs) (sym k) c.requires.at) c.requires.apart
    c.absorb-growth.ensures.left c.absorb-growth.ensures.grown c.absorb.ensures.kept c.absorb.ensures.left c.absorb.ensures.grown

pub returns-clause-within : goal.returns-clause-within
returns-clause-within c = (absorbed c).within

pub returns-clause-at : goal.returns-clause-at
returns-clause-at c = (absorbed c).at

pub returns-clause-before : goal.returns-clause-before
returns-clause-before c = (absorbed c).before

pub returns-clause-left : goal.returns-clause-left
returns-clause-left c = (absorbed c).left

pub returns-clause-grown : goal.returns-clause-grown
returns-clause-grown c = (absorbed c).grown
