use Rattle.std.proofs.Common.{◌<◌, List, [], length, arith, ap, subst, sym}
use Rattle.std.proofs.lemmas.List.{get_or_read, length-set}
use Rattle.spans.specs.declared.range.Run.{Run}
use Rattle.spans.proofs.Joined.{AreFilled-set}
use Rattle.spans.proofs.Widening.{joined-replaced}
use Rattle.spans.proofs.merge.set.Goals as goal

at : (c : goal.After-chunks-1) → c.args.place.at < length c.index_mut.result.now
at c =
    let k = get_or_read c.args.chunks.now.items c.args.place.chunk c.index_mut.result.now c.requires.within c.index_mut.ensures.value [] in
    subst (λ (xs : List Run). c.args.place.at < length xs) (sym k) c.requires.at

pub returns-clause-filled : goal.returns-clause-filled
returns-clause-filled c =
    AreFilled-set c.args.chunks.now.items c.args.place.chunk c.set.new.self c.requires.filled
    (omega (arith, at c, ap (λ (xs : List Run). length xs) c.set.ensures, length-set c.index_mut.result.now c.args.place.at c.args.run))

pub returns-clause-runs : goal.returns-clause-runs
returns-clause-runs c =
    joined-replaced c.args.chunks.now.items c.args.place.chunk c.args.place.at c.index_mut.result.now c.set.new.self c.args.run
    c.requires.within c.index_mut.ensures.value (at c) c.set.ensures
