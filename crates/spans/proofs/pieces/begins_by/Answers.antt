use Rattle.std.proofs.Common.{◌<◌, List, [], length, sym, subst}
use Rattle.std.proofs.lemmas.List.{get_or_read}
use Rattle.spans.specs.declared.range.Run.{Run}
use Rattle.spans.proofs.Split.{BeginsBy-read, BeginsBy-past}
use Rattle.spans.proofs.pieces.begins_by.Goals as goal

within : (c : goal.After-struct_known-then-place-chunks-1) → c.args.place.at < length c.index-chunks-place.result
within c =
    let k = get_or_read c.args.chunks.now c.args.place.chunk c.index-chunks-place.result c.if-place-chunks.true c.index-chunks-place.is [] in
    subst (λ (xs : List Run). c.args.place.at < length xs) (sym k) (c.requires.at c.if-place-chunks.true)

pub returns-then-place-chunks : goal.returns-then-place-chunks
returns-then-place-chunks c =
    BeginsBy-read c.args.chunks.now c.args.place.chunk c.args.place.at c.args.to c.index-chunks-place.result c.run.result
    c.if-place-chunks.true c.index-chunks-place.is (within c) c.run.ensures.run

pub returns-else-place-chunks : goal.returns-else-place-chunks
returns-else-place-chunks c = BeginsBy-past c.args.chunks.now c.args.place.chunk c.args.place.at c.args.to c.if-place-chunks.false
