use Rattle.std.proofs.Common.{◌≡◌, ◌<◌, ◌≤◌, ◌/◌, List, [], length, get_or, arith, subst, sym, refl, inr, Result, Ok, Err, OnErr}
use Rattle.std.proofs.lemmas.List.{get_or_read}
use Rattle.spans.specs.declared.range.Run.{Run}
use Rattle.spans.specs.Chunks.{AreFilled}
use Rattle.spans.proofs.Split.{StandsAt, StandsAt-moved, joined-stands, AreFilled-split_at, length-moved, length-chunk}
use Rattle.spans.proofs.pieces.make_room.Goals as goal

-- how long the chunk is
long : (c : goal.After-moved) → 1 < length (get_or c.args.chunks.now.items c.args.place.chunk [])
long c =
    let k = get_or_read c.args.chunks.now.items c.args.place.chunk c.index.result.now c.requires.within c.index.ensures [] in
    let full = c.if-not-is_full.ensures.0 refl in
    subst (λ (xs : List Run). 1 < length xs) k (omega (arith, full))

half : (c : goal.After-moved) → c.len-keep.result ≡ length (get_or c.args.chunks.now.items c.args.place.chunk [])
half c =
    let k = get_or_read c.args.chunks.now.items c.args.place.chunk c.index-2.result.now c.requires.within c.index-2.ensures [] in
    subst (λ (xs : List Run). c.len-keep.result ≡ length xs) k c.len-keep.ensures.len

pub returns-clause-filled : goal.returns-clause-filled
returns-clause-filled c =
    subst (λ (xs : List (List Run)). AreFilled xs) (sym c.in_ok-split.ensures.ok)
    (AreFilled-split_at c.args.chunks.now.items c.args.place.chunk (c.len-keep.result / 2) c.requires.filled (omega (arith, long c, half c)) (omega (arith, long c, half c)))

stands : (c : goal.After-moved) → StandsAt c.args.chunks.now.items c.args.place.chunk c.args.place.at c.split.new.chunks.items c.moved.result.chunk c.moved.result.at
stands c =
    StandsAt-moved c.args.chunks.now.items c.split.new.chunks.items c.args.place c.moved.result (c.len-keep.result / 2)
    c.requires.within c.requires.at (omega (arith, half c)) c.in_ok-split.ensures.ok c.moved.ensures.below c.moved.ensures.above

pub returns-clause-within : goal.returns-clause-within
returns-clause-within c = (stands c).within

pub returns-clause-at : goal.returns-clause-at
returns-clause-at c = (stands c).at

pub returns-clause-before : goal.returns-clause-before
returns-clause-before c = (stands c).before

pub returns-clause-rest : goal.returns-clause-rest
returns-clause-rest c = (stands c).rest

pub returns-clause-runs : goal.returns-clause-runs
returns-clause-runs c =
    joined-stands c.args.chunks.now.items c.args.place.chunk c.args.place.at c.split.new.chunks.items c.moved.result.chunk c.moved.result.at (stands c)

pub returns-clause-room : goal.returns-clause-room
returns-clause-room c =
    length-moved 128 c.args.chunks.now.items c.split.new.chunks.items c.args.place c.moved.result (c.len-keep.result / 2)
    c.requires.within (omega (arith, half c)) (omega (arith, c.len-keep.ensures.most)) (omega (arith, half c, c.len-keep.ensures.most)) c.in_ok-split.ensures.ok
    c.moved.ensures.below c.moved.ensures.above

always : {T E P : Type 0} (r : Result T E) → P → OnErr r P
always (Ok x) p = tt
always (Err e) p = p

pub returns-in_err-split-clause-wants : goal.returns-in_err-split-clause-wants
returns-in_err-split-clause-wants c =
    let chunks = c.args.chunks.now.items in
    let k = get_or_read chunks c.args.place.chunk c.index.result.now c.requires.within c.index.ensures [] in
    let full = subst (λ (xs : List Run). 128 ≤ length xs) k (c.if-not-is_full.ensures.0 refl) in
    always c.from_residual.result (inr (omega (arith, full, length-chunk chunks c.args.place.chunk c.requires.within)))
