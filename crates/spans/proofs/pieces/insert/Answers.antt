use Rattle.std.proofs.Common.{◌≤◌, List, [], set, length, arith, ap, ◌∙◌, subst, sym, inr, Result, Ok, Err, OnErr}
use Rattle.std.proofs.lemmas.List.{get_or_read}
use Rattle.std.proofs.lemmas.List.Edits.{length-insert}
use Rattle.spans.specs.declared.range.Run.{Run}
use Rattle.spans.specs.Chunks.{joined}
use Rattle.spans.proofs.Joined.{AreFilled-set}
use Rattle.spans.proofs.Split.{joined-insert, length-chunk}
use Rattle.spans.proofs.pieces.insert.Goals as goal

pub returns-clause-filled : goal.returns-clause-filled
returns-clause-filled c =
    let chunk = get_or_read c.args.chunks.now.items c.args.place.chunk c.index_mut.result.now c.requires.within c.index_mut.ensures.value [] in
    let at = subst (λ (k : List Run). c.args.place.at ≤ length k) (sym chunk) c.requires.at in
    let longer = length-insert c.index_mut.result.now c.args.place.at c.args.run at in
    AreFilled-set c.args.chunks.now.items c.args.place.chunk c.insert.new.self c.requires.filled
    (rw c.in_ok-insert.ensures.ok (omega (arith, longer)))

pub returns-clause-ok : goal.returns-clause-ok
returns-clause-ok c =
    let chunk = get_or_read c.args.chunks.now.items c.args.place.chunk c.index_mut.result.now c.requires.within c.index_mut.ensures.value [] in
    ap (λ (k : List Run). joined (set c.args.chunks.now.items c.args.place.chunk k)) c.in_ok-insert.ensures.ok
    ∙ joined-insert c.args.chunks.now.items c.args.place.chunk c.args.place.at c.args.run c.index_mut.result.now c.requires.within chunk

always : {T E P : Type 0} (r : Result T E) → P → OnErr r P
always (Ok x) p = tt
always (Err e) p = p

pub returns-in_err-insert-clause-wants : goal.returns-in_err-insert-clause-wants
returns-in_err-insert-clause-wants c =
    let chunk = get_or_read c.args.chunks.now.items c.args.place.chunk c.index_mut.result.now c.requires.within c.index_mut.ensures.value [] in
    let chunks = c.args.chunks.now.items in
    let few = subst (λ (xs : List Run). 16 ≤ length xs) chunk c.in_err-insert.ensures.wants in
    always c.from_residual.result (inr (omega (arith, few, length-chunk chunks c.args.place.chunk c.requires.within)))
