use Rattle.std.proofs.Common.{◌≡◌, ◌+◌, List, [], ◌∷◌, ◌++◌, length, get_or, arith, ap, subst, sym, ◌∙◌}
use Rattle.spans.specs.declared.range.Run.{Run}
use Rattle.spans.specs.Chunks.{AreFilled, joined, from_there}
use Rattle.spans.proofs.Joined.{AreFilled-append}
use Rattle.spans.proofs.Split.{before-last, from_there-last}
use Rattle.spans.proofs.pieces.append.Goals as goal

pub returns-in-Some-clause-ok : goal.returns-in-Some-clause-ok
returns-in-Some-clause-ok c =
    let chunks = c.args.chunks.now.items in
    let p = c.in-Some.place in
    let last = subst (λ (xs : List (List Run)). p.chunk + 1 ≡ length xs) c.deref.ensures.value c.in-Some.ensures.last in
    let at = subst (λ (xs : List (List Run)). p.at ≡ length (get_or xs p.chunk [])) c.deref.ensures.value c.in-Some.ensures.at in
    c.in_ok-insert.ensures.ok
    ∙ (ap (λ xs. xs ++ c.args.run ∷ from_there chunks p.chunk p.at) (before-last chunks p.chunk p.at last at)
    ∙ ap (λ xs. joined chunks ++ c.args.run ∷ xs) (from_there-last chunks p.chunk p.at last at))

pub returns-clause-filled : goal.returns-clause-filled
returns-clause-filled c =
    subst (λ (xs : List (List Run)). AreFilled xs) (sym c.in_ok-push.ensures.items)
    (AreFilled-append c.args.chunks.now.items (c.in_ok-chunk.chunk ∷ []) c.requires.filled
    (omega (arith, ap (λ (xs : List Run). length xs) c.in_ok-chunk.ensures), tt))
