use Rattle.std.proofs.Common.{◌≤◌, [], ◌∷◌, ◌++◌, length, arith, ap, sym, ◌∙◌}
use Rattle.std.proofs.lemmas.Result.{on_ok_weaker}
use Rattle.spans.specs.Chunks.{before, from_there}
use Rattle.spans.proofs.Joined.{before-past, from_there-past}
use Rattle.spans.proofs.pieces.add.Goals as goal

pub returns-then-place-len-clause-ok : goal.returns-then-place-len-clause-ok
returns-then-place-len-clause-ok c =
    let chunks = c.args.chunks.now.items in
    let past : length chunks ≤ c.args.place.chunk = omega arith in
    on_ok_weaker c.append.result
    (λ h. h ∙ (ap (λ xs. xs ++ c.args.run ∷ []) (sym (before-past chunks c.args.place.chunk c.args.place.at past))
    ∙ ap (λ xs. before chunks c.args.place.chunk c.args.place.at ++ c.args.run ∷ xs) (sym (from_there-past chunks c.args.place.chunk c.args.place.at past))))
    c.append.ensures.ok

pub returns-clause-ok : goal.returns-clause-ok
returns-clause-ok c =
    c.in_ok-insert.ensures.ok
    ∙ (ap (λ xs. xs ++ c.args.run ∷ from_there c.make_room.new.chunks.items c.in_ok-place.place.chunk c.in_ok-place.place.at) c.in_ok-place.ensures.before
    ∙ ap (λ xs. before c.args.chunks.now.items c.args.place.chunk c.args.place.at ++ c.args.run ∷ xs) c.in_ok-place.ensures.rest)
