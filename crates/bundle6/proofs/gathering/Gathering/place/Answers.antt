-- A text that is found stays where it is; another is put at the end.
use Rattle.std.proofs.Common.{◌∙◌, ◌++◌, ◌∷◌, [], ap, append_assoc, length}
use Rattle.bundle6.proofs.PlacesLemmas.{found_at, shows-there, shows-put}
use Rattle.bundle6.proofs.gathering.Gathering.place.Goals as goal

pub returns-in-Some : goal.returns-in-Some
unfolding found_at
returns-in-Some c = λ texts shows.
    shows-there c.args.self.now texts c.args.text.now c.in-Some.at.now shows c.in-Some.ensures.value

pub returns : goal.returns
unfolding found_at
returns c = λ texts shows.
    shows-put c.args.self.now _ texts c.args.text.now c.in_ok-from_slice.field-0 _ shows
    c.in_default.ensures.value c.in_ok-from_slice.ensures.items (ap length c.as_slice.ensures.value)
    c.in_ok-insert.ensures.entries
    (c.in_ok-push.ensures.items ∙ ap (λ front. front ++ 0 ∷ []) c.in_ok-extend_from_slice.ensures.items
    ∙ append_assoc c.args.self.now.dictionary.items c.args.text.now (0 ∷ []))
