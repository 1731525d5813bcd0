-- A place more among the others, with its number, or a place that no number says.
use Rattle.std.proofs.Common.{◌∙◌, ◌++◌, ◌∷◌, [], ap}
use Rattle.endpoint.proofs.PlacesLemmas.{on_err}
use Rattle.endpoint.proofs.PlaceWordsLemmas.{push-other, push-none}
use Rattle.endpoint.proofs.place_list.PlaceList.push_other.Goals as goal

pub returns-in_err-push-2-clause-err : goal.returns-in_err-push-2-clause-err
returns-in_err-push-2-clause-err c =
    on_err c.from_residual-in_err-push-2.result
    (push-none c.self.inside.others.items c.push.new.self.items (c.args.place ∷ []) c.self.inside.words.items
    c.push-2.new.self.items c.self.invariant (rw c.reserve.ensures.items at c.in_ok-push.ensures.items) c.in_err-push-2.ensures.items
    ∙ c.self.view_is)

pub returns-clause-ok : goal.returns-clause-ok
returns-clause-ok c =
    push-other c.self.inside.others.items c.push.new.self.items c.self.inside.words.items c.push-2.new.self.items
    c.args.place c.in_ok-word.word c.self.invariant
    (rw (c.as_slice.ensures.value, c.reserve.ensures.items) at c.in_ok-word.ensures)
    (rw c.reserve.ensures.items at c.in_ok-push.ensures.items) c.in_ok-push-2.ensures.items
    ∙ ap (λ front. front ++ c.args.place ∷ []) c.self.view_is
