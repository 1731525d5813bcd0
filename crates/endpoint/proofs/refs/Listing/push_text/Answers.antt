-- A text more, with its place, or a text that no place has.
use Rattle.std.proofs.Common.{◌∙◌, ◌++◌, ◌∷◌, [], ap}
use Rattle.endpoint.specs.declared.name.Endpoint.TheVariants.{Dtn}
use Rattle.endpoint.proofs.PlacesLemmas.{push-text, push-none, on_err}
use Rattle.endpoint.proofs.refs.Listing.push_text.Goals as goal

pub returns-in_err-push-clause-err : goal.returns-in_err-push-clause-err
returns-in_err-push-clause-err c =
    on_err c.from_residual-in_err-push.result
    (push-none c.self.inside.texts.items c.args.ssp.now c.extend_from_slice.new.self.items c.self.inside.places
    c.push.new.self c.self.invariant c.in_ok-extend_from_slice.ensures.items c.in_err-push.ensures.err
    ∙ c.self.view_is)

pub returns-clause-ok : goal.returns-clause-ok
returns-clause-ok c =
    push-text c.self.inside.texts.items c.args.ssp.now c.extend_from_slice.new.self.items c.self.inside.places
    c.push.new.self c.self.invariant c.in_ok-extend_from_slice.ensures.items
    (rw c.as_slice.ensures.value at c.in_ok-push.ensures.ok)
    ∙ ap (λ front. front ++ Dtn c.args.ssp.now ∷ []) c.self.view_is
