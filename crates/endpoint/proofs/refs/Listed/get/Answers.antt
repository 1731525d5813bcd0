use Rattle.std.proofs.Common.{◌∙◌, ap, get_or}
use Rattle.endpoint.specs.declared.name.Endpoint.TheVariants.{Null}
use Rattle.endpoint.specs.Places.{endpoint_at}
use Rattle.endpoint.proofs.PlaceWordsLemmas.{none-past}
use Rattle.endpoint.proofs.refs.Listed.get.Goals as goal

pub returns-in-None : goal.returns-in-None
returns-in-None c =
    none-past (endpoint_at c.self.inside.texts) c.self.inside.places c.args.at Null c.in-None.ensures
    ∙ ap (λ names. get_or names c.args.at Null) c.self.view_is
