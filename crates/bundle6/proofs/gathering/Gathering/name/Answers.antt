use Rattle.endpoint.specs.Endpoints.{scheme_of}
use Rattle.endpoint.specs.Lent.{endpoint_of}
use Rattle.bundle6.specs.Spelling.{with_text}
use Rattle.bundle6.proofs.PlacesLemmas.{named-placed}
use Rattle.bundle6.proofs.gathering.Gathering.name.Goals as goal

pub returns : goal.returns
returns c = λ texts shows.
    let endpoint = endpoint_of c.args.endpoint.now in
    let first = rw c.scheme.ensures at (c.in_ok-scheme.ensures texts shows) in
    named-placed c.place.new.self c.part.new.self texts endpoint c.in_ok-scheme.scheme c.in_ok-ssp.ssp first
    (c.in_ok-ssp.ensures (with_text texts (scheme_of endpoint)) first.shows)
