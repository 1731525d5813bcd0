-- Names by their places in texts that several lists share.

use Rattle.std.specs.Prelude.{ℕ, ◌+◌, ◌≤◌, List, take, drop, length, map, unwrap_or}
use Rattle.endpoint.specs.declared.name.Endpoint.{Endpoint}
use Rattle.endpoint.specs.declared.name.Endpoint.TheVariants.{Null, Ipn, Dtn}
use Rattle.endpoint.specs.Reading.{ipn_named}
use Rattle.endpoint.specs.declared.place.Place.{Place}
use Rattle.endpoint.specs.declared.place.Place.TheVariants as places

-- the endpoint at a place: the text of a dtn name, or of two numbers, begins there in the texts
abbrev pub endpoint_at : List ℕ → Place → Endpoint
endpoint_at texts places.Null = Null
endpoint_at texts (places.Ipn node service) = Ipn node service
endpoint_at texts (places.Written from size) = unwrap_or (ipn_named (take size (drop from texts))) Null
endpoint_at texts (places.Dtn from size) = Dtn (take size (drop from texts))

-- the endpoints at some places
abbrev pub endpoints_at : List ℕ → List Place → List Endpoint
endpoints_at texts at = map (endpoint_at texts) at

-- the place is one in the texts, and stays what it is however the texts go on
abbrev pub IsIn : List ℕ → Place → Type 0
IsIn texts places.Null = Unit {0}
IsIn texts (places.Ipn node service) = Unit {0}
IsIn texts (places.Written from size) = from + size ≤ length texts
IsIn texts (places.Dtn from size) = from + size ≤ length texts

-- the place needs no text
abbrev pub IsFixed : Place → Type 0
IsFixed places.Null = Unit {0}
IsFixed (places.Ipn node service) = Unit {0}
IsFixed (places.Written from size) = ⊥
IsFixed (places.Dtn from size) = ⊥
