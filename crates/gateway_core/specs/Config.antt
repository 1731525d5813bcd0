-- How a gateway may be set up.

use Rattle.std.specs.Prelude.{◌≢◌, ℕ, ◌≤◌}
use Rattle.endpoint.specs.Endpoints.{IsEndpoint}
use Rattle.endpoint.specs.declared.name.Endpoint.{Endpoint}
use Rattle.endpoint.specs.declared.name.Endpoint.TheVariants.{Null}

-- its name is a legal one and not nobody's; a payload is cut to 1 to 4,000,000 octets
pub record IsGateConfig (gate : Endpoint) (cut : ℕ) : Type 0 where
  pub named : gate ≢ Null
  pub legal : IsEndpoint gate
  pub cut_least : 1 ≤ cut
  pub cut_most : cut ≤ 4000000
