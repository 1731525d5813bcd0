-- What ties the code to the definition.
use Rattle.std.specs.Prelude.{◌≡◌, Bool, false}
use Rattle.gateway_core.specs.Values.{GatewayValue, setup_of}
use Rattle.gateway_core.specs.Shows.{ShowsGate}
use Rattle.serve_run.specs.Serve.{Serving}

-- a gateway of the code stands for this, where memory hasn't run out
pub record ShowsServing (spent : Bool) (gateway : GatewayValue) (serving : Serving) : Type 0 where
  pub whole : spent ≡ false
  pub setup : serving.setup ≡ setup_of gateway
  pub gate : ShowsGate gateway serving.gate
