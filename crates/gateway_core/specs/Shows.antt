-- A gateway of the code stands for a gate of the definition, where its engines stand for the gate's.

use Rattle.std.specs.Prelude.{◌≡◌, ◌≤◌, ◌^◌}
use Rattle.ltp_engine.specs.Shows.{Shows}
use Rattle.ltp_engine.specs.Bounds.{IsBounded}
use Rattle.gateway_core.specs.Gate.{Gate}
use Rattle.gateway_core.specs.Values.{GatewayValue}

pub record ShowsGate (v : GatewayValue) (g : Gate) : Type 0 where
  pub old_face : Shows v.engines.0 g.engines.0
  pub new_face : Shows v.engines.1 g.engines.1
  pub counter : g.counter ≡ v.counter

-- what a gateway keeps at the most: what its engines do, and a counter of reports up to 2^32
pub record IsGateBounded (v : GatewayValue) : Type 0 where
  pub old_face : IsBounded v.engines.0
  pub new_face : IsBounded v.engines.1
  pub counter : v.counter ≤ 2 ^ 32
