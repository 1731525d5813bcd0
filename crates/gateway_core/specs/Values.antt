-- A gateway of the code as a value.

use Rattle.std.specs.Prelude.{ℕ, Bool, false, Option}
use Rattle.endpoint.specs.declared.name.Endpoint.{Endpoint}
use Rattle.ltp_segment.specs.Policy.{PolicyValue}
use Rattle.ltp_session.specs.Engine.{earlier}
use Rattle.ltp_engine.specs.Values.{EngineValue}
use Rattle.ltp_engine.specs.Steps.{new_engine, deadline_of}
use Rattle.gateway_core.specs.Gate.{GateSetup}

-- whether memory ran out in a call, after which the value may only be dropped; the gate's own name;
-- the most octets of payload that a piece has; the engine of each face; and how many reports were
-- made
pub record GatewayValue : Type 0 where
  pub spent : Bool
  pub gate : Endpoint
  pub cut : ℕ
  pub engines : EngineValue × EngineValue
  pub counter : ℕ

abbrev pub setup_of : GatewayValue → GateSetup
setup_of v = record {
  parties = (v.engines.0.party, v.engines.1.party);
  gate = v.gate;
  cut = v.cut;
}

-- a gateway at its beginning
abbrev pub new_gateway : Endpoint → PolicyValue → ℕ → GatewayValue
new_gateway gate policy cut = record {
  spent = false;
  gate = gate;
  cut = cut;
  engines = (new_engine 2 1 1 policy, new_engine 3 4 1 policy);
  counter = 0;
}

-- when a timer of either engine is due next
abbrev pub gate_deadline : GatewayValue → Option ℕ
gate_deadline v = earlier (deadline_of v.engines.0) (deadline_of v.engines.1)
