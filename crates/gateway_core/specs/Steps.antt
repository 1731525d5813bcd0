-- What the calls of a gateway promise, by the steps of the definition.

use Rattle.std.specs.Prelude.{◌≡◌, false}
use Rattle.gateway_core.specs.declared.effects.GateEffects.{GateEffects}
use Rattle.gateway_core.specs.Gate.{Gate, GateStep}
use Rattle.gateway_core.specs.Effects.{gate_effects_of}
use Rattle.gateway_core.specs.Values.{GatewayValue, setup_of}
use Rattle.gateway_core.specs.Shows.{ShowsGate}

-- each gate of the definition that the old value stands for does this step; the new value stands for
-- the gate after it, and the effects are that step's
pub record GateSteps (old new : GatewayValue) (step : Gate → GateStep) (effects : GateEffects) :
    Type 0 where
  pub whole : new.spent ≡ false
  pub setup : setup_of new ≡ setup_of old
  pub next : (g : Gate) → ShowsGate old g → ShowsGate new (step g).gate
  pub effects_are :
      (g : Gate) → ShowsGate old g → effects ≡ gate_effects_of (step g).effects
