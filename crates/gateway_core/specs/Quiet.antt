-- Which datagrams want no memory of a gateway, whoever sent them.

use Rattle.std.specs.Prelude.{◌≡◌, ◌≤◌, [], length}
use Rattle.ltp_session.specs.Engine.{EngineStep}
use Rattle.ltp_engine.specs.declared.effects.Effects.{Effects}
use Rattle.ltp_engine.specs.Quiet.{IsQuiet}
use Rattle.gate_cases.specs.declared.face.Face.{Face}
use Rattle.gateway_core.specs.Gate.{Gate, at_face}
use Rattle.gateway_core.specs.Values.{GatewayValue}
use Rattle.gateway_core.specs.Shows.{ShowsGate}

-- the step of a face's engine is quiet for no gate that a value stands for
abbrev pub IsNeverQuietAt : GatewayValue → Face → (Gate → EngineStep) → Type 0
IsNeverQuietAt v face step =
    (g : Gate) → ShowsGate v g → IsQuiet (at_face g.engines face) (step g) → ⊥

-- an engine sent nothing and handed nothing up, and noted one thing at most
pub record IsQuietTold (told : Effects) : Type 0 where
  pub out : told.out ≡ []
  pub ups : told.ups ≡ []
  pub notes : length told.notes ≤ 1
