-- What the code keeps, as a gateway's value, and what its parts do.

use Rattle.std.specs.Prelude.{◌≡◌, ℕ, ◌+◌, ◌≤◌, ◌^◌, Bool, ◌||◌, nat_le, nat_lt, false, List, length, map, Result, Ok, Err}
use Rattle.ltp_segment.specs.declared.session.TheConstants.{BLOCK_MAX}
use Rattle.ltp_session.specs.Engine.{EngineStep, UpValue}
use Rattle.ltp_engine.specs.declared.effects.Effects.{Effects}
use Rattle.ltp_engine.specs.declared.effects.Up.{Up}
use Rattle.ltp_engine.specs.declared.refused.SubmitRefused.{SubmitRefused}
use Rattle.ltp_engine.specs.declared.refused.SubmitRefused.TheVariants as causes
use Rattle.ltp_engine.specs.Effects.{effects_of}
use Rattle.ltp_engine.specs.Values.{EngineValue}
use Rattle.gate_cases.specs.declared.case.Room.{Room}
use Rattle.gate_cases.specs.declared.face.Face.{Face}
use Rattle.gate_cases.specs.Faces.{other_of}
use Rattle.gateway_core.specs.declared.effects.GateEffects.{GateEffects}
use Rattle.gateway_core.specs.declared.parts.Parts.{Parts}
use Rattle.gateway_core.specs.Gate.{Gate, GateSetup, GateStep, at_face, does_at, sends_at}
use Rattle.gateway_core.specs.Effects.{routed_at, gate_effects_of}
use Rattle.gateway_core.specs.Config.{IsGateConfig}
use Rattle.gateway_core.specs.Values.{GatewayValue, setup_of}
use Rattle.gateway_core.specs.Shows.{ShowsGate, IsGateBounded}
use Rattle.gateway_core.specs.Steps.{GateSteps}

abbrev pub value_of : Bool → Parts → GatewayValue
value_of spent p = record {
  spent = spent;
  gate = p.gate;
  cut = p.cut;
  engines = (p.old_face, p.new_face);
  counter = p.counter;
}

-- while no call has run out of memory
abbrev pub live : Parts → GatewayValue
live p = value_of false p

abbrev pub setup_in : Parts → GateSetup
setup_in p = setup_of (live p)

-- both engines are whole, the bounds hold, and there is a gate that this stands for
pub record IsWhole (p : Parts) : Type 0 where
  pub old_face : p.old_face.spent ≡ false
  pub new_face : p.new_face.spent ≡ false
  pub old_most : p.old_face.party.most ≡ BLOCK_MAX
  pub new_most : p.new_face.party.most ≡ BLOCK_MAX
  pub old_sessions : p.old_face.party.sessions ≡ 64
  pub new_sessions : p.new_face.party.sessions ≡ 64
  pub config : IsGateConfig p.gate p.cut
  pub bounds : IsGateBounded (live p)
  pub gate : Gate
  pub shows : ShowsGate (live p) gate

-- a step was done, and left the parts whole
pub record Did (old new : Parts) (step : Gate → GateStep) (effects : GateEffects) : Type 0 where
  pub whole : IsWhole new
  pub steps : GateSteps (live old) (live new) step effects

-- an engine did a step at its face, and left the parts whole
pub record DidAt (old new : Parts) (face : Face) (step : Gate → EngineStep) (told : Effects) :
    Type 0 where
  pub whole : IsWhole new
  pub setup : setup_in new ≡ setup_in old
  pub next : (g : Gate) → ShowsGate (live old) g → ShowsGate (live new) (does_at face g (step g)).gate
  pub told_is : (g : Gate) → ShowsGate (live old) g → told ≡ effects_of (step g).effects

-- ---- blocks

abbrev pub engine_at : Parts → Face → EngineValue
engine_at p face = at_face (p.old_face, p.new_face) face

-- all but the engine of a face is as it was
pub record SameBut (face : Face) (old new : Parts) : Type 0 where
  pub other : engine_at new (other_of face) ≡ engine_at old (other_of face)
  pub gate : new.gate ≡ old.gate
  pub cut : new.cut ≡ old.cut
  pub counter : new.counter ≡ old.counter

-- a red part that the code's engine hands up, as the definition's
abbrev pub up_value : Up → UpValue
up_value up = record { session = up.session; body = up.body }

abbrev pub up_values : List Up → List UpValue
up_values ups = map up_value ups

-- an engine has room for so many sessions more
pub record HasRoom (v : EngineValue) (more : ℕ) : Type 0 where
  pub sending : length v.senders + more ≤ 64
  pub numbers : v.next + more ≤ 2 ^ 32

-- a session more is sent
pub record TakesRoom (old new : EngineValue) : Type 0 where
  pub sending : length new.senders ≤ length old.senders + 1
  pub numbers : new.next ≡ old.next + 1

-- what room an engine has
abbrev pub room_in : EngineValue → Room
room_in v = record { sending = length v.senders; next_session = v.next }

-- no report can be made at a face
abbrev pub cannot_report : Face → ℕ → GatewayValue → Bool
cannot_report face now v =
    nat_le 64 (length (at_face v.engines face).senders)
    || nat_le (2 ^ 32) (at_face v.engines face).next
    || nat_lt now 1000
    || nat_le (2 ^ 32) v.counter

-- the engine of a face sent a block, and left the parts whole
pub record SentAt (old new : Parts) (face : Face) (block : List ℕ) (now : ℕ) (told : Effects) :
    Type 0 where
  pub whole : IsWhole new
  pub setup : setup_in new ≡ setup_in old
  pub next : (g : Gate) → ShowsGate (live old) g
      → ShowsGate (live new) (sends_at (setup_in old) face now block g).gate
  pub told_is : (g : Gate) → ShowsGate (live old) g
      → routed_at face told ≡ gate_effects_of (sends_at (setup_in old) face now block g).effects

-- a block was sent, or memory ran out
abbrev pub IsUnrefused : Result Effects SubmitRefused → Type 0
IsUnrefused (Ok told) = Unit {0}
IsUnrefused (Err causes.Empty) = ⊥
IsUnrefused (Err causes.TooLarge) = ⊥
IsUnrefused (Err causes.NumbersSpent) = ⊥
IsUnrefused (Err causes.Busy) = ⊥
IsUnrefused (Err causes.Memory) = Unit {0}
