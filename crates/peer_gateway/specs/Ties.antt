-- A gateway of the code as the definition's gate, and what its parts do.

use Rattle.std.specs.Prelude.{◌≡◌, ℕ, ◌≤◌, ◌^◌, Bool, false, List, ◌++◌, map, Option, None, Some}
use Rattle.ltp_engine.specs.Effects.{up_of}
use Rattle.gate_cases.specs.declared.face.Face.{Face}
use Rattle.gate_cases.specs.declared.face.Face.TheVariants as faces
use Rattle.gate_cases.specs.declared.report.AskedReport.{AskedReport}
use Rattle.gate_cases.specs.Faces.{other_of}
use Rattle.gate_cases.specs.Promises.{IsAskable}
use Rattle.gate_cases.specs.Reports.{face_of as face_for}
use Rattle.face_room.specs.declared.bounds.TheConstants.{BLOCK_MAX}
use Rattle.gateway_core.specs.Gate.{at_face, with_face}
use Rattle.gateway_core.specs.Config.{IsGateConfig}
use Rattle.peer_cases.specs.declared.pieces.SizedPiece.{SizedPiece}
use Rattle.peer_cases.specs.declared.settings.PeerSettings.{PeerSettings}
use Rattle.peer_sessions.specs.Sessions.{SessionsStep}
use Rattle.peer_gateway.specs.declared.faces.FaceParts.{FaceParts}
use Rattle.peer_gateway.specs.declared.faces.Heard.{Heard}
use Rattle.peer_gateway.specs.declared.parts.Parts.{Parts}
use Rattle.peer_gateway.specs.Keys.{PeerSetup}
use Rattle.peer_gateway.specs.Gate.{PeerMoments, PeerGate, PeerEffects, PeerStep, no_effects, routed_at, starts_out, starts_puts}
use Rattle.peer_gateway.specs.Going.{piece_at}
use Rattle.peer_gateway.specs.Steps.{does_at, has_ended, PeerEvent, with_outboxes, peer_step}
use Rattle.peer_gateway.specs.Answers.{Answered, answer_of, then_done}
use Rattle.peer_gateway.specs.Faces.{FaceStep, keys_at, face_of, IsSized, IsFace}

-- ---- a gateway

abbrev pub face_at : Parts → Face → FaceParts
face_at p face = at_face (p.old_face, p.new_face) face

abbrev pub setup_in : Parts → PeerSetup
setup_in p = record {
  keys = (keys_at p.old_face, keys_at p.new_face);
  settings = p.settings;
  gate = p.gate;
  cut = p.cut;
}

abbrev pub gate_of : Parts → PeerGate
gate_of p = record { faces = (face_of p.old_face, face_of p.new_face); counter = p.counter }

-- both faces are whole, each knows which it is, and a number counts the reports
pub record IsWhole (p : Parts) : Type 0 where
  pub old_face : IsFace p.old_face
  pub new_face : IsFace p.new_face
  pub old_is : (p.old_face).face ≡ faces.Old
  pub new_is : (p.new_face).face ≡ faces.New
  pub old_settings : (p.old_face).settings ≡ p.settings
  pub new_settings : (p.new_face).settings ≡ p.settings
  pub config : IsGateConfig p.gate p.cut
  pub counter : p.counter ≤ 2 ^ 32

-- a step was done, and what is told of it follows what was told before
pub record Did (old new : Parts) (before after : Answered) (step : PeerStep) : Type 0 where
  pub whole : IsWhole new
  pub setup : setup_in new ≡ setup_in old
  pub gate : gate_of new ≡ step.gate
  pub answer : after ≡ then_done before step.effects

-- so many octets wait in each outbox, and all else is as it was
pub record IsFound (old new : Parts) (octets : ℕ × ℕ) : Type 0 where
  pub whole : IsWhole new
  pub setup : setup_in new ≡ setup_in old
  pub gate : gate_of new ≡ with_outboxes octets (gate_of old)

-- ---- at a face

-- a face of a gate does a step
abbrev pub at_gate : Face → PeerGate → FaceStep → PeerStep
at_gate face g step =
    record { gate = record g { faces = with_face g.faces face step.face }; effects = step.effects }

-- all but a face is as it was
pub record SameBut (face : Face) (old new : Parts) : Type 0 where
  pub other : face_at new (other_of face) ≡ face_at old (other_of face)
  pub settings : new.settings ≡ old.settings
  pub gate : new.gate ≡ old.gate
  pub cut : new.cut ≡ old.cut
  pub counter : new.counter ≡ old.counter

-- the sessions of a face heard something, and handed something up
pub record HeardAt (old new : Parts) (before after : Answered) (face : Face) (step : SessionsStep) (heard : Heard) : Type 0 where
  pub did : Did old new before after (does_at (setup_in old) face (gate_of old) step)
  pub ups : heard.ups ≡ map up_of (step.effects).ups
  pub ended : heard.has_ended ≡ has_ended (at_face (gate_of old).faces face).sessions step

-- ---- pieces that can be added

-- a session carries a piece, whenever it is added and goes
pub record CanBeAdded (s : PeerSettings) (to : Face) (piece : SizedPiece) : Type 0 where
  pub small : piece.size ≤ BLOCK_MAX
  pub sized : (m : PeerMoments) → IsSized s to (piece_at m to piece)

-- a report that can be spelled goes back at the face
abbrev pub IsReport : Face → Option AskedReport → Type 0
IsReport face None = Unit {0}
IsReport face (Some asked) = IsAskable asked × (face_for asked.creation ≡ face)

-- ---- what a caller sees

-- whether memory ran out in a call, after which the value may only be dropped; how the gateway is set up; and
-- its state
pub record PeerGatewayValue : Type 0 where
  pub spent : Bool
  pub setup : PeerSetup
  pub gate : PeerGate

-- the cancels at the beginning, those of the old face first
abbrev pub starts_effects : PeerSetup → List ℕ × List ℕ → PeerEffects
starts_effects s marks = record no_effects {
  out = routed_at faces.Old (starts_out s.keys.0 marks.0) ++ routed_at faces.New (starts_out s.keys.1 marks.1);
  puts = starts_puts s.keys.0 marks.0 ++ starts_puts s.keys.1 marks.1;
}

-- the step of an event was done, at its moments and with so many octets in each outbox
pub record PeerSteps (old new : PeerGatewayValue) (event : PeerEvent) (m : PeerMoments) (octets : ℕ × ℕ) (answer : Answered) : Type 0 where
  pub whole : new.spent ≡ false
  pub setup : new.setup ≡ old.setup
  pub gate : new.gate ≡ (peer_step old.setup event m octets old.gate).gate
  pub answer_is : answer ≡ answer_of (peer_step old.setup event m octets old.gate).effects
