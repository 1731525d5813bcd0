-- When a step of a gate among other implementations sends what the same step of the gate of `serve` sends: it is
-- set up as that is, each block that comes is one bundle or none, and neither meets a bound.

use Rattle.std.specs.Prelude.{◌≡◌, ℕ, ◌+◌, ◌<◌, ◌≤◌, ◌⊎◌, List, [], ◌∷◌, length, Result, None, Some}
use Rattle.std.specs.List.{AllByRecursion}
use Rattle.wire_fields.specs.Reading.{IsOctets}
use Rattle.ltp_segment.specs.declared.fault.SegmentCause.{SegmentCause}
use Rattle.ltp_segment.specs.Values.{SegmentValue}
use Rattle.ltp_session.specs.Engine.{Engine, UpValue}
use Rattle.gate_cases.specs.declared.case.GateCase.{GateCase}
use Rattle.gate_cases.specs.declared.case.GateCase.TheVariants as cases
use Rattle.gate_cases.specs.declared.face.Face.{Face}
use Rattle.gate_cases.specs.declared.face.Face.TheVariants as faces
use Rattle.bundle_rows.specs.declared.next.End.{End}
use Rattle.bundle_rows.specs.Rows.{Extent, row_of}
use Rattle.face_room.specs.declared.bounds.TheConstants.{BLOCK_MAX}
use Rattle.gateway_core.specs.Gate.{Gate, GateSetup, GateStep, arrives_at, at_face, ticks_gate}
use Rattle.peer_cases.specs.Laws.{IsPlain}
use Rattle.peer_sessions.specs.Keys.{FaceKeys}
use Rattle.peer_gateway.specs.Keys.{PeerSetup, gathers_from}
use Rattle.peer_gateway.specs.Gate.{AddedAt, FaceTold, PeerFace, PeerGate, PeerMoments, PeerStep}
use Rattle.peer_gateway.specs.Gate.{Told}
use Rattle.peer_gateway.specs.Gate.{told_engine, told_forgotten, told_green, told_began}
use Rattle.peer_gateway.specs.Gate.{told_bundle, told_case, told_left, told_reported}
use Rattle.peer_gateway.specs.Gate.{told_unreported, told_end}
use Rattle.peer_gateway.specs.Steps.{arrives_peer, does_at, hears_at, ticks_peer}
use Rattle.peer_serve_laws.specs.Sessions.{AreOf, HasPlace, HearsFreely, IsSmall, PassesFreely}
use Rattle.peer_serve_laws.specs.Sessions.{party_with}

-- ---- set up as `serve` is

-- the gate without bounds of a setup: its engines have as many sessions each way, and keep 65,536 runs of numbers
abbrev pub plain_setup : PeerSetup → GateSetup
plain_setup s = record {
  parties = (party_with s.keys.0 65536, party_with s.keys.1 65536);
  gate = s.gate;
  cut = s.cut;
}

-- a face sends each piece alone, in one of 64 sessions
pub record IsPlainFace (k : FaceKeys) : Type 0 where
  pub alone : (k.bounds).wanted ≡ 0
  pub sessions : (k.bounds).sessions ≡ 64
  pub most : (k.party).most ≡ BLOCK_MAX

-- the block types are the gateway's own, nothing is left out, and no age is raised
pub record IsPlainSetup (s : PeerSetup) : Type 0 where
  pub settings : IsPlain s.settings
  pub old : IsPlainFace s.keys.0
  pub new : IsPlainFace s.keys.1

-- one clock shows all moments of a step
pub record AreOneMoment (m : PeerMoments) (now : ℕ) : Type 0 where
  pub wall : m.wall ≡ now
  pub at : (face : Face) → m.at face ≡ now

-- ---- the same gates

-- a face has the sessions of an engine, and no piece waits
pub record IsFaceOf (k : FaceKeys) (e : Engine) (f : PeerFace) : Type 0 where
  pub sessions : AreOf e f.sessions
  pub pieces : f.gathering ≡ gathers_from k

pub record IsGateOf (s : PeerSetup) (h : Gate) (g : PeerGate) : Type 0 where
  pub old : IsFaceOf s.keys.0 h.engines.0 g.faces.0
  pub new : IsFaceOf s.keys.1 h.engines.1 g.faces.1
  pub counter : g.counter ≡ h.counter

-- a step sends what another sends, and leaves the same gate
pub record SendsAlike (s : PeerSetup) (step : PeerStep) (plain : GateStep) : Type 0 where
  pub out : step.effects.out ≡ plain.effects.out
  pub gate : IsGateOf s plain.gate step.gate

-- ---- blocks of one bundle, or none

-- a block's octets are one bundle and no more, or no bundle begins them
pub record IsOneOrNone (face : Face) (up : UpValue) : Type 0 where
  pub octets : IsOctets up.body
  pub some : 0 < length up.body
  pub row : ((extent : Extent) × (row_of face up.body ≡ record { bundles = extent ∷ []; end = None }))
      ⊎ ((end : End) × (row_of face up.body ≡ record { bundles = []; end = Some end }))

-- ---- nothing is turned away

-- there is room for a bundle
abbrev pub IsTakenCase : GateCase → Type 0
IsTakenCase (cases.BadBundle at cause) = Unit {0}
IsTakenCase (cases.Untranslated cause) = Unit {0}
IsTakenCase cases.Expired = Unit {0}
IsTakenCase cases.HopLimit = Unit {0}
IsTakenCase cases.Storage = ⊥
IsTakenCase cases.Passed = Unit {0}

-- it isn't told that there was none for a bundle, or for a report
abbrev pub IsTaken : Told → Type 0
IsTaken (told_engine note) = Unit {0}
IsTaken (told_forgotten runs) = Unit {0}
IsTaken (told_green green) = Unit {0}
IsTaken (told_began pieces octets session) = Unit {0}
IsTaken (told_bundle subject) = Unit {0}
IsTaken (told_case index session case pieces first) = IsTakenCase case
IsTaken (told_left index session left) = Unit {0}
IsTaken (told_reported index session report) = Unit {0}
IsTaken (told_unreported index session) = ⊥
IsTaken (told_end index session end) = Unit {0}

abbrev pub AllTaken : List FaceTold → Type 0
AllTaken told = AllByRecursion (λ (t : FaceTold). IsTaken t.told) told

-- at each face so few sessions are being sent that one is free for each piece that an event adds, at whichever
-- face, so that none waits
abbrev pub HaveSessions : PeerGate → List AddedAt → Type 0
HaveSessions g added =
    (at : Face) → length ((at_face g.faces at).sessions.engine).senders + length added ≤ 64

-- ---- events

-- a datagram comes, and neither gate meets a bound with it
pub record ComesFreely (s : PeerSetup) (face : Face) (read : Result SegmentValue (ℕ × SegmentCause))
    (m : PeerMoments) (g : PeerGate) (h : Gate) : Type 0 where
  pub small : IsSmall read
  pub sessions : HearsFreely (at_face s.keys face) (at_face g.faces face).sessions read (m.at face)
  pub place : HasPlace (at_face (plain_setup s).parties face) (at_face h.engines face)
  pub blocks : AllByRecursion (IsOneOrNone face) (hears_at s face g read (m.at face)).effects.ups
  pub told : AllTaken (arrives_peer s face read m g).effects.told
  pub sending : HaveSessions (does_at s face g (hears_at s face g read (m.at face))).gate
      (arrives_peer s face read m g).effects.added

-- time passes
pub record PassFreely (s : PeerSetup) (m : PeerMoments) (g : PeerGate) : Type 0 where
  pub old : PassesFreely s.keys.0 g.faces.0.sessions (m.at faces.Old)
  pub new : PassesFreely s.keys.1 g.faces.1.sessions (m.at faces.New)

-- ---- then both send the same

pub record StepsSendAlike : Type 0 where
  pub arrival : (s : PeerSetup) (face : Face) (read : Result SegmentValue (ℕ × SegmentCause))
      → (m : PeerMoments) (now : ℕ) (g : PeerGate) (h : Gate)
      → IsPlainSetup s → AreOneMoment m now → IsGateOf s h g → ComesFreely s face read m g h
      → SendsAlike s (arrives_peer s face read m g) (arrives_at (plain_setup s) face read now h)
  pub tick : (s : PeerSetup) (m : PeerMoments) (now : ℕ) (g : PeerGate) (h : Gate)
      → IsPlainSetup s → AreOneMoment m now → IsGateOf s h g → PassFreely s m g
      → SendsAlike s (ticks_peer s m g) (ticks_gate (plain_setup s) now h)
