-- What happens at each face of a gateway among other implementations: datagrams and ticks come to its
-- sessions, and blocks begin there.

use Rattle.std.specs.Prelude.{ℕ, List, [], ◌∷◌}
use Rattle.ltp_session.specs.Engine.{UpValue}
use Rattle.gate_cases.specs.declared.face.Face.{Face}
use Rattle.gateway_core.specs.Gate.{if_same, at_face}
use Rattle.peer_sessions.specs.Sessions.{Sessions}
use Rattle.peer_sessions.specs.Runs as faces
use Rattle.peer_once.specs.Runs as once
use Rattle.peer_once.specs.Runs.{TimedEvent}
use Rattle.peer_gateway.specs.Keys.{PeerSetup}
use Rattle.peer_gateway.specs.Gate.{BegunAt, PeerGate, PeerMoments, PeerStep, starts_peer_gate}
use Rattle.peer_gateway.specs.Steps.{PeerEvent, a_datagram, a_kept_piece, a_tick}
use Rattle.peer_gateway.specs.Steps.{hears_at, peer_gate_after, peer_step, with_outboxes}
use Rattle.peer_half.specs.Runs.{EventIn}

-- ---- a gateway

-- How a gateway begins: how it is set up, the moment of each face, and the numbers that each face remembers for
-- good.
pub record Beginning : Type 0 where
  pub setup : PeerSetup
  pub start : ℕ × ℕ
  pub marks : List ℕ × List ℕ

-- the gate after some events, the newest first
abbrev pub gate_after : Beginning → List EventIn → PeerGate
gate_after b events = peer_gate_after b.setup (starts_peer_gate b.setup b.start b.marks) events

-- the step of an event, after earlier ones
abbrev pub step_with : Beginning → EventIn → List EventIn → PeerStep
step_with b event earlier = peer_step b.setup event.0 event.1.0 event.1.1 (gate_after b earlier)

-- the sessions of a face
abbrev pub sessions_of : Beginning → Face → List EventIn → Sessions
sessions_of b at events = (at_face (gate_after b events).faces at).sessions

-- ---- a face

abbrev pub face_of : Beginning → Face → once.Face
face_of b at = record { keys = at_face b.setup.keys at; start = at_face b.start at; marks = at_face b.marks at }

-- A datagram comes to the sessions of its face, and a tick to those of each. A piece of an earlier run is nothing
-- that they hear.
abbrev pub heard_first : Face → PeerEvent → ℕ → List TimedEvent → List TimedEvent
heard_first at (a_datagram face read) now earlier =
    if_same face at ((now, faces.a_datagram read) ∷ earlier) earlier
heard_first at a_tick now earlier = (now, faces.a_tick) ∷ earlier
heard_first at (a_kept_piece face octets came) now earlier = earlier

-- of blocks that begin, in order, those at a face
unfoldable pub with_begun : Face → ℕ → List BegunAt → List TimedEvent → List TimedEvent
with_begun at now [] earlier = earlier
with_begun at now (begun ∷ more) earlier =
    with_begun at now more (if_same begun.face at ((now, faces.a_block begun.block) ∷ earlier) earlier)

-- What happened at a face with some events, the newest first: with each of them what its sessions heard, and then
-- the blocks that began there, all at the face's moment.
unfoldable pub events_at : Beginning → Face → List EventIn → List TimedEvent
events_at b at [] = []
events_at b at (event ∷ earlier) =
    with_begun at (event.1.0.at at) (step_with b event earlier).effects.begun
    (heard_first at event.0 (event.1.0.at at) (events_at b at earlier))

-- ---- red parts

-- those that a gate passes on from a face: its sessions hand them up with a datagram
abbrev pub passed_on : PeerSetup → Face → PeerEvent → PeerMoments → PeerGate → List UpValue
passed_on s at (a_datagram face read) m g = if_same face at (hears_at s face g read (m.at face)).effects.ups []
passed_on s at a_tick m g = []
passed_on s at (a_kept_piece face octets came) m g = []

-- with an event, after earlier ones
abbrev pub ups_at : Beginning → Face → EventIn → List EventIn → List UpValue
ups_at b at event earlier =
    passed_on b.setup at event.0 event.1.0 (with_outboxes event.1.1 (gate_after b earlier))
