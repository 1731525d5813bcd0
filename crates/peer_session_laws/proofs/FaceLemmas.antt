-- The sessions of a face are those of its own events.

use Rattle.std.proofs.Common.{◌≡◌, ℕ, List, [], ◌∷◌, refl, ◌∙◌, ap, subst}
use Rattle.gate_cases.specs.declared.face.Face.{Face}
use Rattle.gate_cases.specs.declared.face.Face.TheVariants.{Old, New}
use Rattle.gateway_core.specs.Gate.{if_same, at_face}
use Rattle.peer_sessions.specs.Sessions.{Sessions, hears, ticks}
use Rattle.peer_sessions.specs.Runs as faces
use Rattle.peer_once.specs.Runs as once
use Rattle.peer_once.specs.Runs.{TimedEvent, sessions_in}
use Rattle.peer_gateway.specs.Gate.{BegunAt, PeerGate, PeerMoments}
use Rattle.peer_gateway.specs.Steps.{PeerEvent, a_datagram, a_kept_piece, a_tick, does, peer_gate_after, peer_step, with_outboxes}
use Rattle.peer_half.specs.Runs.{events_of}
use Rattle.peer_run_laws.specs.Gate.{GateIsOfEvents}
use Rattle.peer_session_laws.specs.Events.{Beginning, events_at, face_of, gate_after, heard_first, sessions_of, with_begun}
use Rattle.peer_session_laws.specs.Sessions.{AreOfTheirFaces}
use Rattle.peer_session_laws.specs.Runs.{AreOfTheirFacesInRuns, beginning_of}
use Rattle.peer_session_laws.proofs.GoLemmas.{GoOn, begins}
use Rattle.peer_session_laws.proofs.PassLemmas.{goes-event, heard}

-- ---- sessions

-- blocks that began are events of their face
begun-in : (f : once.Face) (at : Face) (now : ℕ) (begun : List BegunAt) (earlier : List TimedEvent) (t : Sessions)
    → GoOn f.keys now at begun (sessions_in f earlier) t → t ≡ sessions_in f (with_begun at now begun earlier)
unfolding GoOn with_begun
begun-in f at now [] earlier t same = same
begun-in f at now (b ∷ more) earlier t (number, rest) =
    by b.face at (λ xs goes. begun-in f at now more xs t goes) rest
  where
    next : List TimedEvent
    next = (now, faces.a_block b.block) ∷ earlier

    by : (face at : Face) → ((xs : List TimedEvent) → GoOn f.keys now at more (sessions_in f xs) t → t ≡ sessions_in f (with_begun at now more xs))
        → GoOn f.keys now at more (if_same face at (begins f.keys now b.block (sessions_in f earlier)) (sessions_in f earlier)) t
        → t ≡ sessions_in f (with_begun at now more (if_same face at next earlier))
    by Old Old later goes = later next goes
    by Old New later goes = later earlier goes
    by New Old later goes = later earlier goes
    by New New later goes = later next goes

-- how many octets wait in the outboxes is nothing to them
pub with-outboxes : (at : Face) (octets : ℕ × ℕ) (g : PeerGate) → (at_face (with_outboxes octets g).faces at).sessions ≡ (at_face g.faces at).sessions
with-outboxes Old octets g = refl
with-outboxes New octets g = refl

-- what they hear is the first event of the face
heard-in : (b : Beginning) (at : Face) (event : PeerEvent) (m : PeerMoments) (octets : ℕ × ℕ) (g : PeerGate) (earlier : List TimedEvent)
    → (at_face g.faces at).sessions ≡ sessions_in (face_of b at) earlier
    → heard b.setup at event m (with_outboxes octets g) ≡ sessions_in (face_of b at) (heard_first at event (m.at at) earlier)
heard-in b at event m octets g earlier before = by event at (with-outboxes at octets g ∙ before) where
  by : (event : PeerEvent) (at : Face) → (at_face (with_outboxes octets g).faces at).sessions ≡ sessions_in (face_of b at) earlier
      → heard b.setup at event m (with_outboxes octets g) ≡ sessions_in (face_of b at) (heard_first at event (m.at at) earlier)
  by (a_datagram Old read) Old same = ap (λ (t : Sessions). (hears b.setup.keys.0 t read (m.at Old)).sessions) same
  by (a_datagram Old read) New same = same
  by (a_datagram New read) Old same = same
  by (a_datagram New read) New same = ap (λ (t : Sessions). (hears b.setup.keys.1 t read (m.at New)).sessions) same
  by a_tick at same = ap (λ (t : Sessions). (ticks (at_face b.setup.keys at) t (m.at at)).sessions) same
  by (a_kept_piece face piece came) at same = same

begins-so : (b : Beginning) (at : Face) → sessions_of b at [] ≡ sessions_in (face_of b at) []
unfolding peer_gate_after
begins-so b Old = refl
begins-so b New = refl

pub are-of-their-faces : AreOfTheirFaces
unfolding peer_gate_after peer_step events_at
are-of-their-faces b at [] = begins-so b at
are-of-their-faces b at (event ∷ earlier) =
    let before = are-of-their-faces b at earlier in
    let m = event.1.0 in
    let g = with_outboxes event.1.1 (gate_after b earlier) in
    let first = heard_first at event.0 (m.at at) (events_at b at earlier) in
    let step = does b.setup event.0 m g in
    begun-in (face_of b at) at (m.at at) step.effects.begun first (at_face step.gate.faces at).sessions
    (subst (λ (t : Sessions). GoOn (at_face b.setup.keys at) (m.at at) at step.effects.begun t (at_face step.gate.faces at).sessions)
    (heard-in b at event.0 m event.1.1 (gate_after b earlier) (events_at b at earlier) before) (goes-event b.setup m at event.0 g).sessions)

-- ---- a run

pub are-of-their-faces-in-runs : GateIsOfEvents → AreOfTheirFacesInRuns
are-of-their-faces-in-runs law r at =
    ap (λ (g : PeerGate). (at_face g.faces at).sessions) (law r) ∙ are-of-their-faces (beginning_of r) at (events_of r)
