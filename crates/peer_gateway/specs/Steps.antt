-- What a gate among other implementations does when a datagram comes, when time passes, and about a piece
-- that was kept from an earlier run.

use Rattle.std.specs.Prelude.{ℕ, ◌+◌, Bool, true, false, nat_lt, if◌then◌else◌, List, [], ◌∷◌, ◌++◌, map, length, Option, Some, None, Result}
use Rattle.std.specs.Option.{is_some}
use Rattle.ltp_segment.specs.declared.fault.SegmentCause.{SegmentCause}
use Rattle.ltp_segment.specs.Values.{SegmentValue}
use Rattle.ltp_session.specs.Engine.{UpValue}
use Rattle.piece_gathering.specs.declared.piece.Piece.{Piece}
use Rattle.gate_cases.specs.declared.face.Face.{Face}
use Rattle.gate_cases.specs.declared.face.Face.TheVariants as faces
use Rattle.gate_cases.specs.declared.report.AskedReport.{AskedReport}
use Rattle.gate_cases.specs.Faces.{other_of}
use Rattle.gate_cases.specs.Bundles.{status_bundle}
use Rattle.gate_log.specs.Subjects.{subject_of}
use Rattle.block_types.specs.declared.losing.LeftOut.{LeftOut}
use Rattle.gateway_core.specs.Gate.{at_face, with_face}
use Rattle.peer_cases.specs.declared.pieces.SizedPiece.{SizedPiece}
use Rattle.peer_cases.specs.Arrivals.{Came}
use Rattle.peer_cases.specs.declared.decision.Decision.{Decision}
use Rattle.face_room.specs.Loads.{has_room}
use Rattle.peer_cases.specs.declared.room.FaceRoom.{FaceRoom}
use Rattle.peer_cases.specs.Cases.{decided, is_unreported}
use Rattle.peer_cases.specs.Rows.{Item, a_bundle, an_end, came_in, items_of}
use Rattle.peer_gateway.specs.Keys.{PeerSetup}
use Rattle.peer_sessions.specs.Sessions.{Sessions, SessionsStep, evictions, hears, ticks}
use Rattle.peer_gateway.specs.Gate.{PeerMoments, PeerFace, PeerGate, PeerStep, Told, FaceTold, no_effects, stays_so, and_then, in_turn, tells, room_at, routed_at, puts_out, with_queued}
use Rattle.peer_gateway.specs.Gate.{told_engine, told_forgotten, told_green, told_bundle, told_case, told_left, told_reported, told_unreported, told_end}
use Rattle.peer_gateway.specs.Going.{adds, piece_at, due, gathers, stayed_size}

-- ---- a face's sessions

-- what is told of a step of its sessions, in order: those that were closed since nothing touched them,
-- forgotten runs, the engine's notes, and green pieces
abbrev pub forgotten_told : Option ℕ → List Told
forgotten_told None = []
forgotten_told (Some runs) = told_forgotten runs ∷ []

abbrev pub told_of : SessionsStep → List Told
told_of step =
    map told_engine (evictions step.gone)
    ++ (forgotten_told step.forgotten
    ++ (map told_engine (step.effects).notes ++ map told_green (step.effects).greens))

abbrev pub told_at : Face → Told → FaceTold
told_at face told = record { face = face; told = told }

-- what they do is done at their face, and what they send is put into its outbox by what the face keeps then
abbrev pub with_sessions : PeerFace → SessionsStep → PeerFace
with_sessions f step = record f { sessions = step.sessions }

abbrev pub does_at : PeerSetup → Face → PeerGate → SessionsStep → PeerStep
does_at s face g step = record {
  gate = record g {
    faces = with_face g.faces face
        (with_queued (at_face s.keys face) (with_sessions (at_face g.faces face) step) (step.effects).out);
  };
  effects = record no_effects {
    out = routed_at face (step.effects).out;
    puts = puts_out (at_face s.keys face) (with_sessions (at_face g.faces face) step) (step.effects).out;
    told = map (told_at face) (told_of step);
  };
}

abbrev pub hears_at : PeerSetup → Face → PeerGate → Result SegmentValue (ℕ × SegmentCause) → ℕ → SessionsStep
hears_at s face g read now = hears (at_face s.keys face) (at_face g.faces face).sessions read now

-- ---- a bundle

-- its pieces are added at the other face, in order
abbrev pub adds_all : PeerSetup → Face → PeerMoments → List SizedPiece → PeerGate → PeerStep
adds_all s to m pieces g = in_turn (λ (piece : SizedPiece). adds s to m false (piece_at m to piece)) pieces g

-- The session that a piece will have which is added next at a face, where each has one of its own: those
-- that wait there go before it.
abbrev pub next_if : PeerSetup → Face → PeerGate → Option ℕ
next_if s face g =
    if gathers (at_face s.keys face) then None
    else Some ((((at_face g.faces face).sessions).engine).next + length ((at_face g.faces face).gathering).waiting)

-- what the pieces lack is told, where they lack something
abbrev pub tells_left : Face → Option ℕ → ℕ → Option LeftOut → PeerGate → PeerStep
tells_left face index session None g = stays_so g
tells_left face index session (Some left) g = tells face (told_left index session left) g

-- a report has no age, and no block of the gateway's own
abbrev pub report_piece : PeerSetup → PeerMoments → AskedReport → PeerGate → SizedPiece
report_piece s m asked g = record {
  octets = status_bundle s.gate g.counter m.wall asked;
  size = length (status_bundle s.gate g.counter m.wall asked);
  is_dated = false;
}

-- it is made with the counter's number, which rises, and goes back as a piece of the face at which the
-- bundle came
abbrev pub reports : PeerSetup → Face → PeerMoments → Option ℕ → ℕ → SizedPiece → PeerGate → PeerStep
reports s face m index session piece g =
    and_then (adds s face m true (piece_at m face piece) (record g { counter = g.counter + 1 }))
    (tells face (told_reported index session (next_if s face g)))

unfoldable pub answers : PeerSetup → Face → PeerMoments → Option ℕ → ℕ → Option AskedReport → PeerGate → PeerStep
answers s face m index session None g = stays_so g
answers s face m index session (Some asked) g =
    if is_unreported (room_at (at_face s.keys face) (at_face g.faces face)) (report_piece s m asked g).size m.wall g.counter
    then tells face (told_unreported index session) g
    else reports s face m index session (report_piece s m asked g) g

-- once it is decided: the pieces; the case; what they lack; and the report
unfoldable pub decides : PeerSetup → Face → PeerMoments → Option ℕ → ℕ → Decision → PeerGate → PeerStep
decides s face m index session d g =
    and_then (adds_all s (other_of face) m d.pieces g) (λ h.
    and_then (tells face (told_case index session d.case (length d.pieces) (next_if s (other_of face) g)) h) (λ i.
    and_then (tells_left face index session d.left i)
    (answers s face m index session d.report)))

-- by the room at the other face as it is now
abbrev pub decided_at : PeerSetup → Face → PeerMoments → Came → PeerGate → Decision
decided_at s face m came g =
    decided s.settings face came m.wall s.cut
    (room_at (at_face s.keys (other_of face)) (at_face g.faces (other_of face)))

abbrev pub passes_came : PeerSetup → Face → PeerMoments → Option ℕ → ℕ → Option Came → PeerGate → PeerStep
passes_came s face m index session None g = stays_so g
passes_came s face m index session (Some came) g = decides s face m index session (decided_at s face m came g) g

-- ---- a block that came whole

-- a bundle of its row, of which its names are told first, or the end
abbrev pub passes_item : PeerSetup → Face → PeerMoments → ℕ → Item → PeerGate → PeerStep
passes_item s face m session (a_bundle index octets) g =
    and_then (tells face (told_bundle (subject_of octets)) g)
    (passes_came s face m index session (came_in s.settings face octets))
passes_item s face m session (an_end index end) g = tells face (told_end index session end) g

-- all that stands in it, in turn
abbrev pub passes : PeerSetup → Face → PeerMoments → UpValue → PeerGate → PeerStep
passes s face m up g = in_turn (passes_item s face m up.session) (items_of face up.body) g

-- ---- events

-- a session that was being sent is over
abbrev pub has_ended : Sessions → SessionsStep → Bool
has_ended before step = nat_lt (length ((step.sessions).engine).senders) (length (before.engine).senders)

-- then one is free, and what is ready goes
abbrev pub due_if : Bool → PeerSetup → PeerMoments → Face → PeerGate → PeerStep
due_if ended s m face g = if ended then due s m face g else stays_so g

-- a datagram comes at a face: what its sessions do; then each block that they hand up; and what is ready
-- goes, where a session ended
abbrev pub arrives_with : PeerSetup → Face → PeerMoments → PeerGate → SessionsStep → PeerStep
arrives_with s face m g step =
    and_then (does_at s face g step) (λ h.
    and_then (in_turn (passes s face m) (step.effects).ups h)
    (due_if (has_ended (at_face g.faces face).sessions step) s m face))

unfoldable pub arrives_peer : PeerSetup → Face → Result SegmentValue (ℕ × SegmentCause) → PeerMoments → PeerGate → PeerStep
arrives_peer s face read m g = arrives_with s face m g (hears_at s face g read (m.at face))

-- a face's sessions tick, and what is ready goes
abbrev pub ticks_face : PeerSetup → PeerMoments → Face → PeerGate → PeerStep
ticks_face s m face g =
    and_then (does_at s face g (ticks (at_face s.keys face) (at_face g.faces face).sessions (m.at face)))
    (due s m face)

-- time passes: the old face first
unfoldable pub ticks_peer : PeerSetup → PeerMoments → PeerGate → PeerStep
ticks_peer s m g = and_then (ticks_face s m faces.Old g) (ticks_face s m faces.New)

-- Where a record says when a piece came, that was it. An older record says nothing, and its piece came now:
-- the stay in earlier runs isn't known, so none of it is in the age.
abbrev pub came_or : ℕ → Option ℕ → ℕ
came_or now None = now
came_or now (Some came) = came

-- A piece that a journal kept, by its octets and what its record says of when it came. It has as many octets
-- at most as after the longest stay, and it is added now. It is dated as its record is.
abbrev pub kept_piece : PeerSetup → Face → List ℕ → Option ℕ → PeerMoments → Piece
kept_piece s face octets came m = record {
  octets = octets;
  size = stayed_size s.settings face octets;
  came = came_or m.wall came;
  added = m.at face;
  is_dated = is_some came;
}

abbrev pub has_room_at : FaceRoom → ℕ → Bool
has_room_at room size = has_room room.bounds room.load (size ∷ [])

-- a piece is added that was kept from an earlier run, where there is room for it; else nothing is done, and
-- the journal keeps it
abbrev pub adds_kept : PeerSetup → Face → Piece → PeerMoments → PeerGate → PeerStep
adds_kept s face piece m g =
    if has_room_at (room_at (at_face s.keys face) (at_face g.faces face)) piece.size
    then adds s face m false piece g else stays_so g

pub data PeerEvent : Type 0 where
  a_datagram : Face → Result SegmentValue (ℕ × SegmentCause) → PeerEvent
  a_tick : PeerEvent
  a_kept_piece : Face → List ℕ → Option ℕ → PeerEvent

-- an event finds so many octets in each outbox
abbrev pub with_outboxes : ℕ × ℕ → PeerGate → PeerGate
with_outboxes octets g = record g {
  faces = (record (g.faces.0) { queued = octets.0 }, record (g.faces.1) { queued = octets.1 });
}

abbrev pub does : PeerSetup → PeerEvent → PeerMoments → PeerGate → PeerStep
does s (a_datagram face read) m g = arrives_peer s face read m g
does s a_tick m g = ticks_peer s m g
does s (a_kept_piece face octets came) m g = adds_kept s face (kept_piece s face octets came m) m g

unfoldable pub peer_step : PeerSetup → PeerEvent → PeerMoments → ℕ × ℕ → PeerGate → PeerStep
peer_step s event m octets g = does s event m (with_outboxes octets g)

-- the gate after some events, the newest first, from a beginning
unfoldable pub peer_gate_after : PeerSetup → PeerGate → List (PeerEvent × (PeerMoments × (ℕ × ℕ))) → PeerGate
peer_gate_after s start [] = start
peer_gate_after s start (event ∷ earlier) =
    (peer_step s event.0 event.1.0 event.1.1 (peer_gate_after s start earlier)).gate
