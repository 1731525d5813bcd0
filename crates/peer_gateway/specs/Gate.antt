-- A gate among other implementations: a face at each of two links, a counter of its reports, and what it
-- tells of a step.

use Rattle.std.specs.Prelude.{ℕ, ◌+◌, Bool, true, false, List, [], ◌∷◌, ◌++◌, map, length, Option}
use Rattle.std.specs.List.{sum_by}
use Rattle.ltp_segment.specs.declared.session.Note.{Note}
use Rattle.ltp_segment.specs.declared.session.Green.{Green}
use Rattle.ltp_segment.specs.Spelling.{segment_octets}
use Rattle.ltp_segment.specs.Values.{SegmentValue, a_receiver_cancel}
use Rattle.ltp_session.specs.Step.{by_system}
use Rattle.piece_gathering.specs.declared.piece.Piece.{Piece}
use Rattle.piece_gathering.specs.Gathered.{GatheringValue}
use Rattle.gate_cases.specs.declared.case.GateCase.{GateCase}
use Rattle.gate_cases.specs.declared.face.Face.{Face}
use Rattle.gate_cases.specs.declared.face.Face.TheVariants as faces
use Rattle.gate_log.specs.declared.subject.Subject.{Subject}
use Rattle.block_types.specs.declared.losing.LeftOut.{LeftOut}
use Rattle.bundle_rows.specs.declared.next.End.{End}
use Rattle.face_room.specs.Bounds.{need}
use Rattle.face_room.specs.Faces.{load_of, total, sizes_of}
use Rattle.face_room.specs.Queues.{may_wait, puts, queued_after}
use Rattle.gateway_core.specs.Gate.{RoutedValue, segment_at}
use Rattle.peer_cases.specs.declared.room.FaceRoom.{FaceRoom}
use Rattle.peer_sessions.specs.Keys.{FaceKeys}
use Rattle.peer_gateway.specs.Keys.{PeerSetup, gathers_from}
use Rattle.peer_sessions.specs.Sessions.{Sessions, starts_sessions, blocks_in}

-- ---- moments

-- What the wall clock shows; the moment of each face, on which its timers run; and until when, by the wall
-- clock, what goes at a face waits for its link: now, where that is open, and else the next contact.
pub record PeerMoments : Type 0 where
  pub wall : ℕ
  pub at : Face → ℕ
  pub leaves : Face → ℕ

-- ---- datagrams

-- how many octets segments have as datagrams, each and together
abbrev pub sizes_out : List SegmentValue → List ℕ
sizes_out segments = map (λ (segment : SegmentValue). length (segment_octets segment)) segments

abbrev pub octets_out : List SegmentValue → ℕ
octets_out segments = sum_by (λ (segment : SegmentValue). length (segment_octets segment)) segments

-- ---- a gate

-- A face's sessions; the pieces that wait there; and how many octets are in its outbox: those that an event
-- finds there, and those of each datagram that was put since.
pub record PeerFace : Type 0 where
  pub sessions : Sessions
  pub gathering : GatheringValue
  pub queued : ℕ

pub record PeerGate : Type 0 where
  pub faces : PeerFace × PeerFace
  pub counter : ℕ

-- what a face keeps of what it sends, and what room there is for more
abbrev pub room_at : FaceKeys → PeerFace → FaceRoom
room_at k f = record {
  bounds = k.bounds;
  load = load_of k.bounds (record {
    blocks = blocks_in ((f.sessions).engine).senders;
    outbox = f.queued ∷ [];
    pieces = (f.gathering).waiting;
    next_session = ((f.sessions).engine).next;
  });
}

-- what it keeps of what it sends, but for its outbox: the blocks that are being sent, and what the pieces that
-- wait will need
abbrev pub kept_inside : FaceKeys → PeerFace → ℕ
kept_inside k f =
    total (blocks_in ((f.sessions).engine).senders)
    + sum_by (need (k.bounds).segment) (sizes_of (f.gathering).waiting)

-- ---- what is put into an outbox

-- how many octets may wait in a face's outbox, by what the face keeps besides as it stands
abbrev pub may_queue : FaceKeys → PeerFace → ℕ → Bool
may_queue k f octets = may_wait k.bounds (kept_inside k f) octets

-- A face made these segments, in order: each is put as a datagram into its outbox where it may wait there, or
-- dropped. Whether each is put; and the face once they are.
abbrev pub puts_out : FaceKeys → PeerFace → List SegmentValue → List Bool
puts_out k f out = puts (may_queue k f) f.queued (sizes_out out)

abbrev pub with_queued : FaceKeys → PeerFace → List SegmentValue → PeerFace
with_queued k f out = record f { queued = queued_after (may_queue k f) f.queued (sizes_out out) }

-- ---- a gate at its beginning

-- sessions of the peer of which an earlier run had claimed a part, and no whole block, aren't handed up in this
-- one: each is cancelled once at the start, in order, and the cancels wait in the outbox
abbrev pub cancel_of : FaceKeys → ℕ → SegmentValue
cancel_of k mark =
    record { originator = (k.party).peer; session = mark; content = a_receiver_cancel by_system }

abbrev pub starts_out : FaceKeys → List ℕ → List SegmentValue
starts_out k marks = map (cancel_of k) marks

-- whether each cancel is put: nothing is kept besides
abbrev pub starts_puts : FaceKeys → List ℕ → List Bool
starts_puts k marks = puts (may_wait k.bounds 0) 0 (sizes_out (starts_out k marks))

-- at a moment of the face, with such sessions
abbrev pub starts_face : FaceKeys → ℕ → List ℕ → PeerFace
starts_face k now marks = record {
  sessions = starts_sessions k now marks;
  gathering = gathers_from k;
  queued = queued_after (may_wait k.bounds 0) 0 (sizes_out (starts_out k marks));
}

abbrev pub starts_peer_gate : PeerSetup → ℕ × ℕ → List ℕ × List ℕ → PeerGate
starts_peer_gate s now marks = record {
  faces = (starts_face s.keys.0 now.0 marks.0, starts_face s.keys.1 now.1 marks.1);
  counter = 0;
}

-- ---- what it tells

-- A note of a face's engine; runs of closed numbers were forgotten before their time; a green piece came. A
-- block begins: how many pieces it has, how many octets, and the session. A bundle comes, by its names; what
-- is told of it follows, with its place in its row and its session: the case, how many pieces go on, and the first of their sessions, where each has
-- one of its own; what they lack; that a report is sent, and its session; that it isn't. And the end of a
-- row.
pub data Told : Type 0 where
  told_engine : Note → Told
  told_forgotten : ℕ → Told
  told_green : Green → Told
  told_began : ℕ → ℕ → ℕ → Told
  told_bundle : Option Subject → Told
  told_case : Option ℕ → ℕ → GateCase → ℕ → Option ℕ → Told
  told_left : Option ℕ → ℕ → LeftOut → Told
  told_reported : Option ℕ → ℕ → Option ℕ → Told
  told_unreported : Option ℕ → ℕ → Told
  told_end : Option ℕ → ℕ → End → Told

-- at a face
pub record FaceTold : Type 0 where
  pub face : Face
  pub told : Told

-- a piece was added at a face: one of a bundle that goes on, or a report
pub record AddedAt : Type 0 where
  pub face : Face
  pub piece : Piece
  pub is_report : Bool

-- a session began at a face, with a block of so many pieces
pub record BegunAt : Type 0 where
  pub face : Face
  pub session : ℕ
  pub block : List ℕ
  pub pieces : ℕ

-- something is at a face
abbrev pub is_at : Face → Face → Bool
is_at faces.Old faces.Old = true
is_at faces.Old faces.New = false
is_at faces.New faces.Old = false
is_at faces.New faces.New = true

-- the segments that were made, and of each whether it is put into its face's outbox; what is told; and what a
-- journal has to know; each in its order
pub record PeerEffects : Type 0 where
  pub out : List RoutedValue
  pub puts : List Bool
  pub told : List FaceTold
  pub added : List AddedAt
  pub begun : List BegunAt

-- the gate after a step, and the effects
pub record PeerStep : Type 0 where
  pub gate : PeerGate
  pub effects : PeerEffects

abbrev pub no_effects : PeerEffects
no_effects = record { out = []; puts = []; told = []; added = []; begun = [] }

abbrev pub with_more : PeerEffects → PeerEffects → PeerEffects
with_more first more = record {
  out = first.out ++ more.out;
  puts = first.puts ++ more.puts;
  told = first.told ++ more.told;
  added = first.added ++ more.added;
  begun = first.begun ++ more.begun;
}

-- nothing is done
abbrev pub stays_so : PeerGate → PeerStep
stays_so g = record { gate = g; effects = no_effects }

-- one step, and then another of the gate that it leaves
unfoldable pub and_then : PeerStep → (PeerGate → PeerStep) → PeerStep
and_then step next =
    record { gate = (next step.gate).gate; effects = with_more step.effects (next step.gate).effects }

-- a step for each of a list, one after the other
unfoldable pub in_turn : {X : Type 0} → (X → PeerGate → PeerStep) → List X → PeerGate → PeerStep
in_turn does [] g = stays_so g
in_turn does (x ∷ xs) g = and_then (does x g) (in_turn does xs)

-- something is told, and nothing done
abbrev pub tells : Face → Told → PeerGate → PeerStep
tells face told g = record {
  gate = g;
  effects = record no_effects { told = record { face = face; told = told } ∷ [] };
}

-- ---- out at a face

abbrev pub routed_at : Face → List SegmentValue → List RoutedValue
routed_at face segments = map (segment_at face) segments
