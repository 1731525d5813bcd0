-- What holds of each half, in other words than its definition's.

use Rattle.std.specs.Prelude.{◌≡◌, ◌≢◌, ℕ, ◌<◌, ◌≤◌, Bool, false, List, [], ◌∷◌, ◌++◌, map, Option, None, IsSomeAnd, IfSome, ◌⊎◌}
use Rattle.std.specs.List.{AllByRecursion, flat_map}
use Rattle.ltp_segment.specs.Reading.{segment_of}
use Rattle.contact_plan.specs.Windows.{IsPlan}
use Rattle.gate_cases.specs.declared.face.Face.{Face}
use Rattle.gate_cases.specs.declared.face.Face.TheVariants as faces
use Rattle.gate_config.specs.declared.file.GateFile.{GateFile}
use Rattle.gateway_core.specs.declared.effects.Routed.{Routed}
use Rattle.gateway_core.specs.Gate.{if_same, at_face}
use Rattle.journal_file.specs.declared.kept.Pending.{Pending}
use Rattle.journal_file.specs.Legal.{IsLegal}
use Rattle.journal_file.specs.Values.{KeptValue}
use Rattle.outbox.specs.Laws.{IsOpenAt}
use Rattle.outbox.specs.Outbox.{octets_in}
use Rattle.outbox.specs.Schedule.{ScheduleValue}
use Rattle.outbox.specs.declared.reading.Reading.{Reading}
use Rattle.gate_face.specs.Faces.{FaceStanding}
use Rattle.gate_records.specs.Keeping.{NUMBERS}
use Rattle.peer_gateway.specs.declared.config.PeerConfig.{PeerConfig}
use Rattle.peer_gateway.specs.Gate.{PeerGate, PeerMoments, PeerStep}
use Rattle.peer_gateway.specs.Keys.{PeerSetup}
use Rattle.peer_gateway.specs.Steps.{PeerEvent, a_datagram, a_kept_piece, a_tick, peer_step}
use Rattle.peer_gateway.specs.Answers.{answer_of}
use Rattle.peer_gateway.specs.Laws.{put_at}
use Rattle.peer_gateway.specs.Views.{IsConfig, setup_with}
use Rattle.peer_records.specs.Keeping.{PeerKeeping, held, times, to_add_at}
use Rattle.peer_half.specs.Setup.{IsRunnable, setup_in, types_in, used_up}
use Rattle.peer_half.specs.Moments.{leaves_at, moments_at}
use Rattle.peer_half.specs.Standing.{Standing, face_of, wall_of}
use Rattle.peer_half.specs.Steps.{happens_again, step_of}
use Rattle.peer_half.specs.Acts.{Act, sent, lost, said, shown, committed, installed}
use Rattle.peer_half.specs.Parts.{is_added, next_at, next_resumed, reads, reserves, resumes_at, sends}
use Rattle.peer_half.specs.Half.{Came, half, hears}

-- ---- how a file sets up the gateway

-- A runnable file sets up a gateway as one is taken: whatever config of the code says the same. And residues and
-- wraps have the types that it says.
pub record SetsUp (file : GateFile) (kept : Option KeptValue) (wall : ℕ) : Type 0 where
  pub config : (config : PeerConfig) → setup_with config ≡ setup_in file kept wall → IsConfig config
  pub residue : (types_in file.blocks).residue ≡ (file.blocks).residue_block
  pub wrap : (types_in file.blocks).wrap ≡ (file.blocks).wrap_block

abbrev pub RunnableSetsUp : Type 0
RunnableSetsUp =
    (file : GateFile) (kept : Option KeptValue) (wall : ℕ)
    → IsRunnable file → used_up file kept wall ≡ None → SetsUp file kept wall

-- ---- the order of acts

-- an act of the last part of a half: a line, the journal's file made anew, and the metrics
abbrev pub IsTold : Act → Type 0
IsTold (sent face datagram) = ⊥
IsTold (lost face datagram) = ⊥
IsTold (said line) = Unit {0}
IsTold (shown text) = Unit {0}
IsTold (committed records) = ⊥
IsTold (installed kept) = Unit {0}

abbrev pub AreTold : List Act → Type 0
AreTold [] = Unit {0}
AreTold (act ∷ acts) = IsTold act × AreTold acts

-- nothing is committed, and once something is told, nothing goes out any more
abbrev pub GoFirst : List Act → Type 0
GoFirst [] = Unit {0}
GoFirst (sent face datagram ∷ acts) = GoFirst acts
GoFirst (lost face datagram ∷ acts) = GoFirst acts
GoFirst (said line ∷ acts) = AreTold acts
GoFirst (shown text ∷ acts) = AreTold acts
GoFirst (committed records ∷ acts) = ⊥
GoFirst (installed kept ∷ acts) = AreTold acts

-- where records are committed, that is the first
abbrev pub CommitFirst : List Act → Type 0
CommitFirst [] = Unit {0}
CommitFirst (sent face datagram ∷ acts) = GoFirst acts
CommitFirst (lost face datagram ∷ acts) = GoFirst acts
CommitFirst (said line ∷ acts) = AreTold acts
CommitFirst (shown text ∷ acts) = AreTold acts
CommitFirst (committed records ∷ acts) = GoFirst acts
CommitFirst (installed kept ∷ acts) = AreTold acts

-- in each half its records are committed at once and before anything goes out, and all that goes out
-- goes before its first line is written
abbrev pub DatagramsGoFirst : Type 0
DatagramsGoFirst =
    (board : Bool) (face : Face) (came : Came) (s : Standing)
    → CommitFirst (half board face came s).acts

-- ---- what goes out

-- the datagrams that went out at a face, sent or lost, in order
abbrev pub tried_by : Face → Act → List (List ℕ)
tried_by at (sent face datagram) = if_same face at (datagram ∷ []) []
tried_by at (lost face datagram) = if_same face at (datagram ∷ []) []
tried_by at (said line) = []
tried_by at (shown text) = []
tried_by at (committed records) = []
tried_by at (installed kept) = []

abbrev pub tried_at : Face → List Act → List (List ℕ)
tried_at at acts = flat_map (tried_by at) acts

-- what waits at a face
abbrev pub waiting_at : Face → Standing → List (List ℕ)
waiting_at face s = ((face_of face s).outbox).waiting

-- when a face sends: what went out, and after it what still waits, is what waited, in order
abbrev pub GoesInOrder : Type 0
GoesInOrder =
    (face : Face) (failing : List Bool) (s : Standing)
    → tried_at face (sends face failing s).acts ++ waiting_at face (sends face failing s).standing
    ≡ waiting_at face s

-- where a datagram goes out at a face, sent or lost, the face's link is open at the half's reading
abbrev pub GoesInContact : Type 0
GoesInContact =
    (board : Bool) (face : Face) (came : Came) (s : Standing) (at : Face)
    → (tried_at at (half board face came s).acts ≡ [])
    ⊎ IsOpenAt ((face_of at s).outbox).schedule (came.reading).wall

-- ---- the moments of a half

-- Until what goes at a face leaves it, by the wall clock: the first moment from now on at which the face's link
-- is open; now, where there is none.
pub record Leaves (s : ScheduleValue) (wall leaves : ℕ) : Type 0 where
  pub later : wall ≤ leaves
  pub closed : (moment : ℕ) → wall ≤ moment → moment < leaves → IsOpenAt s moment → ⊥
  pub open_then : IsOpenAt s leaves ⊎ ((moment : ℕ) → wall ≤ moment → IsOpenAt s moment → ⊥)

abbrev pub LeavesWhenOpen : Type 0
LeavesWhenOpen = (s : ScheduleValue) (wall : ℕ) → IsPlan s.windows → Leaves s wall (leaves_at s wall)

-- The moments of a half: the wall clock is that of its reading, each face's moment is that of its own time, and
-- what goes leaves by its own contacts.
pub record AreOfHalf (now : Reading) (before after : Standing) (face : Face) : Type 0 where
  pub wall : wall_of after ≡ now.wall
  pub at : IsSomeAnd (face_of face after).time (λ t. t.moment ≡ (after.moments).at face)
  pub leaves : (after.moments).leaves face ≡ leaves_at ((face_of face before).outbox).schedule now.wall

abbrev pub ReadsMoments : Type 0
ReadsMoments = (now : Reading) (s : Standing) (face : Face) → AreOfHalf now s (reads now s) face

-- ---- the events of a half

-- the gate after events, the oldest first, all at the same moments, each with so many octets in the outboxes
unfoldable pub gate_past : PeerSetup → PeerMoments → List (PeerEvent × (ℕ × ℕ)) → PeerGate → PeerGate
gate_past s m [] g = g
gate_past s m (event ∷ more) g = gate_past s m more (peer_step s event.0 m event.1 g).gate

abbrev pub IsKeptPiece : PeerEvent × (ℕ × ℕ) → Type 0
IsKeptPiece event =
    (face : Face) × ((octets : List ℕ) × ((came : Option ℕ) × (event.0 ≡ a_kept_piece face octets came)))

abbrev pub event_in : PeerEvent × (ℕ × ℕ) → PeerEvent
event_in event = event.0

-- What the gate does in a half: pieces of earlier runs are added; one tick comes; and then each datagram, in order,
-- at the half's face. All of it is at the moments of the half's reading, and the setup stays.
pub record HearsAtOnce (face : Face) (came : Came) (s after : Standing)
    (again rest : List (PeerEvent × (ℕ × ℕ))) : Type 0 where
  pub setup : after.setup ≡ s.setup
  pub moments : after.moments ≡ moments_at came.reading s.faces
  pub kept : AllByRecursion IsKeptPiece again
  pub comes : map event_in rest
      ≡ a_tick ∷ map (λ (datagram : List ℕ). a_datagram face (segment_of datagram)) came.datagrams
  pub gate : after.gate ≡ gate_past s.setup (moments_at came.reading s.faces) (again ++ rest) s.gate

abbrev pub EventsAtOnce : Type 0
EventsAtOnce =
    (face : Face) (came : Came) (s : Standing)
    → (again : List (PeerEvent × (ℕ × ℕ))) × ((rest : List (PeerEvent × (ℕ × ℕ)))
    × HearsAtOnce face came s (hears face came s) again rest)

-- ---- memory

-- the octets of the datagrams that wait at a face
abbrev pub outbox_at : Face → Standing → ℕ
outbox_at face s = octets_in (waiting_at face s)

-- A face's outbox takes as many octets as the gate knows of, and no more wait there.
pub record IsFitted (face : Face) (s : Standing) : Type 0 where
  pub limit : ((face_of face s).outbox).limit ≡ ((at_face (s.setup).keys face).bounds).outbox
  pub within : outbox_at face s ≤ ((face_of face s).outbox).limit

-- With an event, at a face that is so: what waits there is what waited, and after it what the gate puts, in order:
-- none of that is dropped. The outbox has as many octets then as the gate counts; and the face stays so.
pub record PutsCounted (face : Face) (step : PeerStep) (before after : Standing) : Type 0 where
  pub waits : waiting_at face after
      ≡ waiting_at face before ++ put_at face (answer_of step.effects).puts (answer_of step.effects).out
  pub counted : outbox_at face after ≡ (at_face (after.gate).faces face).queued
  pub fitted : IsFitted face after

abbrev pub PutsAsCounted : Type 0
PutsAsCounted =
    (again : Option ℕ) (event : PeerEvent) (s : Standing) (face : Face)
    → IsFitted face s → PutsCounted face (step_of event s) s (happens_again again event s)

-- the datagrams that a step made at a face
abbrev pub datagrams_at : Face → List Routed → List (List ℕ)
datagrams_at face out =
    flat_map (λ (routed : Routed). if_same routed.face face (routed.datagram ∷ []) []) out

abbrev pub waits_in : Face → FaceStanding × FaceStanding → List (List ℕ)
waits_in face fs = ((at_face fs face).outbox).waiting

abbrev pub dropped_in : Face → FaceStanding × FaceStanding → ℕ
dropped_in face fs = ((at_face fs face).outbox).dropped

-- ---- pieces of earlier runs

-- Of the pieces of earlier runs that are to be added at a face those in front are, in order, each once: after that
-- they are held, and no longer to be added. At the other face as many are to be added as before. All stay pending.
pub record AddsFront (face : Face) (before after : PeerKeeping) (first : List Pending) : Type 0 where
  pub front : to_add_at face before ≡ first ++ to_add_at face after
  pub once : AllByRecursion (λ (p : Pending). times p.id (held after) ≡ 1) first
  pub other : (at : Face) → at ≢ face → to_add_at at after ≡ to_add_at at before
  pub pending : (after.kept).pending ≡ (before.kept).pending

abbrev pub AddsInOrder : Type 0
AddsInOrder =
    (face : Face) (s : Standing)
    → IfSome s.journal (λ before. IsLegal ((before.recorded).keeping).kept
    → IsSomeAnd (resumes_at face s).journal (λ after. (first : List Pending)
    × AddsFront face (before.recorded).keeping (after.recorded).keeping first))

-- then there is no room for the first of those that are left
abbrev pub AddsWhileRoom : Type 0
AddsWhileRoom =
    (face : Face) (s : Standing)
    → IfSome s.journal (λ before. IsLegal ((before.recorded).keeping).kept
    → IfSome (next_resumed face (resumes_at face s)) (λ p. is_added p (resumes_at face s) ≡ false))

-- ---- numbers

-- what a half commits reserves all numbers that sessions have been given at each face
abbrev pub GivenIsReserved : Type 0
GivenIsReserved =
    (s : Standing) → next_at faces.Old s ≤ NUMBERS → next_at faces.New s ≤ NUMBERS
    → IfSome (reserves s).journal (λ j.
    (next_at faces.Old s ≤ (((j.recorded).keeping).kept).old_reserved)
    × (next_at faces.New s ≤ (((j.recorded).keeping).kept).new_reserved))
