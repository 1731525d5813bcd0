-- What holds of the steps.

use Rattle.std.specs.Prelude.{◌≡◌, ◌≢◌, ℕ, ◌+◌, ◌^◌, ◌<◌, ◌≤◌, nat_le, Bool, true, if◌then◌else◌, List, [], ◌∷◌, ◌++◌, map, length, take, drop, Option, Some, None, is_some, IfSome}
use Rattle.std.specs.List.{All, AllByRecursion, flat_map, filter, sum_by}
use Rattle.wire_fields.specs.Reading.{IsOctets}
use Rattle.bundle6.specs.Spelling.{IsCounted}
use Rattle.bundle_meaning.specs.declared.full.Full.{Full}
use Rattle.translate.specs.Legal.{IsSized6, AreSized7}
use Rattle.translate.specs.Refusals.{first_that_holds}
use Rattle.translate.specs.Sound.{IsSound}
use Rattle.translate.specs.Translation.{HasLifetime}
use Rattle.translate.specs.View6.{view6_of}
use Rattle.translate.specs.View7.{view7_of}
use Rattle.ltp_segment.specs.Spelling.{segment_octets}
use Rattle.ltp_segment.specs.Values.{ContentValue, SegmentValue, a_piece, a_report, a_report_ack, a_sender_cancel, a_sender_cancel_ack, a_receiver_cancel, a_receiver_cancel_ack}
use Rattle.ltp_session.specs.Engine.{Engine, UpValue, submit_fault}
use Rattle.piece_gathering.specs.declared.piece.Piece.{Piece}
use Rattle.piece_gathering.specs.Gathered.{GatheringValue, front_in, is_complete, ready}
use Rattle.gate_cases.specs.declared.face.Face.{Face}
use Rattle.gate_cases.specs.declared.face.Face.TheVariants as faces
use Rattle.gate_cases.specs.Faces.{fits_at}
use Rattle.block_types.specs.Relabelled.{relabelled6}
use Rattle.bundle_age.specs.Raised.{raised_by}
use Rattle.bundle_rows.specs.declared.next.End.{End}
use Rattle.bundle_rows.specs.Rows.{row_of}
use Rattle.face_room.specs.declared.bounds.TheConstants.{BLOCK_MAX, HEADER_MAX, NUMBERS}
use Rattle.face_room.specs.Bounds.{half, need}
use Rattle.face_room.specs.Queues.{puts}
use Rattle.gateway_core.specs.declared.effects.Routed.{Routed}
use Rattle.gateway_core.specs.Effects.{routed_of}
use Rattle.gateway_core.specs.Gate.{at_face, if_same}
use Rattle.peer_cases.specs.declared.settings.PeerSettings.{PeerSettings}
use Rattle.peer_cases.specs.Arrivals.{Came}
use Rattle.peer_cases.specs.Pieces.{wire_octets, greatest_size}
use Rattle.peer_cases.specs.Rows.{came_in, bundles_in}
use Rattle.peer_sessions.specs.Keys.{FaceKeys}
use Rattle.peer_sessions.specs.Sessions.{SessionsStep, block_begins}
use Rattle.peer_gateway.specs.Keys.{PeerSetup, AreKeys}
use Rattle.peer_gateway.specs.Gate.{PeerMoments, PeerFace, PeerGate, PeerStep, Told, FaceTold, AddedAt, BegunAt, stays_so, and_then, in_turn, tells, is_at, kept_inside, octets_out, sizes_out}
use Rattle.peer_gateway.specs.Gate.{told_engine, told_forgotten, told_green, told_began, told_bundle, told_case, told_left, told_reported, told_unreported, told_end}
use Rattle.peer_gateway.specs.Going.{stay_of, going_octets, is_free, next_count, block_of, no_time, go, adds}
use Rattle.peer_gateway.specs.Steps.{passes, has_ended, arrives_with, ticks_peer, PeerEvent, does}

-- ---- what is ready waits only where no session is free

-- while a session is free at a face, nothing waits there that was ready at a moment
abbrev pub NothingGoes : PeerSetup → Face → ℕ → PeerGate → Type 0
NothingGoes s face until g =
    is_free (at_face s.keys face) (at_face g.faces face) ≡ true
    → ready (at_face g.faces face).gathering until ≡ 0

-- after a piece was added, at its face
abbrev pub CompleteGoes : Type 0
CompleteGoes = (s : PeerSetup) (face : Face) (m : PeerMoments) (is_report : Bool) (piece : Piece)
    → (g : PeerGate) → NothingGoes s face no_time (adds s face m is_report piece g).gate

-- what is ready before any time has passed is complete, where pieces wait for some time
abbrev pub CompleteAtOnce : Type 0
CompleteAtOnce = (g : GatheringValue) → 1 ≤ g.wait_ms
    → ready g no_time ≡ (if is_complete g then (front_in g).count else 0)

-- after a tick, at both faces; and after a step in which a session ended that was being sent, at its face
pub record ReadyGoes : Type 0 where
  pub ticked : (s : PeerSetup) (m : PeerMoments) (face : Face) (g : PeerGate)
      → NothingGoes s face (m.at face) (ticks_peer s m g).gate
  pub ended : (s : PeerSetup) (m : PeerMoments) (face : Face) (g : PeerGate) (step : SessionsStep)
      → has_ended (at_face g.faces face).sessions step ≡ true
      → NothingGoes s face (m.at face) (arrives_with s face m g step).gate

-- ---- pieces go in order

-- Blocks that began at a face are these pieces, in order, each as it goes at a moment of the wall clock; and
-- those are left.
unfoldable pub AreBlocksOf : PeerSettings → Face → ℕ → List BegunAt → List Piece → List Piece → Type 0
AreBlocksOf s face leaves [] pieces left = left ≡ pieces
AreBlocksOf s face leaves (b ∷ begun) pieces left =
    (0 < b.pieces) × (b.pieces ≤ length pieces)
    × (b.block ≡ flat_map (going_octets s face leaves) (take b.pieces pieces))
    × AreBlocksOf s face leaves begun (drop b.pieces pieces) left

-- at a face: the blocks that began, the pieces that were added, and those that wait
abbrev pub begun_at : Face → List BegunAt → List BegunAt
begun_at face begun = filter (λ (b : BegunAt). is_at face b.face) begun

abbrev pub added_at : Face → List AddedAt → List Piece
added_at face added =
    map (λ (a : AddedAt). a.piece) (filter (λ (a : AddedAt). is_at face a.face) added)

abbrev pub waiting_at : Face → PeerGate → List Piece
waiting_at face g = ((at_face g.faces face).gathering).waiting

-- What waited and what was added at a face went in this order, each once, or waits.
abbrev pub GoInOrder : PeerSetup → PeerMoments → Face → PeerGate → PeerStep → Type 0
GoInOrder s m face g step =
    AreBlocksOf s.settings face (m.leaves face) (begun_at face (step.effects).begun)
    (waiting_at face g ++ added_at face (step.effects).added) (waiting_at face step.gate)

abbrev pub PiecesInOrder : Type 0
PiecesInOrder = (s : PeerSetup) (event : PeerEvent) (m : PeerMoments) (face : Face) (g : PeerGate)
    → GoInOrder s m face g (does s event m g)

-- ---- what goes isn't refused

-- a piece has an octet as it goes, at most as many as its size says, and a session carries those
pub record IsSizedAt (s : PeerSettings) (face : Face) (leaves : ℕ) (piece : Piece) : Type 0 where
  pub some : 0 < length (going_octets s face leaves piece)
  pub few : length (going_octets s face leaves piece) ≤ piece.size
  pub within : piece.size ≤ BLOCK_MAX

-- Where pieces go, a session is free for them and has a number; and the face's engine takes their block.
pub record IsTaken (s : PeerSetup) (face : Face) (m : PeerMoments) (until : ℕ) (f : PeerFace) : Type 0 where
  pub free : length ((f.sessions).engine).senders < ((at_face s.keys face).bounds).sessions
  pub number : ((f.sessions).engine).next < NUMBERS
  pub small : length (block_of s face m until f) ≤ BLOCK_MAX
  pub fault :
      submit_fault (at_face s.keys face).party (f.sessions).engine (block_of s face m until f) ≡ None

abbrev pub NothingRefused : Type 0
NothingRefused = (s : PeerSetup) (face : Face) (m : PeerMoments) (until : ℕ) (f : PeerFace)
    → AreKeys (at_face s.keys face)
    → All (IsSizedAt s.settings face (m.leaves face)) (f.gathering).waiting
    → next_count (at_face s.keys face) until f ≢ 0 → IsTaken s face m until f

-- ---- datagrams have small heads

-- the octets of data in a segment
abbrev pub data_of : ContentValue → ℕ
data_of (a_piece piece) = length piece.body
data_of (a_report report) = 0
data_of (a_report_ack serial) = 0
data_of (a_sender_cancel reason) = 0
data_of a_sender_cancel_ack = 0
data_of (a_receiver_cancel reason) = 0
data_of a_receiver_cancel_ack = 0

abbrev pub IsSmallHeaded : SegmentValue → Type 0
IsSmallHeaded segment = length (segment_octets segment) ≤ data_of segment.content + HEADER_MAX

-- Each datagram of a block that begins has at most so many octets besides its data; so the block and its
-- datagrams have at most as many as the block needs.
pub record HasSmallHeads (k : FaceKeys) (block : List ℕ) (out : List SegmentValue) : Type 0 where
  pub each : AllByRecursion IsSmallHeaded out
  pub all : length block + octets_out out ≤ need (k.bounds).segment (length block)

abbrev pub HeadsAreSmall : Type 0
HeadsAreSmall = (k : FaceKeys) (e : Engine) (block : List ℕ) (now : ℕ) → AreKeys k → e.next < NUMBERS
    → length block ≤ BLOCK_MAX → HasSmallHeads k block ((block_begins k e block now).effects).out

-- ---- datagrams are put when they are made

-- the datagrams that are put at a face, of those that were made, in order
unfoldable pub put_at : Face → List Bool → List Routed → List (List ℕ)
put_at at [] out = []
put_at at (is_put ∷ puts) [] = []
put_at at (is_put ∷ puts) (routed ∷ out) =
    (if is_put then if_same routed.face at (routed.datagram ∷ []) [] else []) ++ put_at at puts out

-- the octets of datagrams
abbrev pub octets_of : List (List ℕ) → ℕ
octets_of datagrams = sum_by (λ (datagram : List ℕ). length datagram) datagrams

-- Of each datagram that a step made it is said whether it is put; a face's outbox has the octets that it had, and
-- those of each datagram that was put there; and no more than may wait, where that was so before.
pub record IsQueued (k : FaceKeys) (at : Face) (g : PeerGate) (step : PeerStep) : Type 0 where
  pub each : length (step.effects).puts ≡ length (step.effects).out
  pub queued : (at_face (step.gate).faces at).queued
      ≡ (at_face g.faces at).queued + octets_of (put_at at (step.effects).puts (map routed_of (step.effects).out))
  pub within : (at_face g.faces at).queued ≤ (k.bounds).outbox
      → (at_face (step.gate).faces at).queued ≤ (k.bounds).outbox

abbrev pub QueuedIsPut : Type 0
QueuedIsPut = (s : PeerSetup) (event : PeerEvent) (m : PeerMoments) (at : Face) (g : PeerGate)
    → IsQueued (at_face s.keys at) at g (does s event m g)

-- ---- what a face keeps stays within half of its memory

-- all that it keeps of what it sends has at most so many octets
abbrev pub IsWithin : FaceKeys → PeerFace → Type 0
IsWithin k f = kept_inside k f + f.queued ≤ half k.bounds

-- Where pieces go at a face that is so, it stays so; and of their block each datagram is put, unless more octets
-- would wait then than the outbox takes.
pub record GoesWithin (s : PeerSetup) (face : Face) (m : PeerMoments) (until : ℕ) (g : PeerGate) : Type 0 where
  pub stays : IsWithin (at_face s.keys face) (at_face ((go s face m until g).gate).faces face)
  pub put : ((go s face m until g).effects).puts
      ≡ puts (λ octets. nat_le octets ((at_face s.keys face).bounds).outbox) (at_face g.faces face).queued
      (sizes_out ((block_begins (at_face s.keys face) ((at_face g.faces face).sessions).engine
      (block_of s face m until (at_face g.faces face)) (m.at face)).effects).out)

abbrev pub FirstsArePut : Type 0
FirstsArePut = (s : PeerSetup) (face : Face) (m : PeerMoments) (until : ℕ) (g : PeerGate)
    → AreKeys (at_face s.keys face)
    → All (IsSizedAt s.settings face (m.leaves face)) ((at_face g.faces face).gathering).waiting
    → next_count (at_face s.keys face) until (at_face g.faces face) ≢ 0
    → IsWithin (at_face s.keys face) (at_face g.faces face) → GoesWithin s face m until g

-- ---- ages are raised once

-- numbers count the octets in the parts of a record's bundle, as in every bundle of the program
abbrev pub AreCounted : PeerSettings → Face → Full → Type 0
AreCounted s faces.Old full =
    (All IsSized6 (view6_of full).blocks) × IsCounted (relabelled6 s.types (view6_of full))
AreCounted s faces.New full = AreSized7 (view7_of full)

-- a record may go at a face after a stay
pub record CanGo (s : PeerSettings) (face : Face) (stay : ℕ) (full : Full) : Type 0 where
  pub sound : IsSound full
  pub fits : fits_at face full ≡ true
  pub lifetime : HasLifetime full
  pub counted : AreCounted s face (raised_by stay full)

-- a bundle that came is seen as the record, without a refusal
abbrev pub IsOf : Full → Came → Type 0
IsOf full came = (first_that_holds (came.arrival).refusals ≡ None) × ((came.arrival).full ≡ full)

-- octets that read so
abbrev pub ReadAs : PeerSettings → Face → List ℕ → Full → Type 0
ReadAs s face octets full =
    IfSome (came_in s face octets) (IsOf full) × (is_some (came_in s face octets) ≡ true)

-- Where ages are raised, a piece that reads as a record goes as octets that read as the record with its age
-- raised by the stay, once.
abbrev pub AgeRaisedOnce : Type 0
AgeRaisedOnce = (s : PeerSettings) (face : Face) (leaves : ℕ) (piece : Piece) (full : Full)
    → s.raises ≡ true → CanGo s face (stay_of leaves piece) full → ReadAs s face piece.octets full
    → ReadAs s face (going_octets s face leaves piece) (raised_by (stay_of leaves piece) full)

-- A piece that was made of a record, and has the size that the record may have, has no more octets when it
-- goes, whenever that is.
abbrev pub SizedForAnyStay : Type 0
SizedForAnyStay = (s : PeerSettings) (face : Face) (full : Full) (piece : Piece) (leaves : ℕ)
    → ((stay : ℕ) → CanGo s face stay full) → piece.octets ≡ wire_octets s face full
    → piece.size ≡ greatest_size s face full → leaves < 2 ^ 64
    → length (going_octets s face leaves piece) ≤ piece.size

-- ---- rows

-- whatever the place in the row
abbrev pub without_place : Told → Told
without_place (told_engine note) = told_engine note
without_place (told_forgotten runs) = told_forgotten runs
without_place (told_green green) = told_green green
without_place (told_began pieces octets session) = told_began pieces octets session
without_place (told_bundle subject) = told_bundle subject
without_place (told_case index session case pieces first) = told_case None session case pieces first
without_place (told_left index session left) = told_left None session left
without_place (told_reported index session report) = told_reported None session report
without_place (told_unreported index session) = told_unreported None session
without_place (told_end index session end) = told_end None session end

abbrev pub told_without : FaceTold → FaceTold
told_without t = record { face = t.face; told = without_place t.told }

abbrev pub without_places : PeerStep → PeerStep
without_places step = record {
  gate = step.gate;
  effects = record (step.effects) {
    told = map told_without (step.effects).told;
  };
}

-- a block that was handed up in a session
abbrev pub block_in : ℕ → List ℕ → UpValue
block_in session octets = record { session = session; body = octets }

-- the end of a row, if there is one, is told
abbrev pub tells_end : Face → ℕ → Option End → PeerGate → PeerStep
tells_end face session None g = stays_so g
tells_end face session (Some end) g = tells face (told_end None session end) g

-- A block that came whole passes as its bundles do, each in a block of its own, one after the other, and then
-- its end; what is told is the same too, but for the places in the row. Each bundle is decided about by the
-- room that the one before it left.
abbrev pub RowsPassInTurn : Type 0
RowsPassInTurn = (s : PeerSetup) (face : Face) (m : PeerMoments) (session : ℕ) (block : List ℕ) (g : PeerGate)
    → IsOctets block
    → without_places (passes s face m (block_in session block) g)
    ≡ without_places (and_then
    (in_turn (λ (octets : List ℕ). passes s face m (block_in session octets)) (bundles_in face block) g)
    (tells_end face session (row_of face block).end))
