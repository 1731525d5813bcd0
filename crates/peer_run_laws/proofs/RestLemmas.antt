-- What a face keeps at a moment at which a tick came: nothing is due there.

use Rattle.std.proofs.Common.{◌≡◌, ℕ, zero, suc, ◌+◌, ◌-◌, ◌<◌, ◌≤◌, nat_lt, ◌==◌, ◌||◌, Bool, true, false, if◌then◌else◌, List, [], ◌∷◌, ◌++◌, length, drop, All, Option, Some, None, Result, ◌⊎◌, inl, inr, refl, sym, ap, subst, ◌∙◌, arith}
use Rattle.std.proofs.lemmas.Bool.{and_parts, ltb-true, ltb-false, lt-ltb, lt-leb}
use Rattle.std.proofs.lemmas.List.Elements.{All-head, All-drop, All-push}
use Rattle.ltp_segment.specs.declared.fault.SegmentCause.{SegmentCause}
use Rattle.ltp_segment.specs.Values.{SegmentValue}
use Rattle.ltp_session.specs.Engine.{EngineStep, UpValue}
use Rattle.piece_gathering.specs.declared.piece.Piece.{Piece}
use Rattle.piece_gathering.specs.Gathered.{GatheringValue, front_in, is_complete, is_late, ready}
use Rattle.piece_gathering.specs.Laws.{AreSince, NoneWaitsLate}
use Rattle.piece_gathering.proofs.FrontLemmas.{is-front}
use Rattle.gate_cases.specs.declared.face.Face.{Face}
use Rattle.gate_cases.specs.declared.face.Face.TheVariants as faces
use Rattle.gate_cases.specs.declared.report.AskedReport.{AskedReport}
use Rattle.gate_cases.specs.Faces.{other_of}
use Rattle.block_types.specs.declared.losing.LeftOut.{LeftOut}
use Rattle.face_room.specs.declared.bounds.TheConstants.{NUMBERS}
use Rattle.gateway_core.specs.Gate.{at_face}
use Rattle.peer_cases.specs.declared.pieces.SizedPiece.{SizedPiece}
use Rattle.peer_cases.specs.Arrivals.{Came}
use Rattle.peer_cases.specs.Cases.{is_unreported}
use Rattle.peer_cases.specs.Rows.{Item, a_bundle, an_end, came_in, items_of}
use Rattle.peer_sessions.specs.Keys.{FaceKeys}
use Rattle.peer_sessions.specs.Laws.{NoneIsStale}
use Rattle.peer_sessions.specs.Sessions.{Sessions, SessionsStep, block_begins, hears, stale, ticks}
use Rattle.peer_gateway.specs.Keys.{PeerSetup}
use Rattle.peer_gateway.specs.Gate.{PeerFace, PeerGate, PeerMoments, PeerStep, and_then, in_turn, room_at, stays_so, tells, told_unreported}
use Rattle.peer_gateway.specs.Going.{adds, after_block, block_of, go, go_all, go_on, is_free, next_count, no_time, piece_at, waits_too}
use Rattle.peer_gateway.specs.Steps.{PeerEvent, a_datagram, a_kept_piece, a_tick, adds_all, adds_kept, answers, arrives_peer, arrives_with, decided_at, decides, does, does_at, due_if, has_ended, has_room_at, hears_at, kept_piece, passes, passes_came, passes_item, peer_step, report_piece, reports, tells_left, ticks_face, ticks_peer, with_outboxes}
use Rattle.peer_gateway.specs.Laws.{CompleteGoes, ReadyGoes}
use Rattle.peer_run_laws.specs.Ticks.{NothingIsDue, TimersWait}
use Rattle.peer_run_laws.proofs.AheadLemmas.{IsAhead, begins-ahead, hears-ahead_at, ticks-ahead}

-- ---- pieces that were added one after the other, till a moment

abbrev pub Since : ℕ → ℕ → List Piece → Type 0
Since from to [] = from ≤ to
Since from to (piece ∷ pieces) = (from ≤ piece.added) × Since piece.added to pieces

since-lower : (from low to : ℕ) (pieces : List Piece) → low ≤ from → Since from to pieces → Since low to pieces
since-lower from low to [] lower so = omega (arith, lower, so)
since-lower from low to (piece ∷ pieces) lower so = let first = so.0 in (omega (arith, lower, first), so.1)

pub since-later : (from to late : ℕ) (pieces : List Piece) → to ≤ late → Since from to pieces → Since from late pieces
since-later from to late [] later so = omega (arith, later, so)
since-later from to late (piece ∷ pieces) later so = (so.0, since-later piece.added to late pieces later so.1)

since-push : (from to : ℕ) (pieces : List Piece) (piece : Piece) → piece.added ≡ to → Since from to pieces → Since from to (pieces ++ piece ∷ [])
since-push from to [] piece is so = (omega (arith, is, so), omega (arith, is))
since-push from to (first ∷ pieces) piece is so = (so.0, since-push first.added to pieces piece is so.1)

since-drop : (from to n : ℕ) (pieces : List Piece) → Since from to pieces → Since from to (drop n pieces)
since-drop from to zero pieces so = so
since-drop from to (suc n) [] so = so
since-drop from to (suc n) (piece ∷ pieces) so = since-lower piece.added from to (drop n pieces) so.0 (since-drop piece.added to n pieces so.1)

since-are : (from to : ℕ) (pieces : List Piece) → Since from to pieces → AreSince from pieces
since-are from to [] so = tt
since-are from to (piece ∷ pieces) so = (so.0, since-are piece.added to pieces so.1)

-- ---- a face

-- its pieces were added one after the other, till this moment, and may wait for so long
pub record IsSorted (wait now : ℕ) (f : PeerFace) : Type 0 where
  pub since : Since 0 now (f.gathering).waiting
  pub wait_is : (f.gathering).wait_ms ≡ wait

-- besides, its deadlines are after the moment, and none of its sessions is stale
pub record IsCalm (k : FaceKeys) (now : ℕ) (f : PeerFace) : Type 0 where
  pub sorted : IsSorted k.wait_ms now f
  pub ahead : IsAhead now ((f.sessions).engine).next (f.sessions).engine
  pub unstale : stale k now f.sessions ≡ []

-- and while a session is free, no piece is ready
abbrev pub IsSettled : FaceKeys → ℕ → PeerFace → Type 0
IsSettled k now f = is_free k f ≡ true → ready f.gathering now ≡ 0

pub record IsRested (k : FaceKeys) (now : ℕ) (f : PeerFace) : Type 0 where
  pub calm : IsCalm k now f
  pub settled : IsSettled k now f

-- ---- what holds of a gate, holds after parts of a step

-- it holds after a report was counted, and after a piece was added now
pub record KeptByAdding (s : PeerSetup) (m : PeerMoments) (Holds : PeerGate → Type 0) : Type 0 where
  pub counting : (g : PeerGate) → Holds g → Holds (record g { counter = g.counter + 1 })
  pub adding : (face : Face) (is_report : Bool) (piece : Piece) (g : PeerGate) → piece.added ≡ m.at face → Holds g
      → Holds (adds s face m is_report piece g).gate

abbrev pub Stays : (PeerGate → Type 0) → (PeerGate → PeerStep) → Type 0
Stays Holds step = (g : PeerGate) → Holds g → Holds (step g).gate

turn-stays : {X : Type 0} (Holds : PeerGate → Type 0) (step : X → PeerGate → PeerStep) → ((x : X) → Stays Holds (step x)) → (xs : List X) → Stays Holds (in_turn step xs)
unfolding in_turn and_then
turn-stays Holds step each [] g so = so
turn-stays Holds step each (x ∷ xs) g so = turn-stays Holds step each xs (step x g).gate (each x g so)

answers-stay : (s : PeerSetup) (m : PeerMoments) (Holds : PeerGate → Type 0) → KeptByAdding s m Holds → (face : Face) (index : Option ℕ) (session : ℕ) (asked : Option AskedReport)
    → Stays Holds (answers s face m index session asked)
unfolding answers and_then
answers-stay s m Holds kept face index session None g so = so
answers-stay s m Holds kept face index session (Some asked) g so =
    by (is_unreported (room_at (at_face s.keys face) (at_face g.faces face)) (report_piece s m asked g).size m.wall g.counter)
  where
    piece : SizedPiece
    piece = report_piece s m asked g

    by : (t : Bool) → Holds (if t then tells face (told_unreported index session) g else reports s face m index session piece g).gate
    by true = so
    by false = kept.adding face true (piece_at m face piece) (record g { counter = g.counter + 1 }) refl (kept.counting g so)

left-stays : (Holds : PeerGate → Type 0) (face : Face) (index : Option ℕ) (session : ℕ) (left : Option LeftOut) → Stays Holds (tells_left face index session left)
left-stays Holds face index session None g so = so
left-stays Holds face index session (Some left) g so = so

came-stays : (s : PeerSetup) (m : PeerMoments) (Holds : PeerGate → Type 0) → KeptByAdding s m Holds → (face : Face) (index : Option ℕ) (session : ℕ) (came : Option Came)
    → Stays Holds (passes_came s face m index session came)
unfolding decides and_then
came-stays s m Holds kept face index session None g so = so
came-stays s m Holds kept face index session (Some came) g so =
    let d = decided_at s face m came g in
    let to = other_of face in
    let h = (adds_all s to m d.pieces g).gate in
    let added = turn-stays Holds (λ (piece : SizedPiece). adds s to m false (piece_at m to piece))
    (λ (piece : SizedPiece) (x : PeerGate) (is : Holds x). kept.adding to false (piece_at m to piece) x refl is) d.pieces g so in
    answers-stay s m Holds kept face index session d.report (tells_left face index session d.left h).gate (left-stays Holds face index session d.left h added)

item-stays : (s : PeerSetup) (m : PeerMoments) (Holds : PeerGate → Type 0) → KeptByAdding s m Holds → (face : Face) (session : ℕ) (item : Item)
    → Stays Holds (passes_item s face m session item)
unfolding and_then
item-stays s m Holds kept face session (a_bundle index octets) g so = came-stays s m Holds kept face index session (came_in s.settings face octets) g so
item-stays s m Holds kept face session (an_end index end) g so = so

-- after the blocks that a datagram hands up
ups-stay : (s : PeerSetup) (m : PeerMoments) (Holds : PeerGate → Type 0) → KeptByAdding s m Holds → (face : Face) (ups : List UpValue)
    → Stays Holds (in_turn (passes s face m) ups)
ups-stay s m Holds kept face ups =
    turn-stays Holds (passes s face m)
    (λ (up : UpValue). turn-stays Holds (passes_item s face m up.session) (item-stays s m Holds kept face up.session) (items_of face up.body)) ups

-- after a piece of an earlier run
kept-stays : (s : PeerSetup) (m : PeerMoments) (Holds : PeerGate → Type 0) → KeptByAdding s m Holds → (face : Face) (octets : List ℕ) (came : Option ℕ)
    → Stays Holds (adds_kept s face (kept_piece s face octets came m) m)
kept-stays s m Holds kept face octets came g so = by (has_room_at (room_at (at_face s.keys face) (at_face g.faces face)) piece.size)
  where
    piece : Piece
    piece = kept_piece s face octets came m

    by : (t : Bool) → Holds (if t then adds s face m false piece g else stays_so g).gate
    by true = kept.adding face false piece g refl so
    by false = so

-- blocks go
pub going-stays : (s : PeerSetup) (m : PeerMoments) (Holds : PeerGate → Type 0) (face : Face) (until : ℕ) → Stays Holds (go s face m until) → (n : ℕ) → Stays Holds (go_on s face m until n)
unfolding go_on and_then
going-stays s m Holds face until goes zero g so = so
going-stays s m Holds face until goes (suc n) g so =
    by (next_count (at_face s.keys face) until (at_face g.faces face) == 0) (going-stays s m Holds face until goes n (go s face m until g).gate (goes g so))
  where
    by : (t : Bool) → Holds (go_on s face m until n (go s face m until g).gate).gate
        → Holds (if t then stays_so g else and_then (go s face m until g) (go_on s face m until n)).gate
    by true rest = so
    by false rest = rest

-- ---- what every step keeps

pub record IsKept (s : PeerSetup) (m : PeerMoments) (Holds : PeerGate → Type 0) : Type 0 where
  pub adding : KeptByAdding s m Holds
  pub going : (face : Face) (until : ℕ) (g : PeerGate) → Holds g → Holds (go s face m until g).gate
  pub hearing : (face : Face) (read : Result SegmentValue (ℕ × SegmentCause)) (g : PeerGate) → Holds g
      → Holds (does_at s face g (hears_at s face g read (m.at face))).gate
  pub ticking : (face : Face) (g : PeerGate) → Holds g
      → Holds (does_at s face g (ticks (at_face s.keys face) (at_face g.faces face).sessions (m.at face))).gate

all-stay : (s : PeerSetup) (m : PeerMoments) (Holds : PeerGate → Type 0) → IsKept s m Holds → (face : Face) (until : ℕ) → Stays Holds (go_all s face m until)
all-stay s m Holds kept face until g so =
    going-stays s m Holds face until (λ (x : PeerGate) (is : Holds x). kept.going face until x is) (length ((at_face g.faces face).gathering).waiting) g so

due-stays : (s : PeerSetup) (m : PeerMoments) (Holds : PeerGate → Type 0) → IsKept s m Holds → (ended : Bool) (face : Face) → Stays Holds (due_if ended s m face)
due-stays s m Holds kept true face g so = all-stay s m Holds kept face (m.at face) g so
due-stays s m Holds kept false face g so = so

tick-stays : (s : PeerSetup) (m : PeerMoments) (Holds : PeerGate → Type 0) → IsKept s m Holds → (face : Face) → Stays Holds (ticks_face s m face)
unfolding and_then
tick-stays s m Holds kept face g so =
    let step = ticks (at_face s.keys face) (at_face g.faces face).sessions (m.at face) in
    all-stay s m Holds kept face (m.at face) (does_at s face g step).gate (kept.ticking face g so)

events-stay : (s : PeerSetup) (m : PeerMoments) (Holds : PeerGate → Type 0) → IsKept s m Holds → (event : PeerEvent) → Stays Holds (does s event m)
unfolding arrives_peer ticks_peer and_then
events-stay s m Holds kept (a_datagram face read) g so =
    let step = hears_at s face g read (m.at face) in
    let h = (does_at s face g step).gate in
    let i = (in_turn (passes s face m) (step.effects).ups h).gate in
    due-stays s m Holds kept (has_ended (at_face g.faces face).sessions step) face i
    (ups-stay s m Holds kept.adding face (step.effects).ups h (kept.hearing face read g so))
events-stay s m Holds kept a_tick g so =
    tick-stays s m Holds kept faces.New (ticks_face s m faces.Old g).gate (tick-stays s m Holds kept faces.Old g so)
events-stay s m Holds kept (a_kept_piece face octets came) g so = kept-stays s m Holds kept.adding face octets came g so

-- ---- its pieces stay sorted

abbrev pub SortedAt : PeerSetup → PeerMoments → Face → PeerGate → Type 0
SortedAt s m at g = IsSorted (at_face s.keys at).wait_ms (m.at at) (at_face g.faces at)

sorted-block : (k : FaceKeys) (wait now : ℕ) (f : PeerFace) (until : ℕ) (step : EngineStep) → IsSorted wait now f → IsSorted wait now (after_block k f until step)
sorted-block k wait now f until step so =
    record { since = since-drop 0 now (ready f.gathering until) (f.gathering).waiting so.since; wait_is = so.wait_is }

sorted-go : (s : PeerSetup) (m : PeerMoments) (at face : Face) (until : ℕ) (g : PeerGate) → SortedAt s m at g → SortedAt s m at (go s face m until g).gate
unfolding go
sorted-go s m faces.Old faces.Old until g so = sorted-block s.keys.0 s.keys.0.wait_ms (m.at faces.Old) g.faces.0 until (block_begins s.keys.0 ((g.faces.0.sessions).engine) (block_of s faces.Old m until g.faces.0) (m.at faces.Old)) so
sorted-go s m faces.Old faces.New until g so = so
sorted-go s m faces.New faces.Old until g so = so
sorted-go s m faces.New faces.New until g so = sorted-block s.keys.1 s.keys.1.wait_ms (m.at faces.New) g.faces.1 until (block_begins s.keys.1 ((g.faces.1.sessions).engine) (block_of s faces.New m until g.faces.1) (m.at faces.New)) so

sorted-waits : (s : PeerSetup) (m : PeerMoments) (at face : Face) (is_report : Bool) (piece : Piece) (g : PeerGate) → piece.added ≡ m.at face → SortedAt s m at g
    → SortedAt s m at (waits_too face piece is_report g).gate
sorted-waits s m faces.Old faces.Old is_report piece g is so =
    record { since = since-push 0 (m.at faces.Old) (g.faces.0.gathering).waiting piece is so.since; wait_is = so.wait_is }
sorted-waits s m faces.Old faces.New is_report piece g is so = so
sorted-waits s m faces.New faces.Old is_report piece g is so = so
sorted-waits s m faces.New faces.New is_report piece g is so =
    record { since = since-push 0 (m.at faces.New) (g.faces.1.gathering).waiting piece is so.since; wait_is = so.wait_is }

sorted-adds : (s : PeerSetup) (m : PeerMoments) (at face : Face) (is_report : Bool) (piece : Piece) (g : PeerGate) → piece.added ≡ m.at face → SortedAt s m at g
    → SortedAt s m at (adds s face m is_report piece g).gate
unfolding adds and_then
sorted-adds s m at face is_report piece g is so =
    let h = (waits_too face piece is_report g).gate in
    going-stays s m (SortedAt s m at) face no_time (λ (x : PeerGate) (y : SortedAt s m at x). sorted-go s m at face no_time x y)
    (length ((at_face h.faces face).gathering).waiting) h (sorted-waits s m at face is_report piece g is so)

-- what its sessions do doesn't touch them
sorted-does : (s : PeerSetup) (m : PeerMoments) (at face : Face) (step : SessionsStep) (g : PeerGate) → SortedAt s m at g → SortedAt s m at (does_at s face g step).gate
sorted-does s m faces.Old faces.Old step g so = record { since = so.since; wait_is = so.wait_is }
sorted-does s m faces.Old faces.New step g so = so
sorted-does s m faces.New faces.Old step g so = so
sorted-does s m faces.New faces.New step g so = record { since = so.since; wait_is = so.wait_is }

sorted-kept : (s : PeerSetup) (m : PeerMoments) (at : Face) → IsKept s m (SortedAt s m at)
sorted-kept s m at = record {
  adding = record {
    counting = λ g so. so;
    adding = λ face is_report piece g is so. sorted-adds s m at face is_report piece g is so;
  };
  going = λ face until g so. sorted-go s m at face until g so;
  hearing = λ face read g so. sorted-does s m at face (hears_at s face g read (m.at face)) g so;
  ticking = λ face g so. sorted-does s m at face (ticks (at_face s.keys face) (at_face g.faces face).sessions (m.at face)) g so;
}

-- ---- its sessions stay calm

abbrev pub CalmAt : PeerSetup → PeerMoments → Face → PeerGate → Type 0
CalmAt s m at g = IsCalm (at_face s.keys at) (m.at at) (at_face g.faces at)

ahead-so : (now n : ℕ) (x : Sessions) → IsAhead now n x.engine → IsAhead now (x.engine).next x.engine
ahead-so now n x ahead = record { senders = ahead.senders; receivers = ahead.receivers; next_is = refl }

calm-block : (k : FaceKeys) (now : ℕ) (f : PeerFace) (until : ℕ) (block : List ℕ) → TimersWait k → IsCalm k now f
    → IsCalm k now (after_block k f until (block_begins k (f.sessions).engine block now))
calm-block k now f until block wait so = record {
  sorted = sorted-block k k.wait_ms now f until (block_begins k (f.sessions).engine block now) so.sorted;
  ahead = begins-ahead k (f.sessions).engine now ((f.sessions).engine).next block now wait.sessions (omega arith) so.ahead;
  unstale = so.unstale;
}

calm-go : (s : PeerSetup) (m : PeerMoments) (at face : Face) (until : ℕ) (g : PeerGate) → TimersWait (at_face s.keys at) → CalmAt s m at g → CalmAt s m at (go s face m until g).gate
unfolding go
calm-go s m faces.Old faces.Old until g wait so = calm-block s.keys.0 (m.at faces.Old) g.faces.0 until (block_of s faces.Old m until g.faces.0) wait so
calm-go s m faces.Old faces.New until g wait so = so
calm-go s m faces.New faces.Old until g wait so = so
calm-go s m faces.New faces.New until g wait so = calm-block s.keys.1 (m.at faces.New) g.faces.1 until (block_of s faces.New m until g.faces.1) wait so

calm-waits : (s : PeerSetup) (m : PeerMoments) (at face : Face) (is_report : Bool) (piece : Piece) (g : PeerGate) → piece.added ≡ m.at face → CalmAt s m at g
    → CalmAt s m at (waits_too face piece is_report g).gate
calm-waits s m faces.Old faces.Old is_report piece g is so =
    record { sorted = sorted-waits s m faces.Old faces.Old is_report piece g is so.sorted; ahead = so.ahead; unstale = so.unstale }
calm-waits s m faces.Old faces.New is_report piece g is so = so
calm-waits s m faces.New faces.Old is_report piece g is so = so
calm-waits s m faces.New faces.New is_report piece g is so =
    record { sorted = sorted-waits s m faces.New faces.New is_report piece g is so.sorted; ahead = so.ahead; unstale = so.unstale }

calm-adds : (s : PeerSetup) (m : PeerMoments) (at face : Face) (is_report : Bool) (piece : Piece) (g : PeerGate) → TimersWait (at_face s.keys at) → piece.added ≡ m.at face → CalmAt s m at g
    → CalmAt s m at (adds s face m is_report piece g).gate
unfolding adds and_then
calm-adds s m at face is_report piece g wait is so =
    let h = (waits_too face piece is_report g).gate in
    going-stays s m (CalmAt s m at) face no_time (λ (x : PeerGate) (y : CalmAt s m at x). calm-go s m at face no_time x wait y)
    (length ((at_face h.faces face).gathering).waiting) h (calm-waits s m at face is_report piece g is so)

-- after a step that leaves them so
calm-does : (s : PeerSetup) (m : PeerMoments) (at face : Face) (step : SessionsStep) (g : PeerGate) → SortedAt s m at g
    → (at ≡ face → IsAhead (m.at at) ((step.sessions).engine).next (step.sessions).engine × (stale (at_face s.keys at) (m.at at) step.sessions ≡ []))
    → (CalmAt s m at g ⊎ (at ≡ face)) → CalmAt s m at (does_at s face g step).gate
calm-does s m faces.Old faces.Old step g sorted leaves so =
    let (ahead, unstale) = leaves refl in record { sorted = record { since = sorted.since; wait_is = sorted.wait_is }; ahead = ahead; unstale = unstale }
calm-does s m faces.Old faces.New step g sorted leaves (inl so) = so
calm-does s m faces.Old faces.New step g sorted leaves (inr same) = absurd (cc)
calm-does s m faces.New faces.Old step g sorted leaves (inl so) = so
calm-does s m faces.New faces.Old step g sorted leaves (inr same) = absurd (cc)
calm-does s m faces.New faces.New step g sorted leaves so =
    let (ahead, unstale) = leaves refl in record { sorted = record { since = sorted.since; wait_is = sorted.wait_is }; ahead = ahead; unstale = unstale }

heard-leaves : NoneIsStale → (s : PeerSetup) (m : PeerMoments) (at face : Face) (read : Result SegmentValue (ℕ × SegmentCause)) (g : PeerGate) → TimersWait (at_face s.keys at) → CalmAt s m at g
    → at ≡ face → IsAhead (m.at at) ((hears_at s face g read (m.at face)).sessions.engine).next (hears_at s face g read (m.at face)).sessions.engine
    × (stale (at_face s.keys at) (m.at at) (hears_at s face g read (m.at face)).sessions ≡ [])
heard-leaves law s m at face read g wait so same =
    subst (λ (f : Face). IsAhead (m.at at) ((hears_at s f g read (m.at f)).sessions.engine).next (hears_at s f g read (m.at f)).sessions.engine
    × (stale (at_face s.keys at) (m.at at) (hears_at s f g read (m.at f)).sessions ≡ [])) same
    (let k = at_face s.keys at in
    let x = (at_face g.faces at).sessions in
    let memory = wait.memory in (
      ahead-so (m.at at) (x.engine).next (hears k x read (m.at at)).sessions (hears-ahead_at k x (m.at at) (x.engine).next read (m.at at) wait.sessions (omega arith) so.ahead),
      law.heard k x read (m.at at) (omega (arith, memory)),
    ))

ticked-leaves : NoneIsStale → (s : PeerSetup) (m : PeerMoments) (at face : Face) (g : PeerGate) → TimersWait (at_face s.keys at)
    → at ≡ face → IsAhead (m.at at) ((ticks (at_face s.keys face) (at_face g.faces face).sessions (m.at face)).sessions.engine).next (ticks (at_face s.keys face) (at_face g.faces face).sessions (m.at face)).sessions.engine
    × (stale (at_face s.keys at) (m.at at) (ticks (at_face s.keys face) (at_face g.faces face).sessions (m.at face)).sessions ≡ [])
ticked-leaves law s m at face g wait same =
    subst (λ (f : Face). IsAhead (m.at at) ((ticks (at_face s.keys f) (at_face g.faces f).sessions (m.at f)).sessions.engine).next (ticks (at_face s.keys f) (at_face g.faces f).sessions (m.at f)).sessions.engine
    × (stale (at_face s.keys at) (m.at at) (ticks (at_face s.keys f) (at_face g.faces f).sessions (m.at f)).sessions ≡ [])) same
    (let k = at_face s.keys at in
    let x = (at_face g.faces at).sessions in
    let memory = wait.memory in (
      ahead-so (m.at at) _ (ticks k x (m.at at)).sessions (ticks-ahead k x (m.at at) wait.sessions),
      law.ticked k x (m.at at) (omega (arith, memory)),
    ))

calm-kept : NoneIsStale → (s : PeerSetup) (m : PeerMoments) (at : Face) → TimersWait (at_face s.keys at) → IsKept s m (CalmAt s m at)
calm-kept law s m at wait = record {
  adding = record {
    counting = λ g so. so;
    adding = λ face is_report piece g is so. calm-adds s m at face is_report piece g wait is so;
  };
  going = λ face until g so. calm-go s m at face until g wait so;
  hearing = λ face read g so. calm-does s m at face (hears_at s face g read (m.at face)) g so.sorted (heard-leaves law s m at face read g wait so) (inl so);
  ticking = λ face g so. calm-does s m at face (ticks (at_face s.keys face) (at_face g.faces face).sessions (m.at face)) g so.sorted (ticked-leaves law s m at face g wait) (inl so);
}

-- ---- what was added isn't due

-- no piece has waited as long as it may
abbrev IsEarly : ℕ → ℕ → Piece → Type 0
IsEarly now wait piece = now - piece.added < wait

record AreEarly (now wait : ℕ) (g : GatheringValue) : Type 0 where
  wait_is : g.wait_ms ≡ wait
  all : All (IsEarly now wait) g.waiting

abbrev EarlyAt : PeerMoments → ℕ → Face → PeerGate → Type 0
EarlyAt m wait at g = AreEarly (m.at at) wait (at_face g.faces at).gathering

early-go : (s : PeerSetup) (m : PeerMoments) (wait : ℕ) (at face : Face) (until : ℕ) (g : PeerGate) → EarlyAt m wait at g → EarlyAt m wait at (go s face m until g).gate
unfolding go
early-go s m wait faces.Old faces.Old until g so =
    record { wait_is = so.wait_is; all = All-drop (IsEarly (m.at faces.Old) wait) (ready g.faces.0.gathering until) (g.faces.0.gathering).waiting so.all }
early-go s m wait faces.Old faces.New until g so = so
early-go s m wait faces.New faces.Old until g so = so
early-go s m wait faces.New faces.New until g so =
    record { wait_is = so.wait_is; all = All-drop (IsEarly (m.at faces.New) wait) (ready g.faces.1.gathering until) (g.faces.1.gathering).waiting so.all }

none-late : (now wait : ℕ) (pieces : List Piece) → All (IsEarly now wait) pieces → is_late wait now pieces ≡ false
none-late now wait [] all = refl
none-late now wait (piece ∷ pieces) all = lt-leb wait (now - piece.added) (All-head (IsEarly now wait) piece pieces all)

-- so what is ready is complete, which doesn't depend on the moment
ready-early : (now : ℕ) (g : GatheringValue) → All (IsEarly now g.wait_ms) g.waiting → ready g no_time ≡ 0 → ready g now ≡ 0
unfolding ready
ready-early now g all none =
    rw (none-late now g.wait_ms g.waiting all) (by (is_complete g) (is_late g.wait_ms no_time g.waiting) none)
  where
    by : (t late : Bool) → (if t || late then (front_in g).count else 0) ≡ 0 → (if t || false then (front_in g).count else 0) ≡ 0
    by true late is = is
    by false late is = refl

-- where no session is free, nothing goes
unfree-stays : (s : PeerSetup) (m : PeerMoments) (face : Face) (until n : ℕ) (g : PeerGate) → is_free (at_face s.keys face) (at_face g.faces face) ≡ false
    → (go_on s face m until n g).gate ≡ g
unfolding go_on
unfree-stays s m face until zero g unfree = refl
unfree-stays s m face until (suc n) g unfree = rw unfree refl

abbrev pub RestedAt : PeerSetup → PeerMoments → Face → PeerGate → Type 0
RestedAt s m at g = IsRested (at_face s.keys at) (m.at at) (at_face g.faces at)

free-waits : (s : PeerSetup) (face : Face) (is_report : Bool) (piece : Piece) (g : PeerGate)
    → is_free (at_face s.keys face) (at_face (waits_too face piece is_report g).gate.faces face) ≡ is_free (at_face s.keys face) (at_face g.faces face)
free-waits s faces.Old is_report piece g = refl
free-waits s faces.New is_report piece g = refl

early-waits : (m : PeerMoments) (wait : ℕ) (at : Face) (is_report : Bool) (piece : Piece) (g : PeerGate) → piece.added ≡ m.at at → 1 ≤ wait → EarlyAt m wait at g
    → EarlyAt m wait at (waits_too at piece is_report g).gate
early-waits m wait faces.Old is_report piece g is some so = record {
  wait_is = so.wait_is;
  all = All-push (IsEarly (m.at faces.Old) wait) (g.faces.0.gathering).waiting piece so.all (omega (arith, is, some));
}
early-waits m wait faces.New is_report piece g is some so = record {
  wait_is = so.wait_is;
  all = All-push (IsEarly (m.at faces.New) wait) (g.faces.1.gathering).waiting piece so.all (omega (arith, is, some));
}

settled-adds : CompleteGoes → NoneWaitsLate → (s : PeerSetup) (m : PeerMoments) (at : Face) (is_report : Bool) (piece : Piece) (g : PeerGate) → TimersWait (at_face s.keys at) → piece.added ≡ m.at at → RestedAt s m at g
    → IsSettled (at_face s.keys at) (m.at at) (at_face (adds s at m is_report piece g).gate.faces at)
unfolding adds and_then
settled-adds complete law s m at is_report piece g wait is so = by (is_free k f) refl
  where
    k : FaceKeys
    k = at_face s.keys at

    f : PeerFace
    f = at_face g.faces at

    h : PeerGate
    h = (waits_too at piece is_report g).gate

    i : PeerGate
    i = (go_all s at m no_time h).gate

    some : 1 ≤ (f.gathering).wait_ms
    some = let long = wait.pieces in let same = ((so.calm).sorted).wait_is in omega (arith, long, same)

    -- a session is free: nothing that waited is late, and neither is what was added
    early : is_free k f ≡ true → EarlyAt m (f.gathering).wait_ms at i
    early free =
        going-stays s m (EarlyAt m (f.gathering).wait_ms at) at no_time (λ (x : PeerGate) (y : EarlyAt m (f.gathering).wait_ms at x). early-go s m (f.gathering).wait_ms at at no_time x y)
        (length ((at_face h.faces at).gathering).waiting) h
        (early-waits m (f.gathering).wait_ms at is_report piece g is some (record {
          wait_is = refl;
          all = law f.gathering (m.at at) (since-are 0 (m.at at) (f.gathering).waiting ((so.calm).sorted).since) (so.settled free);
        }))

    by : (free : Bool) → is_free k f ≡ free → IsSettled k (m.at at) (at_face i.faces at)
    by true free = λ now_free.
        let it = early free in
        ready-early (m.at at) (at_face i.faces at).gathering
        (subst (λ (w : ℕ). All (IsEarly (m.at at) w) ((at_face i.faces at).gathering).waiting) (sym it.wait_is) it.all)
        (complete s at m is_report piece g now_free)
    by false unfree = λ now_free.
        absurd (differ (is_free k (at_face i.faces at)) now_free
        (ap (λ (x : PeerGate). is_free k (at_face x.faces at)) (unfree-stays s m at no_time (length ((at_face h.faces at).gathering).waiting) h (free-waits s at is_report piece g ∙ unfree))
        ∙ (free-waits s at is_report piece g ∙ unfree)))
      where
        differ : (t : Bool) → t ≡ true → t ≡ false → ⊥
        differ t is also = cc

-- ---- nothing is due

-- nothing is ready, so no block is complete
incomplete-where : (g : GatheringValue) (now : ℕ) → ready g now ≡ 0 → (g.waiting ≡ []) ⊎ (is_complete g ≡ false)
unfolding ready
incomplete-where g now none = by g.waiting refl (is_complete g) refl
  where
    by : (pieces : List Piece) → g.waiting ≡ pieces → (complete : Bool) → is_complete g ≡ complete → (g.waiting ≡ []) ⊎ (is_complete g ≡ false)
    by [] is complete how = inl is
    by (piece ∷ pieces) is false how = inr how
    by (piece ∷ pieces) is true how =
        let some : 0 < length g.waiting = rw is (omega arith) in
        let count = (is-front g.wanted g.waiting).some some in
        let zero_so : (front_in g).count ≡ 0 = ap (λ (t : Bool). if t || is_late g.wait_ms now g.waiting then (front_in g).count else 0) (sym how) ∙ none in
        absurd (omega (arith, count, zero_so))

pub nothing-due : NoneWaitsLate → (k : FaceKeys) (now : ℕ) (f : PeerFace) → IsRested k now f → is_free k f ≡ true → NothingIsDue k now f
nothing-due law k now f so free =
    let sorted = (so.calm).sorted in
    let none = so.settled free in
    record {
      incomplete = incomplete-where f.gathering now none;
      early = subst (λ (w : ℕ). All (IsEarly now w) (f.gathering).waiting) sorted.wait_is (law f.gathering now (since-are 0 now (f.gathering).waiting sorted.since) none);
    }

-- ---- at rest: what no session ends

rested-other : (s : PeerSetup) (m : PeerMoments) (at : Face) (until : ℕ) (g : PeerGate) → RestedAt s m at g → RestedAt s m at (go s (other_of at) m until g).gate
unfolding go
rested-other s m faces.Old until g so = so
rested-other s m faces.New until g so = so

other-adds : (s : PeerSetup) (m : PeerMoments) (at : Face) (is_report : Bool) (piece : Piece) (g : PeerGate) → RestedAt s m at g
    → RestedAt s m at (adds s (other_of at) m is_report piece g).gate
unfolding adds and_then
other-adds s m at is_report piece g so =
    let h = (waits_too (other_of at) piece is_report g).gate in
    going-stays s m (RestedAt s m at) (other_of at) no_time (λ (x : PeerGate) (y : RestedAt s m at x). rested-other s m at no_time x y)
    (length ((at_face h.faces (other_of at)).gathering).waiting) h (by at so)
  where
    by : (at : Face) → RestedAt s m at g → RestedAt s m at (waits_too (other_of at) piece is_report g).gate
    by faces.Old so = so
    by faces.New so = so

rested-adds : CompleteGoes → NoneWaitsLate → (s : PeerSetup) (m : PeerMoments) (at face : Face) (is_report : Bool) (piece : Piece) (g : PeerGate) → TimersWait (at_face s.keys at)
    → piece.added ≡ m.at face → RestedAt s m at g → RestedAt s m at (adds s face m is_report piece g).gate
rested-adds complete law s m faces.Old faces.Old is_report piece g wait is so = record {
  calm = calm-adds s m faces.Old faces.Old is_report piece g wait is so.calm;
  settled = settled-adds complete law s m faces.Old is_report piece g wait is so;
}
rested-adds complete law s m faces.Old faces.New is_report piece g wait is so = other-adds s m faces.Old is_report piece g so
rested-adds complete law s m faces.New faces.Old is_report piece g wait is so = other-adds s m faces.New is_report piece g so
rested-adds complete law s m faces.New faces.New is_report piece g wait is so = record {
  calm = calm-adds s m faces.New faces.New is_report piece g wait is so.calm;
  settled = settled-adds complete law s m faces.New is_report piece g wait is so;
}

rested-kept : CompleteGoes → NoneWaitsLate → (s : PeerSetup) (m : PeerMoments) (at : Face) → TimersWait (at_face s.keys at) → KeptByAdding s m (RestedAt s m at)
rested-kept complete law s m at wait = record {
  counting = λ g so. so;
  adding = λ face is_report piece g is so. rested-adds complete law s m at face is_report piece g wait is so;
}

-- ---- a datagram

-- where no session that was being sent is over, one that is free was free before
free-before : (k : FaceKeys) (f : PeerFace) (step : SessionsStep) → has_ended f.sessions step ≡ false → ((step.sessions).engine).next ≡ ((f.sessions).engine).next
    → is_free k (record f { sessions = step.sessions }) ≡ true → is_free k f ≡ true
free-before k f step ended next free =
    let before = length ((f.sessions).engine).senders in
    let now = length ((step.sessions).engine).senders in
    let (few, left) = and_parts (nat_lt now (k.bounds).sessions) (nat_lt ((step.sessions).engine).next NUMBERS) free in
    let fewer = ltb-true now (k.bounds).sessions few in
    let more = ltb-false now before ended in
    let first : nat_lt before (k.bounds).sessions ≡ true = lt-ltb before (k.bounds).sessions (omega (arith, fewer, more)) in
    let second : nat_lt ((f.sessions).engine).next NUMBERS ≡ true = ap (λ (n : ℕ). nat_lt n NUMBERS) (sym next) ∙ left in
    rw (first, second) refl

-- the number of the next session stays
next-heard : (s : PeerSetup) (m : PeerMoments) (at : Face) (read : Result SegmentValue (ℕ × SegmentCause)) (g : PeerGate) → TimersWait (at_face s.keys at) → CalmAt s m at g
    → ((hears_at s at g read (m.at at)).sessions.engine).next ≡ (((at_face g.faces at).sessions).engine).next
next-heard s m at read g wait so =
    let x = (at_face g.faces at).sessions in
    (hears-ahead_at (at_face s.keys at) x (m.at at) (x.engine).next read (m.at at) wait.sessions (omega arith) so.ahead).next_is

settled-does : (s : PeerSetup) (m : PeerMoments) (at : Face) (step : SessionsStep) (g : PeerGate) → has_ended (at_face g.faces at).sessions step ≡ false
    → ((step.sessions).engine).next ≡ (((at_face g.faces at).sessions).engine).next → IsSettled (at_face s.keys at) (m.at at) (at_face g.faces at)
    → IsSettled (at_face s.keys at) (m.at at) (at_face (does_at s at g step).gate.faces at)
settled-does s m faces.Old step g ended next so = λ free. so (free-before s.keys.0 g.faces.0 step ended next free)
settled-does s m faces.New step g ended next so = λ free. so (free-before s.keys.1 g.faces.1 step ended next free)

-- at the other face
pub other-does : (s : PeerSetup) (m : PeerMoments) (at : Face) (step : SessionsStep) (g : PeerGate) → RestedAt s m at g → RestedAt s m at (does_at s (other_of at) g step).gate
other-does s m faces.Old step g so = so
other-does s m faces.New step g so = so

pub other-due : (s : PeerSetup) (m : PeerMoments) (at : Face) (until : ℕ) (g : PeerGate) → RestedAt s m at g → RestedAt s m at (go_all s (other_of at) m until g).gate
other-due s m at until g so =
    going-stays s m (RestedAt s m at) (other_of at) until (λ (x : PeerGate) (y : RestedAt s m at x). rested-other s m at until x y)
    (length ((at_face g.faces (other_of at)).gathering).waiting) g so

-- what comes at the other face
other-arrives : CompleteGoes → NoneWaitsLate → (s : PeerSetup) (m : PeerMoments) (at : Face) (step : SessionsStep) (g : PeerGate) → TimersWait (at_face s.keys at) → RestedAt s m at g
    → RestedAt s m at (arrives_with s (other_of at) m g step).gate
unfolding and_then
other-arrives complete law s m at step g wait so =
    let h = (does_at s (other_of at) g step).gate in
    let i = (in_turn (passes s (other_of at) m) (step.effects).ups h).gate in
    by (has_ended (at_face g.faces (other_of at)).sessions step)
    (ups-stay s m (RestedAt s m at) (rested-kept complete law s m at wait) (other_of at) (step.effects).ups h (other-does s m at step g so))
  where
    by : (ended : Bool) → RestedAt s m at (in_turn (passes s (other_of at) m) (step.effects).ups (does_at s (other_of at) g step).gate).gate
        → RestedAt s m at (due_if ended s m (other_of at) (in_turn (passes s (other_of at) m) (step.effects).ups (does_at s (other_of at) g step).gate).gate).gate
    by true so = other-due s m at (m.at (other_of at)) (in_turn (passes s (other_of at) m) (step.effects).ups (does_at s (other_of at) g step).gate).gate so
    by false so = so

-- and at this one: what is ready goes where a session ended
settled-arrives : NoneIsStale → CompleteGoes → ReadyGoes → NoneWaitsLate → (s : PeerSetup) (m : PeerMoments) (at : Face) (read : Result SegmentValue (ℕ × SegmentCause)) (g : PeerGate)
    → TimersWait (at_face s.keys at) → RestedAt s m at g
    → IsSettled (at_face s.keys at) (m.at at) (at_face (arrives_with s at m g (hears_at s at g read (m.at at))).gate.faces at)
unfolding and_then
settled-arrives stale complete ready_law law s m at read g wait so = by (has_ended (at_face g.faces at).sessions step) refl
  where
    step : SessionsStep
    step = hears_at s at g read (m.at at)

    h : PeerGate
    h = (does_at s at g step).gate

    i : PeerGate
    i = (in_turn (passes s at m) (step.effects).ups h).gate

    passed : has_ended (at_face g.faces at).sessions step ≡ false → RestedAt s m at i
    passed ended =
        ups-stay s m (RestedAt s m at) (rested-kept complete law s m at wait) at (step.effects).ups h (record {
          calm = (calm-kept stale s m at wait).hearing at read g so.calm;
          settled = settled-does s m at step g ended (next-heard s m at read g wait so.calm) so.settled;
        })

    by : (ended : Bool) → has_ended (at_face g.faces at).sessions step ≡ ended → IsSettled (at_face s.keys at) (m.at at) (at_face (due_if (has_ended (at_face g.faces at).sessions step) s m at i).gate.faces at)
    by true is = ready_law.ended s m at g step is
    by false is = subst (λ (ended : Bool). IsSettled (at_face s.keys at) (m.at at) (at_face (due_if ended s m at i).gate.faces at)) (sym is) (passed is).settled

-- ---- every event

-- what holds of parts of the gateway
pub record Cited : Type 0 where
  pub stale : NoneIsStale
  pub complete : CompleteGoes
  pub ready : ReadyGoes
  pub late : NoneWaitsLate

rested-arrives : Cited → (s : PeerSetup) (m : PeerMoments) (at face : Face) (read : Result SegmentValue (ℕ × SegmentCause)) (g : PeerGate) → TimersWait (at_face s.keys at)
    → RestedAt s m at g → RestedAt s m at (does s (a_datagram face read) m g).gate
unfolding arrives_peer
rested-arrives laws s m faces.Old faces.Old read g wait so = record {
  calm = events-stay s m (CalmAt s m faces.Old) (calm-kept laws.stale s m faces.Old wait) (a_datagram faces.Old read) g so.calm;
  settled = settled-arrives laws.stale laws.complete laws.ready laws.late s m faces.Old read g wait so;
}
rested-arrives laws s m faces.Old faces.New read g wait so =
    other-arrives laws.complete laws.late s m faces.Old (hears_at s faces.New g read (m.at faces.New)) g wait so
rested-arrives laws s m faces.New faces.Old read g wait so =
    other-arrives laws.complete laws.late s m faces.New (hears_at s faces.Old g read (m.at faces.Old)) g wait so
rested-arrives laws s m faces.New faces.New read g wait so = record {
  calm = events-stay s m (CalmAt s m faces.New) (calm-kept laws.stale s m faces.New wait) (a_datagram faces.New read) g so.calm;
  settled = settled-arrives laws.stale laws.complete laws.ready laws.late s m faces.New read g wait so;
}

-- a tick at whatever moment
ticked-calm : NoneIsStale → (s : PeerSetup) (m : PeerMoments) (at : Face) (g : PeerGate) → TimersWait (at_face s.keys at) → SortedAt s m at g → CalmAt s m at (ticks_face s m at g).gate
unfolding and_then
ticked-calm law s m at g wait so =
    let step = ticks (at_face s.keys at) (at_face g.faces at).sessions (m.at at) in
    all-stay s m (CalmAt s m at) (calm-kept law s m at wait) at (m.at at) (does_at s at g step).gate
    (calm-does s m at at step g so (ticked-leaves law s m at at g wait) (inr refl))

calm-ticks : NoneIsStale → (s : PeerSetup) (m : PeerMoments) (at : Face) (g : PeerGate) → TimersWait (at_face s.keys at) → SortedAt s m at g → CalmAt s m at (does s a_tick m g).gate
unfolding ticks_peer and_then
calm-ticks law s m faces.Old g wait so =
    tick-stays s m (CalmAt s m faces.Old) (calm-kept law s m faces.Old wait) faces.New (ticks_face s m faces.Old g).gate (ticked-calm law s m faces.Old g wait so)
calm-ticks law s m faces.New g wait so =
    ticked-calm law s m faces.New (ticks_face s m faces.Old g).gate wait (tick-stays s m (SortedAt s m faces.New) (sorted-kept s m faces.New) faces.Old g so)

rested-ticks : Cited → (s : PeerSetup) (m : PeerMoments) (at : Face) (g : PeerGate) → TimersWait (at_face s.keys at) → SortedAt s m at g
    → RestedAt s m at (does s a_tick m g).gate
rested-ticks laws s m at g wait so = record { calm = calm-ticks laws.stale s m at g wait so; settled = (laws.ready).ticked s m at g }

sorted-found : (s : PeerSetup) (m : PeerMoments) (at : Face) (octets : ℕ × ℕ) (g : PeerGate) → SortedAt s m at g → SortedAt s m at (with_outboxes octets g)
sorted-found s m faces.Old octets g so = record { since = so.since; wait_is = so.wait_is }
sorted-found s m faces.New octets g so = record { since = so.since; wait_is = so.wait_is }

pub rested-found : (s : PeerSetup) (m : PeerMoments) (at : Face) (octets : ℕ × ℕ) (g : PeerGate) → RestedAt s m at g → RestedAt s m at (with_outboxes octets g)
rested-found s m faces.Old octets g so = record {
  calm = record { sorted = sorted-found s m faces.Old octets g (so.calm).sorted; ahead = (so.calm).ahead; unstale = (so.calm).unstale };
  settled = so.settled;
}
rested-found s m faces.New octets g so = record {
  calm = record { sorted = sorted-found s m faces.New octets g (so.calm).sorted; ahead = (so.calm).ahead; unstale = (so.calm).unstale };
  settled = so.settled;
}

pub sorted-event : (s : PeerSetup) (m : PeerMoments) (at : Face) (event : PeerEvent) (octets : ℕ × ℕ) (g : PeerGate) → SortedAt s m at g
    → SortedAt s m at (peer_step s event m octets g).gate
unfolding peer_step
sorted-event s m at event octets g so =
    events-stay s m (SortedAt s m at) (sorted-kept s m at) event (with_outboxes octets g) (sorted-found s m at octets g so)

pub rested-tick : Cited → (s : PeerSetup) (m : PeerMoments) (at : Face) (octets : ℕ × ℕ) (g : PeerGate) → TimersWait (at_face s.keys at) → SortedAt s m at g
    → RestedAt s m at (peer_step s a_tick m octets g).gate
unfolding peer_step
rested-tick laws s m at octets g wait so = rested-ticks laws s m at (with_outboxes octets g) wait (sorted-found s m at octets g so)

pub rested-event : Cited → (s : PeerSetup) (m : PeerMoments) (at : Face) (event : PeerEvent) (octets : ℕ × ℕ) (g : PeerGate) → TimersWait (at_face s.keys at) → RestedAt s m at g
    → RestedAt s m at (peer_step s event m octets g).gate
unfolding peer_step
rested-event laws s m at (a_datagram face read) octets g wait so =
    rested-arrives laws s m at face read (with_outboxes octets g) wait (rested-found s m at octets g so)
rested-event laws s m at a_tick octets g wait so =
    rested-ticks laws s m at (with_outboxes octets g) wait (sorted-found s m at octets g (so.calm).sorted)
rested-event laws s m at (a_kept_piece face octets came) found g wait so =
    kept-stays s m (RestedAt s m at) (rested-kept laws.complete laws.late s m at wait) face octets came (with_outboxes found g) (rested-found s m at found g so)
