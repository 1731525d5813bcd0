-- What each small step keeps, every step keeps.

use Rattle.std.proofs.Common.{◌≡◌, ◌≢◌, ℕ, zero, suc, ◌+◌, ◌==◌, Bool, true, false, if◌then◌else◌, List, [], ◌∷◌, length, Option, Some, None, refl}
use Rattle.std.proofs.lemmas.Bool.{eqb-false}
use Rattle.ltp_session.specs.Engine.{UpValue}
use Rattle.piece_gathering.specs.declared.piece.Piece.{Piece}
use Rattle.gate_cases.specs.declared.face.Face.{Face}
use Rattle.gate_cases.specs.declared.face.Face.TheVariants as faces
use Rattle.gate_cases.specs.declared.report.AskedReport.{AskedReport}
use Rattle.gate_cases.specs.Faces.{other_of}
use Rattle.gate_log.specs.Subjects.{subject_of}
use Rattle.block_types.specs.declared.losing.LeftOut.{LeftOut}
use Rattle.gateway_core.specs.Gate.{at_face}
use Rattle.peer_cases.specs.declared.pieces.SizedPiece.{SizedPiece}
use Rattle.peer_cases.specs.declared.decision.Decision.{Decision}
use Rattle.peer_cases.specs.Arrivals.{Came}
use Rattle.peer_cases.specs.Cases.{is_unreported}
use Rattle.peer_cases.specs.Rows.{Item, a_bundle, an_end, came_in, items_of}
use Rattle.peer_sessions.specs.Sessions.{SessionsStep, ticks}
use Rattle.peer_gateway.specs.Keys.{PeerSetup}
use Rattle.peer_gateway.specs.Gate.{PeerMoments, PeerGate, PeerStep, Told, stays_so, and_then, in_turn, tells, room_at}
use Rattle.peer_gateway.specs.Gate.{told_bundle, told_case, told_left, told_reported, told_unreported, told_end}
use Rattle.peer_gateway.specs.Going.{next_count, go, go_on, go_all, no_time, waits_too, adds, piece_at, due}
use Rattle.peer_gateway.specs.Steps.{does_at, hears_at, adds_all, next_if, tells_left, report_piece, reports, answers, decides, decided_at, passes_came, passes_item, passes, has_ended, due_if, arrives_with, arrives_peer, ticks_face, ticks_peer, kept_piece, has_room_at, adds_kept, PeerEvent, a_datagram, a_tick, a_kept_piece, does}

-- it holds of each small step, and of two of them where it holds of each
pub record IsKept (s : PeerSetup) (m : PeerMoments) (Holds : PeerGate → PeerStep → Type 0) : Type 0 where
  pub nothing : (g : PeerGate) → Holds g (stays_so g)
  pub both : (g : PeerGate) (first : PeerStep) (next : PeerGate → PeerStep) → Holds g first → Holds first.gate (next first.gate)
      → Holds g (and_then first next)
  pub telling : (face : Face) (told : Told) (g : PeerGate) → Holds g (tells face told g)
  pub hearing : (face : Face) (step : SessionsStep) (g : PeerGate) → Holds g (does_at s face g step)
  pub waiting : (face : Face) (piece : Piece) (is_report : Bool) (g : PeerGate) → Holds g (waits_too face piece is_report g)
  pub going : (face : Face) (until : ℕ) (g : PeerGate) → next_count (at_face s.keys face) until (at_face g.faces face) ≢ 0
      → Holds g (go s face m until g)
  pub counting : (g : PeerGate) (step : PeerStep) → Holds (record g { counter = g.counter + 1 }) step → Holds g step

abbrev pub Keeps : (PeerGate → PeerStep → Type 0) → (PeerGate → PeerStep) → Type 0
Keeps Holds step = (g : PeerGate) → Holds g (step g)

turn-keeps : {X : Type 0} (s : PeerSetup) (m : PeerMoments) (Holds : PeerGate → PeerStep → Type 0) → IsKept s m Holds
    → (step : X → PeerGate → PeerStep) → ((x : X) → Keeps Holds (step x)) → (xs : List X) → Keeps Holds (in_turn step xs)
unfolding in_turn
turn-keeps s m Holds kept step each [] g = kept.nothing g
turn-keeps s m Holds kept step each (x ∷ xs) g =
    let rest = turn-keeps s m Holds kept step each xs in
    kept.both g (step x g) (in_turn step xs) (each x g) (rest (step x g).gate)

go-keeps : (s : PeerSetup) (m : PeerMoments) (Holds : PeerGate → PeerStep → Type 0) → IsKept s m Holds
    → (face : Face) (until n : ℕ) → Keeps Holds (go_on s face m until n)
unfolding go_on
go-keeps s m Holds kept face until zero g = kept.nothing g
go-keeps s m Holds kept face until (suc n) g =
    by (next_count (at_face s.keys face) until (at_face g.faces face) == 0) refl (go-keeps s m Holds kept face until n (go s face m until g).gate)
  where
    by : (t : Bool) → (next_count (at_face s.keys face) until (at_face g.faces face) == 0) ≡ t
        → Holds (go s face m until g).gate (go_on s face m until n (go s face m until g).gate)
        → Holds g (if t then stays_so g else and_then (go s face m until g) (go_on s face m until n))
    by true is rest = kept.nothing g
    by false is rest =
        let some = eqb-false (next_count (at_face s.keys face) until (at_face g.faces face)) 0 is in
        kept.both g (go s face m until g) (go_on s face m until n) (kept.going face until g some) rest

all-keeps : (s : PeerSetup) (m : PeerMoments) (Holds : PeerGate → PeerStep → Type 0) → IsKept s m Holds
    → (face : Face) (until : ℕ) → Keeps Holds (go_all s face m until)
all-keeps s m Holds kept face until g = go-keeps s m Holds kept face until (length ((at_face g.faces face).gathering).waiting) g

adds-keeps : (s : PeerSetup) (m : PeerMoments) (Holds : PeerGate → PeerStep → Type 0) → IsKept s m Holds
    → (face : Face) (is_report : Bool) (piece : Piece) → Keeps Holds (adds s face m is_report piece)
unfolding adds
adds-keeps s m Holds kept face is_report piece g =
    let first = waits_too face piece is_report g in
    kept.both g first (go_all s face m no_time) (kept.waiting face piece is_report g) (all-keeps s m Holds kept face no_time first.gate)

-- ---- a bundle

reports-keeps : (s : PeerSetup) (m : PeerMoments) (Holds : PeerGate → PeerStep → Type 0) → IsKept s m Holds
    → (face : Face) (index : Option ℕ) (session : ℕ) (piece : SizedPiece) → Keeps Holds (reports s face m index session piece)
reports-keeps s m Holds kept face index session piece g =
    let counted = record g { counter = g.counter + 1 } in
    let first = adds s face m true (piece_at m face piece) counted in
    let told = told_reported index session (next_if s face g) in
    kept.both g first (tells face told)
    (kept.counting g first (adds-keeps s m Holds kept face true (piece_at m face piece) counted))
    (kept.telling face told first.gate)

answers-keeps : (s : PeerSetup) (m : PeerMoments) (Holds : PeerGate → PeerStep → Type 0) → IsKept s m Holds
    → (face : Face) (index : Option ℕ) (session : ℕ) (asked : Option AskedReport) → Keeps Holds (answers s face m index session asked)
unfolding answers
answers-keeps s m Holds kept face index session None g = kept.nothing g
answers-keeps s m Holds kept face index session (Some asked) g =
    by (is_unreported (room_at (at_face s.keys face) (at_face g.faces face)) (report_piece s m asked g).size m.wall g.counter)
  where
    by : (t : Bool) → Holds g (if t then tells face (told_unreported index session) g else reports s face m index session (report_piece s m asked g) g)
    by true = kept.telling face (told_unreported index session) g
    by false = reports-keeps s m Holds kept face index session (report_piece s m asked g) g

left-keeps : (s : PeerSetup) (m : PeerMoments) (Holds : PeerGate → PeerStep → Type 0) → IsKept s m Holds
    → (face : Face) (index : Option ℕ) (session : ℕ) (left : Option LeftOut) → Keeps Holds (tells_left face index session left)
left-keeps s m Holds kept face index session None g = kept.nothing g
left-keeps s m Holds kept face index session (Some left) g = kept.telling face (told_left index session left) g

decides-keeps : (s : PeerSetup) (m : PeerMoments) (Holds : PeerGate → PeerStep → Type 0) → IsKept s m Holds
    → (face : Face) (index : Option ℕ) (session : ℕ) (d : Decision) → Keeps Holds (decides s face m index session d)
unfolding decides
decides-keeps s m Holds kept face index session d g =
    let to = other_of face in
    let each = λ (piece : SizedPiece). adds-keeps s m Holds kept to false (piece_at m to piece) in
    let first = adds_all s to m d.pieces g in
    let told = told_case index session d.case (length d.pieces) (next_if s to g) in
    let last = answers s face m index session d.report in
    let left = λ (i : PeerGate). and_then (tells_left face index session d.left i) last in
    let h = first.gate in
    let given = tells_left face index session d.left h in
    kept.both g first (λ h. and_then (tells face told h) left)
    (turn-keeps s m Holds kept (λ (piece : SizedPiece). adds s to m false (piece_at m to piece)) each d.pieces g)
    (kept.both h (tells face told h) left (kept.telling face told h)
    (kept.both h given last (left-keeps s m Holds kept face index session d.left h)
    (answers-keeps s m Holds kept face index session d.report given.gate)))

came-keeps : (s : PeerSetup) (m : PeerMoments) (Holds : PeerGate → PeerStep → Type 0) → IsKept s m Holds
    → (face : Face) (index : Option ℕ) (session : ℕ) (came : Option Came) → Keeps Holds (passes_came s face m index session came)
came-keeps s m Holds kept face index session None g = kept.nothing g
came-keeps s m Holds kept face index session (Some came) g =
    decides-keeps s m Holds kept face index session (decided_at s face m came g) g

item-keeps : (s : PeerSetup) (m : PeerMoments) (Holds : PeerGate → PeerStep → Type 0) → IsKept s m Holds
    → (face : Face) (session : ℕ) (item : Item) → Keeps Holds (passes_item s face m session item)
item-keeps s m Holds kept face session (a_bundle index octets) g =
    let bundle = told_bundle (subject_of octets) in
    kept.both g (tells face bundle g) (passes_came s face m index session (came_in s.settings face octets))
    (kept.telling face bundle g) (came-keeps s m Holds kept face index session (came_in s.settings face octets) g)
item-keeps s m Holds kept face session (an_end index end) g = kept.telling face (told_end index session end) g

passes-keeps : (s : PeerSetup) (m : PeerMoments) (Holds : PeerGate → PeerStep → Type 0) → IsKept s m Holds
    → (face : Face) (up : UpValue) → Keeps Holds (passes s face m up)
passes-keeps s m Holds kept face up g =
    turn-keeps s m Holds kept (passes_item s face m up.session) (item-keeps s m Holds kept face up.session) (items_of face up.body) g

-- ---- events

due-keeps : (s : PeerSetup) (m : PeerMoments) (Holds : PeerGate → PeerStep → Type 0) → IsKept s m Holds
    → (ended : Bool) (face : Face) → Keeps Holds (due_if ended s m face)
due-keeps s m Holds kept true face g = all-keeps s m Holds kept face (m.at face) g
due-keeps s m Holds kept false face g = kept.nothing g

arrives-keeps : (s : PeerSetup) (m : PeerMoments) (Holds : PeerGate → PeerStep → Type 0) → IsKept s m Holds
    → (face : Face) (step : SessionsStep) (g : PeerGate) → Holds g (arrives_with s face m g step)
arrives-keeps s m Holds kept face step g =
    let first = does_at s face g step in
    let ended = has_ended (at_face g.faces face).sessions step in
    let last = due_if ended s m face in
    let second = in_turn (passes s face m) (step.effects).ups first.gate in
    kept.both g first (λ h. and_then (in_turn (passes s face m) (step.effects).ups h) last) (kept.hearing face step g)
    (kept.both first.gate second last
    (turn-keeps s m Holds kept (passes s face m) (passes-keeps s m Holds kept face) (step.effects).ups first.gate)
    (due-keeps s m Holds kept ended face second.gate))

tick-keeps : (s : PeerSetup) (m : PeerMoments) (Holds : PeerGate → PeerStep → Type 0) → IsKept s m Holds
    → (face : Face) → Keeps Holds (ticks_face s m face)
tick-keeps s m Holds kept face g =
    let step = ticks (at_face s.keys face) (at_face g.faces face).sessions (m.at face) in
    let first = does_at s face g step in
    kept.both g first (due s m face) (kept.hearing face step g) (all-keeps s m Holds kept face (m.at face) first.gate)

kept-keeps : (s : PeerSetup) (m : PeerMoments) (Holds : PeerGate → PeerStep → Type 0) → IsKept s m Holds
    → (face : Face) (piece : Piece) → Keeps Holds (adds_kept s face piece m)
kept-keeps s m Holds kept face piece g =
    by (has_room_at (room_at (at_face s.keys face) (at_face g.faces face)) piece.size)
  where
    by : (t : Bool) → Holds g (if t then adds s face m false piece g else stays_so g)
    by true = adds-keeps s m Holds kept face false piece g
    by false = kept.nothing g

pub all-steps : (s : PeerSetup) (m : PeerMoments) (Holds : PeerGate → PeerStep → Type 0) → IsKept s m Holds
    → (event : PeerEvent) → Keeps Holds (does s event m)
unfolding arrives_peer ticks_peer
all-steps s m Holds kept (a_datagram face read) g =
    arrives-keeps s m Holds kept face (hears_at s face g read (m.at face)) g
all-steps s m Holds kept a_tick g =
    let first = ticks_face s m faces.Old g in
    kept.both g first (ticks_face s m faces.New) (tick-keeps s m Holds kept faces.Old g)
    (tick-keeps s m Holds kept faces.New first.gate)
all-steps s m Holds kept (a_kept_piece face octets came) g =
    kept-keeps s m Holds kept face (kept_piece s face octets came m) g
