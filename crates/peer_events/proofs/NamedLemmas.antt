-- What a step tells names bundles that have texts.

use Rattle.std.proofs.Common.{ℕ, zero, suc, ◌+◌, ◌==◌, Bool, true, false, if◌then◌else◌, List, [], ◌∷◌, map, length, Option, Some, None}
use Rattle.std.proofs.lemmas.List.Elements.{All-nil, All-cons, All-append, All-map}
use Rattle.std.specs.List.{All}
use Rattle.ltp_segment.specs.declared.session.Green.{Green}
use Rattle.ltp_segment.specs.declared.session.Note.{Note}
use Rattle.ltp_session.specs.Engine.{UpValue}
use Rattle.piece_gathering.specs.declared.piece.Piece.{Piece}
use Rattle.gate_cases.specs.declared.face.Face.{Face}
use Rattle.gate_cases.specs.declared.face.Face.TheVariants as faces
use Rattle.gate_cases.specs.declared.report.AskedReport.{AskedReport}
use Rattle.gate_cases.specs.Faces.{other_of}
use Rattle.gate_log.specs.Subjects.{subject_of}
use Rattle.block_types.specs.declared.losing.LeftOut.{LeftOut}
use Rattle.gateway_core.specs.Gate.{at_face}
use Rattle.peer_cases.specs.declared.decision.Decision.{Decision}
use Rattle.peer_cases.specs.declared.pieces.SizedPiece.{SizedPiece}
use Rattle.peer_cases.specs.Arrivals.{Came}
use Rattle.peer_cases.specs.Cases.{is_unreported}
use Rattle.peer_cases.specs.Rows.{Item, a_bundle, an_end, came_in, items_of}
use Rattle.peer_sessions.specs.Sessions.{SessionsStep, evictions, ticks}
use Rattle.peer_gateway.specs.Keys.{PeerSetup}
use Rattle.peer_gateway.specs.Gate.{PeerMoments, PeerGate, PeerStep, Told, stays_so, and_then, in_turn, tells, room_at, told_engine, told_green, told_bundle, told_case, told_left, told_reported, told_unreported, told_end}
use Rattle.peer_gateway.specs.Going.{piece_at, told_if, gathers, go, go_on, go_all, next_count, no_time, waits_too, adds}
use Rattle.peer_gateway.specs.Steps.{forgotten_told, told_of, told_at, does_at, hears_at, adds_all, next_if, tells_left, report_piece, reports, answers, decides, decided_at, passes_came, passes_item, passes, has_ended, due_if, arrives_with, arrives_peer, ticks_face, ticks_peer, kept_piece, has_room_at, adds_kept, PeerEvent, a_datagram, a_tick, a_kept_piece, with_outboxes, does, peer_step}
use Rattle.peer_events.specs.Named.{IsNamedTold, IsNamedAt, AllNamed}
use Rattle.peer_events.proofs.TextLemmas.{subject-texts}

abbrev TellsNamed : PeerStep → Type 0
TellsNamed step = AllNamed (step.effects).told

-- ---- steps put together

named-so : (g : PeerGate) → TellsNamed (stays_so g)
named-so g = All-nil IsNamedAt

named-then : (step : PeerStep) (next : PeerGate → PeerStep) → TellsNamed step → ((g : PeerGate) → TellsNamed (next g))
    → TellsNamed (and_then step next)
unfolding and_then
named-then step next first more =
    All-append IsNamedAt (step.effects).told ((next step.gate).effects).told first (more step.gate)

named-turn : {X : Type 0} (f : X → PeerGate → PeerStep) → ((x : X) (g : PeerGate) → TellsNamed (f x g))
    → (xs : List X) (g : PeerGate) → TellsNamed (in_turn f xs g)
unfolding in_turn
named-turn f each [] g = named-so g
named-turn f each (x ∷ xs) g = named-then (f x g) (in_turn f xs) (each x g) (named-turn f each xs)

named-tells : (face : Face) (told : Told) (g : PeerGate) → IsNamedTold told → TellsNamed (tells face told g)
named-tells face told g is = All-cons IsNamedAt (told_at face told) [] is (All-nil IsNamedAt)

-- ---- blocks go

named-began : (b : Bool) (face : Face) (pieces octets session : ℕ) → AllNamed (told_if b face pieces octets session)
named-began false face pieces octets session = All-nil IsNamedAt
named-began true face pieces octets session = All-cons IsNamedAt _ [] tt (All-nil IsNamedAt)

named-go : (s : PeerSetup) (face : Face) (m : PeerMoments) (until : ℕ) (g : PeerGate) → TellsNamed (go s face m until g)
unfolding go
named-go s face m until g = named-began (gathers (at_face s.keys face)) face _ _ _

named-on : (s : PeerSetup) (face : Face) (m : PeerMoments) (until n : ℕ) (g : PeerGate) → TellsNamed (go_on s face m until n g)
unfolding go_on
named-on s face m until zero g = named-so g
named-on s face m until (suc n) g =
    by (next_count (at_face s.keys face) until (at_face g.faces face) == 0) (named-on s face m until n)
  where
    by : (b : Bool) → ((h : PeerGate) → TellsNamed (go_on s face m until n h))
        → TellsNamed (if b then stays_so g else and_then (go s face m until g) (go_on s face m until n))
    by true more = named-so g
    by false more = named-then (go s face m until g) (go_on s face m until n) (named-go s face m until g) more

named-all : (s : PeerSetup) (face : Face) (m : PeerMoments) (until : ℕ) (g : PeerGate) → TellsNamed (go_all s face m until g)
named-all s face m until g = named-on s face m until _ g

named-adds : (s : PeerSetup) (face : Face) (m : PeerMoments) (is_report : Bool) (piece : Piece) (g : PeerGate)
    → TellsNamed (adds s face m is_report piece g)
unfolding adds
named-adds s face m is_report piece g =
    named-then (waits_too face piece is_report g) (go_all s face m no_time) (All-nil IsNamedAt) (named-all s face m no_time)

-- ---- a bundle

named-pieces : (s : PeerSetup) (to : Face) (m : PeerMoments) (pieces : List SizedPiece) (g : PeerGate)
    → TellsNamed (adds_all s to m pieces g)
named-pieces s to m = named-turn _ (λ (piece : SizedPiece) g. named-adds s to m false (piece_at m to piece) g)

named-left : (face : Face) (index : Option ℕ) (session : ℕ) (left : Option LeftOut) (g : PeerGate)
    → TellsNamed (tells_left face index session left g)
named-left face index session None g = named-so g
named-left face index session (Some left) g = named-tells face (told_left index session left) g tt

named-reports : (s : PeerSetup) (face : Face) (m : PeerMoments) (index : Option ℕ) (session : ℕ) (piece : SizedPiece) (g : PeerGate)
    → TellsNamed (reports s face m index session piece g)
named-reports s face m index session piece g =
    named-then (adds s face m true (piece_at m face piece) (record g { counter = g.counter + 1 }))
    (tells face (told_reported index session (next_if s face g)))
    (named-adds s face m true (piece_at m face piece) _) (λ h. named-tells face (told_reported index session (next_if s face g)) h tt)

named-answers : (s : PeerSetup) (face : Face) (m : PeerMoments) (index : Option ℕ) (session : ℕ) (asked : Option AskedReport) (g : PeerGate)
    → TellsNamed (answers s face m index session asked g)
unfolding answers
named-answers s face m index session None g = named-so g
named-answers s face m index session (Some asked) g =
    by (is_unreported (room_at (at_face s.keys face) (at_face g.faces face)) (report_piece s m asked g).size m.wall g.counter)
  where
    by : (b : Bool) → TellsNamed (if b then tells face (told_unreported index session) g
        else reports s face m index session (report_piece s m asked g) g)
    by true = named-tells face (told_unreported index session) g tt
    by false = named-reports s face m index session (report_piece s m asked g) g

named-decides : (s : PeerSetup) (face : Face) (m : PeerMoments) (index : Option ℕ) (session : ℕ) (d : Decision) (g : PeerGate)
    → TellsNamed (decides s face m index session d g)
unfolding decides
named-decides s face m index session d g =
    named-then _ _ (named-pieces s (other_of face) m d.pieces g) (λ h.
    named-then _ _ (named-tells face (told_case index session d.case (length d.pieces) (next_if s (other_of face) g)) h tt) (λ i.
    named-then _ _ (named-left face index session d.left i)
    (named-answers s face m index session d.report)))

named-came : (s : PeerSetup) (face : Face) (m : PeerMoments) (index : Option ℕ) (session : ℕ) (came : Option Came) (g : PeerGate)
    → TellsNamed (passes_came s face m index session came g)
named-came s face m index session None g = named-so g
named-came s face m index session (Some came) g = named-decides s face m index session (decided_at s face m came g) g

named-item : (s : PeerSetup) (face : Face) (m : PeerMoments) (session : ℕ) (item : Item) (g : PeerGate)
    → TellsNamed (passes_item s face m session item g)
named-item s face m session (a_bundle index octets) g =
    named-then _ _ (named-tells face (told_bundle (subject_of octets)) g (subject-texts octets))
    (named-came s face m index session (came_in s.settings face octets))
named-item s face m session (an_end index end) g = named-tells face (told_end index session end) g tt

named-passes : (s : PeerSetup) (face : Face) (m : PeerMoments) (up : UpValue) (g : PeerGate) → TellsNamed (passes s face m up g)
named-passes s face m up = named-turn _ (named-item s face m up.session) (items_of face up.body)

-- ---- a face's sessions

named-notes : (notes : List Note) → All IsNamedTold (map told_engine notes)
named-notes notes = All-map IsNamedTold told_engine notes (λ k d low. tt)

named-greens : (greens : List Green) → All IsNamedTold (map told_green greens)
named-greens greens = All-map IsNamedTold told_green greens (λ k d low. tt)

named-forgotten : (forgotten : Option ℕ) → All IsNamedTold (forgotten_told forgotten)
named-forgotten None = All-nil IsNamedTold
named-forgotten (Some runs) = All-cons IsNamedTold _ [] tt (All-nil IsNamedTold)

named-sessions : (step : SessionsStep) → All IsNamedTold (told_of step)
named-sessions step =
    All-append IsNamedTold (map told_engine (evictions step.gone)) _ (named-notes (evictions step.gone))
    (All-append IsNamedTold (forgotten_told step.forgotten) _ (named-forgotten step.forgotten)
    (All-append IsNamedTold (map told_engine (step.effects).notes) (map told_green (step.effects).greens)
    (named-notes (step.effects).notes) (named-greens (step.effects).greens)))

named-does : (s : PeerSetup) (face : Face) (g : PeerGate) (step : SessionsStep) → TellsNamed (does_at s face g step)
named-does s face g step = All-map IsNamedAt (told_at face) (told_of step) (named-sessions step)

-- ---- events

named-due : (b : Bool) (s : PeerSetup) (m : PeerMoments) (face : Face) (g : PeerGate) → TellsNamed (due_if b s m face g)
named-due true s m face g = named-all s face m (m.at face) g
named-due false s m face g = named-so g

named-with : (s : PeerSetup) (face : Face) (m : PeerMoments) (g : PeerGate) (step : SessionsStep) → TellsNamed (arrives_with s face m g step)
named-with s face m g step =
    named-then _ _ (named-does s face g step) (λ h.
    named-then _ _ (named-turn (passes s face m) (named-passes s face m) (step.effects).ups h)
    (named-due (has_ended (at_face g.faces face).sessions step) s m face))

named-ticks : (s : PeerSetup) (m : PeerMoments) (face : Face) (g : PeerGate) → TellsNamed (ticks_face s m face g)
named-ticks s m face g =
    named-then _ _ (named-does s face g (ticks (at_face s.keys face) (at_face g.faces face).sessions (m.at face)))
    (λ h. named-all s face m (m.at face) h)

named-kept : (s : PeerSetup) (face : Face) (piece : Piece) (m : PeerMoments) (g : PeerGate) → TellsNamed (adds_kept s face piece m g)
named-kept s face piece m g = by (has_room_at (room_at (at_face s.keys face) (at_face g.faces face)) piece.size)
  where
    by : (b : Bool) → TellsNamed (if b then adds s face m false piece g else stays_so g)
    by true = named-adds s face m false piece g
    by false = named-so g

named-event : (s : PeerSetup) (event : PeerEvent) (m : PeerMoments) (g : PeerGate) → TellsNamed (does s event m g)
unfolding arrives_peer ticks_peer
named-event s (a_datagram face read) m g = named-with s face m g (hears_at s face g read (m.at face))
named-event s a_tick m g = named-then _ _ (named-ticks s m faces.Old g) (named-ticks s m faces.New)
named-event s (a_kept_piece face octets came) m g = named-kept s face (kept_piece s face octets came m) m g

pub step-named : (s : PeerSetup) (event : PeerEvent) (m : PeerMoments) (octets : ℕ × ℕ) (g : PeerGate)
    → AllNamed ((peer_step s event m octets g).effects).told
unfolding peer_step
step-named s event m octets g = named-event s event m (with_outboxes octets g)
