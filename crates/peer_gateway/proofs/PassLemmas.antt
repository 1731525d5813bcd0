-- What is handed up goes on, as the definition says.

use Rattle.std.proofs.Common.{◌≡◌, ℕ, ◌+◌, ◌<◌, ◌≤◌, Bool, true, false, ◌||◌, nat_lt, nat_le, List, [], ◌∷◌, map, length, drop, Option, Some, None, refl, sym, ap, subst, ◌∙◌, get_or, Result, Ok, Err, IfOk, OnOk}
use Rattle.std.specs.List.{All}
use Rattle.std.specs.Option.{option_map}
use Rattle.std.proofs.lemmas.Bool.{le-leb}
use Rattle.std.proofs.lemmas.List.Elements.{All-head, All-tail}
use Rattle.std.proofs.lemmas.List.{append-nil, drop_more, drop_all}
use Rattle.ltp_session.specs.Engine.{UpValue}
use Rattle.ltp_engine.specs.declared.effects.Up.{Up}
use Rattle.ltp_engine.specs.Effects.{up_of}
use Rattle.ltp_segment.specs.declared.fault.SegmentCause.{SegmentCause}
use Rattle.ltp_segment.specs.Values.{SegmentValue}
use Rattle.gate_cases.specs.declared.face.Face.{Face}
use Rattle.gate_cases.specs.declared.face.Face.TheVariants as faces
use Rattle.gate_cases.specs.declared.report.AskedReport.{AskedReport}
use Rattle.gate_cases.specs.declared.case.TheConstants.{NUMBERS}
use Rattle.gate_cases.specs.Bundles.{status_bundle}
use Rattle.gate_cases.specs.Faces.{other_of}
use Rattle.gate_log.specs.declared.subject.Subject.{Subject}
use Rattle.gate_log.specs.Subjects.{subject_of}
use Rattle.face_room.specs.declared.bounds.TheConstants.{BLOCK_MAX}
use Rattle.block_types.specs.declared.losing.LeftOut.{LeftOut}
use Rattle.face_room.specs.Bounds.{AreBounds}
use Rattle.gateway_core.specs.Gate.{at_face}
use Rattle.gateway_core.specs.Ties.{up_value, up_values}
use Rattle.piece_gathering.specs.declared.piece.Piece.{Piece}
use Rattle.peer_cases.specs.declared.decision.Decision.{Decision}
use Rattle.peer_cases.specs.declared.pieces.SizedPiece.{SizedPiece}
use Rattle.peer_cases.specs.declared.settings.PeerSettings.{PeerSettings}
use Rattle.peer_cases.specs.declared.room.FaceRoom.{FaceRoom}
use Rattle.peer_cases.specs.Arrivals.{Came}
use Rattle.peer_cases.specs.Cases.{decided, is_unreported}
use Rattle.peer_cases.specs.Rows.{a_bundle, came_in, decided_in}
use Rattle.peer_sessions.specs.Sessions.{hears}
use Rattle.peer_gateway.specs.declared.faces.FaceParts.{FaceParts}
use Rattle.peer_gateway.specs.declared.faces.Heard.{Heard}
use Rattle.peer_gateway.specs.declared.moments.FaceMoments.{FaceMoments}
use Rattle.peer_gateway.specs.declared.moments.Moments.{Moments}
use Rattle.peer_gateway.specs.declared.parts.Parts.{Parts}
use Rattle.peer_gateway.specs.Keys.{PeerSetup}
use Rattle.peer_gateway.specs.Gate.{PeerMoments, PeerGate, PeerStep, Told, stays_so, and_then, in_turn, tells, room_at, told_bundle, told_case, told_left, told_reported, told_unreported}
use Rattle.peer_gateway.specs.Going.{adds, piece_at}
use Rattle.peer_gateway.specs.Steps.{does_at, has_ended, adds_all, next_if, tells_left, report_piece, reports, answers, decides, passes_came, passes_item, passes, due_if, hears_at, arrives_peer}
use Rattle.peer_gateway.specs.Answers.{Answered, then_done, with_told, left_told}
use Rattle.peer_gateway.specs.Views.{moments_of}
use Rattle.peer_gateway.specs.Faces.{keys_at, face_of, IsSized, face_does, FaceHeard}
use Rattle.peer_gateway.specs.Ties.{face_at, setup_in, gate_of, IsWhole, Did, SameBut, HeardAt, CanBeAdded}
use Rattle.peer_gateway.proofs.AnswerLemmas.{then-none, then-more}
use Rattle.peer_gateway.proofs.GateLemmas.{did-nothing, did-then, did-as, did-at, does-at, face-there}

-- ---- a step for each of a list

-- with those that are still to come, the gate and what is told will be the same
pub record Turns {X : Type 0} (does : PeerSetup → X → PeerGate → PeerStep) (p q : Parts) (a b : Answered) (all left : List X) : Type 0 where
  pub whole : IsWhole q
  pub setup : setup_in q ≡ setup_in p
  pub gate : (in_turn (does (setup_in p)) left (gate_of q)).gate ≡ (in_turn (does (setup_in p)) all (gate_of p)).gate
  pub answer : then_done b (in_turn (does (setup_in p)) left (gate_of q)).effects ≡ then_done a (in_turn (does (setup_in p)) all (gate_of p)).effects

pub turns-first : {X : Type 0} (does : PeerSetup → X → PeerGate → PeerStep) (p : Parts) (a : Answered) (all : List X) → IsWhole p
    → Turns does p p a a all all
turns-first does p a all whole = record { whole = whole; setup = refl; gate = refl; answer = refl }

pub turns-begin : {X : Type 0} (does : PeerSetup → X → PeerGate → PeerStep) (p : Parts) (a : Answered) (all left : List X) → left ≡ all → IsWhole p
    → Turns does p p a a all left
turns-begin does p a all left is whole = subst (Turns does p p a a all) (sym is) (turns-first does p a all whole)

pub turns-next : {X : Type 0} (does : PeerSetup → X → PeerGate → PeerStep) (p q r : Parts) (a b c : Answered) (all before left : List X) (x : X)
    → before ≡ x ∷ left → Turns does p q a b all before → Did q r b c (does (setup_in q) x (gate_of q)) → Turns does p r a c all left
unfolding in_turn and_then
turns-next does p q r a b c all before left x is turns did =
    let s = setup_in p in
    let went = subst (λ (y : PeerSetup). Did q r b c (does y x (gate_of q))) turns.setup did in
    let now = subst (Turns does p q a b all) is turns in
    let step = does s x (gate_of q) in
    record {
      whole = went.whole;
      setup = went.setup ∙ turns.setup;
      gate = ap (λ (g : PeerGate). (in_turn (does s) left g).gate) went.gate ∙ now.gate;
      answer = ap (λ (g : PeerGate). then_done c (in_turn (does s) left g).effects) went.gate
          ∙ (ap (λ (z : Answered). then_done z (in_turn (does s) left step.gate).effects) went.answer
          ∙ (then-more b step.effects (in_turn (does s) left step.gate).effects ∙ now.answer));
    }

pub turns-done : {X : Type 0} (does : PeerSetup → X → PeerGate → PeerStep) (p q : Parts) (a b : Answered) (all left : List X) → left ≡ []
    → Turns does p q a b all left → Did p q a b (in_turn (does (setup_in p)) all (gate_of p))
unfolding in_turn
turns-done does p q a b all left is turns =
    let now = subst (Turns does p q a b all) is turns in
    record {
      whole = now.whole;
      setup = now.setup;
      gate = now.gate;
      answer = sym (then-none b) ∙ now.answer;
    }

-- ---- blocks that came whole

pub ups-next : (face : Face) (m : PeerMoments) (p q r : Parts) (a b c : Answered) (ups : List Up) (i : ℕ) (up : Up) (block : List ℕ) → i < length ups
    → up ≡ get_or ups i up → block ≡ up.body → Turns (λ s. passes s face m) p q a b (up_values ups) (up_values (drop i ups))
    → Did q r b c (passes (setup_in q) face m (record { session = up.session; body = block }) (gate_of q))
    → Turns (λ s. passes s face m) p r a c (up_values ups) (up_values (drop (i + 1) ups))
ups-next face m p q r a b c ups i up block inside is body turns did =
    let next : up_values (drop i ups) ≡ up_value up ∷ up_values (drop (i + 1) ups) =
    ap up_values (drop_more ups i up inside ∙ ap (λ x. x ∷ drop (i + 1) ups) (sym is)) in
    turns-next (λ s. passes s face m) p q r a b c (up_values ups) (up_values (drop i ups)) (up_values (drop (i + 1) ups)) (up_value up) next turns
    (subst (λ x. Did q r b c (passes (setup_in q) face m (record { session = up.session; body = x }) (gate_of q))) body did)

pub ups-done : (face : Face) (m : PeerMoments) (p q : Parts) (a b : Answered) (ups : List Up) (i : ℕ) → length ups ≤ i
    → Turns (λ s. passes s face m) p q a b (up_values ups) (up_values (drop i ups))
    → Did p q a b (in_turn (passes (setup_in p) face m) (up_values ups) (gate_of p))
ups-done face m p q a b ups i all turns =
    turns-done (λ s. passes s face m) p q a b (up_values ups) (up_values (drop i ups)) (ap up_values (drop_all i ups all)) turns

-- ---- something is told

pub did-tells : (p : Parts) (face : Face) (told : Told) (a b : Answered) → IsWhole p → b ≡ with_told a (record { face = face; told = told } ∷ [])
    → Did p p a b (tells face told (gate_of p))
did-tells p face told a b whole is = record {
  whole = whole;
  setup = refl;
  gate = refl;
  answer = is ∙ rw (append-nil a.out, append-nil a.puts, append-nil a.added, append-nil a.begun) refl;
}

pub did-left : (p : Parts) (face : Face) (index : Option ℕ) (session : ℕ) (left : Option LeftOut) (a b : Answered) → IsWhole p
    → b ≡ with_told a (left_told face index session left) → Did p p a b (tells_left face index session left (gate_of p))
did-left p face index session None a b whole is =
    subst (λ (z : Answered). Did p p a z (stays_so (gate_of p))) (sym (is ∙ rw (append-nil a.told) refl)) (did-nothing p a whole)
did-left p face index session (Some left) a b whole is = did-tells p face (told_left index session left) a b whole is

-- ---- the room of a face that is lent

pub room-there : (face : Face) (p : Parts) (f : FaceParts) (room : FaceRoom) → f ≡ face_at p face → room ≡ room_at (keys_at f) (face_of f)
    → room ≡ room_at (at_face (setup_in p).keys face) (at_face (gate_of p).faces face)
room-there faces.Old p f room is room_is = room_is ∙ ap (λ (x : FaceParts). room_at (keys_at x) (face_of x)) is
room-there faces.New p f room is room_is = room_is ∙ ap (λ (x : FaceParts). room_at (keys_at x) (face_of x)) is

-- its bounds can be counted with
pub bounds-there : (face : Face) (p : Parts) (f : FaceParts) (room : FaceRoom) → f ≡ face_at p face → IsWhole p → room ≡ room_at (keys_at f) (face_of f)
    → AreBounds room.bounds
bounds-there face p f room is whole room_is =
    let known = face-there face p f is whole in
    subst AreBounds (known.bounds ∙ sym (ap (λ (r : FaceRoom). r.bounds) room_is)) known.are

-- ---- once it is decided

pub decides-so : {A E : Type 0} (p q r : Parts) (a b c d e : Answered) (face to : Face) (m : PeerMoments) (index : Option ℕ) (session count : ℕ) (first : Option ℕ)
    (decision : Decision) (result : Result A E) → to ≡ other_of face → first ≡ next_if (setup_in p) to (gate_of p) → count ≡ length decision.pieces
    → Did p q a b (adds_all (setup_in p) to m decision.pieces (gate_of p))
    → c ≡ with_told b (record { face = face; told = told_case index session decision.case count first } ∷ [])
    → d ≡ with_told c (left_told face index session decision.left)
    → OnOk result (Did q r d e (answers (setup_in q) face m index session decision.report (gate_of q)))
    → OnOk result (Did p r a e (decides (setup_in p) face m index session decision (gate_of p)))
unfolding decides
decides-so p q r a b c d e face to m index session count first decision (Err x) is next many added case left answered = tt
decides-so p q r a b c d e face to m index session count first decision (Ok x) is next many added case left answered =
    let next_is = next ∙ ap (λ (f : Face). next_if (setup_in p) f (gate_of p)) is in
    let adding = subst (λ (f : Face). Did p q a b (adds_all (setup_in p) f m decision.pieces (gate_of p))) is added in
    let told = told_case index session decision.case (length decision.pieces) (next_if (setup_in p) (other_of face) (gate_of p)) in
    let says : c ≡ with_told b (record { face = face; told = told } ∷ []) = case ∙ rw (next_is, many) refl in
    did-then (λ s h. and_then (tells face told h) (λ i. and_then (tells_left face index session decision.left i) (answers s face m index session decision.report)))
    p q r a b e (adds_all (setup_in p) (other_of face) m decision.pieces (gate_of p)) adding
    (did-then (λ s i. and_then (tells_left face index session decision.left i) (answers s face m index session decision.report))
    q q r b c e (tells face told (gate_of q)) (did-tells q face told b c adding.whole says)
    (did-then (λ s. answers s face m index session decision.report)
    q q r c d e (tells_left face index session decision.left (gate_of q)) (did-left q face index session decision.left c d adding.whole left) answered))

-- what is decided about octets
passes-decided : (s : PeerSetup) (face : Face) (m : PeerMoments) (index : Option ℕ) (session : ℕ) (octets : List ℕ) (d : Decision) (g : PeerGate)
    → decided_in s.settings face octets m.wall s.cut (room_at (at_face s.keys (other_of face)) (at_face g.faces (other_of face))) ≡ Some d
    → decides s face m index session d g ≡ passes_came s face m index session (came_in s.settings face octets) g
unfolding decided_in
passes-decided s face m index session octets d g is = by (came_in s.settings face octets) is
  where
    room : FaceRoom
    room = room_at (at_face s.keys (other_of face)) (at_face g.faces (other_of face))

    by : (came : Option Came) → option_map (λ (c : Came). decided s.settings face c m.wall s.cut room) came ≡ Some d
        → decides s face m index session d g ≡ passes_came s face m index session came g
    by None is = absurd (cc)
    by (Some came) is =
        let same : d ≡ decided s.settings face came m.wall s.cut room = cc in
        ap (λ (x : Decision). decides s face m index session x g) same

pub passes-so : {A E : Type 0} (p q : Parts) (a b : Answered) (face to : Face) (m : PeerMoments) (index : Option ℕ) (session : ℕ) (octets : List ℕ)
    (f : FaceParts) (room : FaceRoom) (d : Decision) (result : Result A E) → to ≡ other_of face → f ≡ face_at p to → room ≡ room_at (keys_at f) (face_of f)
    → decided_in p.settings face octets m.wall p.cut room ≡ Some d
    → OnOk result (Did p q a b (decides (setup_in p) face m index session d (gate_of p)))
    → OnOk result (Did p q a b (passes_came (setup_in p) face m index session (came_in p.settings face octets) (gate_of p)))
passes-so p q a b face to m index session octets f room d result is f_is room_is decided did =
    let there = room-there (other_of face) p f room (f_is ∙ ap (face_at p) is) room_is in
    let same = passes-decided (setup_in p) face m index session octets d (gate_of p)
    (subst (λ (x : FaceRoom). decided_in p.settings face octets m.wall p.cut x ≡ Some d) there decided) in
    subst (λ (x : PeerStep). OnOk result (Did p q a b x)) same did

-- its names are told, and then it passes
pub item-so : {A E : Type 0} (p q : Parts) (a b c : Answered) (face : Face) (m : PeerMoments) (index : Option ℕ) (session : ℕ) (octets : List ℕ)
    (subject : Option Subject) (result : Result A E) → IsWhole p → subject ≡ subject_of octets
    → b ≡ with_told a (record { face = face; told = told_bundle subject } ∷ [])
    → OnOk result (Did p q b c (passes_came (setup_in p) face m index session (came_in p.settings face octets) (gate_of p)))
    → OnOk result (Did p q a c (passes_item (setup_in p) face m session (a_bundle index octets) (gate_of p)))
item-so p q a b c face m index session octets subject (Err x) whole is says did = tt
item-so p q a b c face m index session octets subject (Ok x) whole is says did =
    let told = told_bundle (subject_of octets) in
    let told_is : b ≡ with_told a (record { face = face; told = told } ∷ []) = says ∙ rw is refl in
    did-then (λ s. passes_came s face m index session (came_in s.settings face octets)) p p q a b c (tells face told (gate_of p))
    (did-tells p face told a b whole told_is) did

-- ---- a piece that is made now

made-sized : (s : PeerSettings) (to : Face) (m : Moments) (piece : SizedPiece) (at : FaceMoments) → at ≡ at_face (m.old, m.new) to → CanBeAdded s to piece
    → IsSized s to (record { octets = piece.octets; size = piece.size; came = m.wall; added = at.at; is_dated = piece.is_dated })
made-sized s to m piece at is can =
    subst (λ (x : FaceMoments). IsSized s to (record { octets = piece.octets; size = piece.size; came = m.wall; added = x.at; is_dated = piece.is_dated })) (sym is)
    (can.sized (moments_of m))

pub report-sized : (s : PeerSettings) (to : Face) (m : Moments) (octets : List ℕ) (size : ℕ) (at : FaceMoments) → at ≡ at_face (m.old, m.new) to
    → size ≡ length octets → CanBeAdded s to (record { octets = octets; size = length octets; is_dated = false })
    → IsSized s to (record { octets = octets; size = size; came = m.wall; added = at.at; is_dated = false })
report-sized s to m octets size at is size_is can =
    subst (λ (n : ℕ). IsSized s to (record { octets = octets; size = n; came = m.wall; added = at.at; is_dated = false })) (sym size_is)
    (made-sized s to m (record { octets = octets; size = length octets; is_dated = false }) at is can)

-- the piece that comes next of some
pub next-sized : (s : PeerSettings) (to : Face) (m : Moments) (before left : List SizedPiece) (piece : SizedPiece) (at : FaceMoments)
    → before ≡ piece ∷ left → at ≡ at_face (m.old, m.new) to → All (CanBeAdded s to) before
    → IsSized s to (record { octets = piece.octets; size = piece.size; came = m.wall; added = at.at; is_dated = piece.is_dated })
next-sized s to m before left piece at is at_is can =
    made-sized s to m piece at at_is (All-head (CanBeAdded s to) piece left (subst (All (CanBeAdded s to)) is can))

pub next-small : (s : PeerSettings) (to : Face) (before left : List SizedPiece) (piece : SizedPiece) → before ≡ piece ∷ left
    → All (CanBeAdded s to) before → piece.size ≤ BLOCK_MAX
next-small s to before left piece is can = (All-head (CanBeAdded s to) piece left (subst (All (CanBeAdded s to)) is can)).small

pub others-can : (s : PeerSettings) (to : Face) (before left : List SizedPiece) (piece : SizedPiece) → before ≡ piece ∷ left
    → All (CanBeAdded s to) before → All (CanBeAdded s to) left
others-can s to before left piece is can = All-tail (CanBeAdded s to) piece left (subst (All (CanBeAdded s to)) is can)

-- pieces are added, one after the other
abbrev pub adds_one : Face → Moments → PeerSetup → SizedPiece → PeerGate → PeerStep
adds_one to m s piece g = adds s to (moments_of m) false (piece_at (moments_of m) to piece) g

pub pieces-next : (to : Face) (m : Moments) (p q r : Parts) (a b c : Answered) (all before left : List SizedPiece) (piece : SizedPiece) (at : FaceMoments)
    → before ≡ piece ∷ left → at ≡ at_face (m.old, m.new) to → Turns (adds_one to m) p q a b all before
    → Did q r b c (adds (setup_in q) to (moments_of m) false (record { octets = piece.octets; size = piece.size; came = m.wall; added = at.at; is_dated = piece.is_dated }) (gate_of q))
    → Turns (adds_one to m) p r a c all left
pieces-next to m p q r a b c all before left piece at is at_is turns did =
    turns-next (adds_one to m) p q r a b c all before left piece is turns
    (subst (λ (x : FaceMoments). Did q r b c (adds (setup_in q) to (moments_of m) false (record { octets = piece.octets; size = piece.size; came = m.wall; added = x.at; is_dated = piece.is_dated }) (gate_of q)))
    at_is did)

-- ---- reports

pub reports-so : {A E : Type 0} (p r : Parts) (a b c : Answered) (face : Face) (m : Moments) (index : Option ℕ) (session : ℕ) (next : Option ℕ)
    (octets : List ℕ) (size : ℕ) (at : FaceMoments) (result : Result A E) → next ≡ next_if (setup_in p) face (gate_of p) → size ≡ length octets
    → at ≡ at_face (m.old, m.new) face
    → Did (record p { counter = p.counter + 1 }) r a b (adds (setup_in p) face (moments_of m) true
    (record { octets = octets; size = size; came = m.wall; added = at.at; is_dated = false }) (record (gate_of p) { counter = p.counter + 1 }))
    → OnOk result (c ≡ with_told b (record { face = face; told = told_reported index session next } ∷ []))
    → OnOk result (Did p r a c (reports (setup_in p) face (moments_of m) index session (record { octets = octets; size = length octets; is_dated = false }) (gate_of p)))
reports-so p r a b c face m index session next octets size at (Err e) is size_is at_is added says = tt
reports-so p r a b c face m index session next octets size at (Ok x) is size_is at_is added says =
    let told = told_reported index session (next_if (setup_in p) face (gate_of p)) in
    let one : Piece = record { octets = octets; size = size; came = m.wall; added = at.at; is_dated = false } in
    let made : Piece = piece_at (moments_of m) face (record { octets = octets; size = length octets; is_dated = false }) in
    let same : one ≡ made = rw (size_is, at_is) refl in
    let step = adds (setup_in p) face (moments_of m) true made (record (gate_of p) { counter = p.counter + 1 }) in
    let did = subst (λ (y : Piece). Did (record p { counter = p.counter + 1 }) r a b
    (adds (setup_in p) face (moments_of m) true y (record (gate_of p) { counter = p.counter + 1 }))) same added in
    let done : Did p r a b step = record { whole = did.whole; setup = did.setup; gate = did.gate; answer = did.answer } in
    let so : c ≡ with_told b (record { face = face; told = told } ∷ []) = says ∙ rw is refl in
    did-then (λ s h. tells face told h) p r r a b c step done (did-tells r face told b c did.whole so)

pub answers-none : (p : Parts) (a : Answered) (face : Face) (m : PeerMoments) (index : Option ℕ) (session : ℕ) (report : Option AskedReport) → IsWhole p
    → report ≡ None → Did p p a a (answers (setup_in p) face m index session report (gate_of p))
unfolding answers
answers-none p a face m index session report whole is = rw is (did-nothing p a whole)

-- the room at the face doesn't suffice, or the clock isn't set, or the counter is spent
unreported_at : Parts → Face → ℕ → ℕ → Bool
unreported_at p face size wall =
    is_unreported (room_at (at_face (setup_in p).keys face) (at_face (gate_of p).faces face)) size wall p.counter

not-reported : {A E : Type 0} (p : Parts) (a b : Answered) (face : Face) (m : PeerMoments) (index : Option ℕ) (session : ℕ) (report : Option AskedReport)
    (asked : AskedReport) (result : Result A E) → IsWhole p → report ≡ Some asked
    → unreported_at p face (report_piece (setup_in p) m asked (gate_of p)).size m.wall ≡ true
    → OnOk result (b ≡ with_told a (record { face = face; told = told_unreported index session } ∷ []))
    → OnOk result (Did p p a b (answers (setup_in p) face m index session report (gate_of p)))
unfolding answers unreported_at
not-reported p a b face m index session report asked (Err e) whole is not_so says = tt
not-reported p a b face m index session report asked (Ok x) whole is not_so says =
    rw (is, not_so) (did-tells p face (told_unreported index session) a b whole says)

last-holds : (t u v : Bool) → v ≡ true → (t || u || v) ≡ true
last-holds true u v is = refl
last-holds false true v is = refl
last-holds false false v is = is

pub spent-not : {A E : Type 0} (p : Parts) (a b : Answered) (face : Face) (m : PeerMoments) (index : Option ℕ) (session : ℕ) (report : Option AskedReport)
    (asked : AskedReport) (result : Result A E) → IsWhole p → report ≡ Some asked → NUMBERS ≤ p.counter
    → OnOk result (b ≡ with_told a (record { face = face; told = told_unreported index session } ∷ []))
    → OnOk result (Did p p a b (answers (setup_in p) face m index session report (gate_of p)))
unfolding unreported_at
spent-not p a b face m index session report asked result whole is spent says =
    not-reported p a b face m index session report asked result whole is
    (last-holds _ (nat_lt m.wall 1000) (nat_le NUMBERS p.counter) (le-leb NUMBERS p.counter spent)) says

-- what the code asks is what the definition asks
unreported-there : (p : Parts) (face : Face) (m : PeerMoments) (asked : AskedReport) (octets : List ℕ) (size : ℕ) (f : FaceParts) (room : FaceRoom) (t : Bool)
    → octets ≡ status_bundle p.gate p.counter m.wall asked → size ≡ length octets → f ≡ face_at p face → room ≡ room_at (keys_at f) (face_of f)
    → t ≡ is_unreported room size m.wall p.counter → unreported_at p face (report_piece (setup_in p) m asked (gate_of p)).size m.wall ≡ t
unfolding unreported_at
unreported-there p face m asked octets size f room t octets_are size_is is room_is so =
    let there = room-there face p f room is room_is in
    let same : size ≡ length (status_bundle p.gate p.counter m.wall asked) = size_is ∙ ap length octets_are in
    sym (so ∙ (ap (λ (x : FaceRoom). is_unreported x size m.wall p.counter) there
    ∙ ap (λ (n : ℕ). is_unreported (room_at (at_face (setup_in p).keys face) (at_face (gate_of p).faces face)) n m.wall p.counter) same))

pub unreported-so : {A E : Type 0} (p : Parts) (a b : Answered) (face : Face) (m : PeerMoments) (index : Option ℕ) (session : ℕ) (report : Option AskedReport)
    (asked : AskedReport) (octets : List ℕ) (size : ℕ) (f : FaceParts) (room : FaceRoom) (t : Bool) (result : Result A E) → IsWhole p → report ≡ Some asked
    → octets ≡ status_bundle p.gate p.counter m.wall asked → size ≡ length octets → f ≡ face_at p face → room ≡ room_at (keys_at f) (face_of f)
    → t ≡ is_unreported room size m.wall p.counter → t ≡ true
    → OnOk result (b ≡ with_told a (record { face = face; told = told_unreported index session } ∷ []))
    → OnOk result (Did p p a b (answers (setup_in p) face m index session report (gate_of p)))
unreported-so p a b face m index session report asked octets size f room t result whole is octets_are size_is f_is room_is so holds says =
    not-reported p a b face m index session report asked result whole is
    (unreported-there p face m asked octets size f room t octets_are size_is f_is room_is so ∙ holds) says

pub reported-so : {A E : Type 0} (p q : Parts) (a b : Answered) (face : Face) (m : PeerMoments) (index : Option ℕ) (session : ℕ) (report : Option AskedReport)
    (asked : AskedReport) (octets : List ℕ) (size : ℕ) (f : FaceParts) (room : FaceRoom) (t : Bool) (result : Result A E) → report ≡ Some asked
    → octets ≡ status_bundle p.gate p.counter m.wall asked → size ≡ length octets → f ≡ face_at p face → room ≡ room_at (keys_at f) (face_of f)
    → t ≡ is_unreported room size m.wall p.counter → t ≡ false
    → OnOk result (Did p q a b (reports (setup_in p) face m index session (record { octets = octets; size = length octets; is_dated = false }) (gate_of p)))
    → OnOk result (Did p q a b (answers (setup_in p) face m index session report (gate_of p)))
unfolding answers unreported_at
reported-so p q a b face m index session report asked octets size f room t (Err e) is octets_are size_is f_is room_is so not_so did = tt
reported-so p q a b face m index session report asked octets size f room t (Ok x) is octets_are size_is f_is room_is so not_so did =
    let here = unreported-there p face m asked octets size f room t octets_are size_is f_is room_is so ∙ not_so in
    rw (is, here) (subst (λ (w : List ℕ). Did p q a b (reports (setup_in p) face m index session (record { octets = w; size = length w; is_dated = false }) (gate_of p))) octets_are did)

-- ---- a datagram

ups-heard : (ups : List UpValue) → up_values (map up_of ups) ≡ ups
ups-heard [] = refl
ups-heard (up ∷ ups) = let rest = ups-heard ups in rw rest refl

-- the sessions of a face of the code heard it
heard-at : {E : Type 0} (at : Face) (p q : Parts) (a b : Answered) (result : Result Heard E) (m : Moments) (read : Result SegmentValue (ℕ × SegmentCause))
    → IsWhole p → SameBut at p q
    → IfOk result (FaceHeard (face_at p at) (face_at q at) a b
    (hears (keys_at (face_at p at)) (face_of (face_at p at)).sessions read (at_face (m.old, m.new) at).at))
    → IfOk result (HeardAt p q a b at (hears_at (setup_in p) at (gate_of p) read ((moments_of m).at at)))
heard-at at p q a b (Err e) m read whole same heard = tt
heard-at faces.Old p q a b (Ok up) m read whole same heard =
    let step = hears (keys_at p.old_face) (face_of p.old_face).sessions read m.old.at in
    record {
      did = did-as p q a b _ _ (does-at faces.Old p step whole)
          (did-at faces.Old p q a b (face_does (keys_at p.old_face) p.old_face.face (face_of p.old_face) step) whole same heard.did);
      ups = heard.ups;
      ended = heard.ended;
    }
heard-at faces.New p q a b (Ok up) m read whole same heard =
    let step = hears (keys_at p.new_face) (face_of p.new_face).sessions read m.new.at in
    record {
      did = did-as p q a b _ _ (does-at faces.New p step whole)
          (did-at faces.New p q a b (face_does (keys_at p.new_face) p.new_face.face (face_of p.new_face) step) whole same heard.did);
      ups = heard.ups;
      ended = heard.ended;
    }

pub heard-there : {E : Type 0} (face at : Face) (p q : Parts) (a b : Answered) (result : Result Heard E) (m : Moments) (read : Result SegmentValue (ℕ × SegmentCause))
    → face ≡ at → IsWhole p → SameBut at p q
    → IfOk result (FaceHeard (face_at p at) (face_at q at) a b
    (hears (keys_at (face_at p at)) (face_of (face_at p at)).sessions read (at_face (m.old, m.new) at).at))
    → IfOk result (HeardAt p q a b face (hears_at (setup_in p) face (gate_of p) read ((moments_of m).at face)))
heard-there face at p q a b result m read is whole same heard =
    subst (λ (f : Face). IfOk result (HeardAt p q a b f (hears_at (setup_in p) f (gate_of p) read ((moments_of m).at f)))) (sym is)
    (heard-at at p q a b result m read whole same heard)

-- one datagram, and all that comes of it
pub arrives-so : {A E : Type 0} (p q r t : Parts) (a b c d : Answered) (face : Face) (m : PeerMoments) (read : Result SegmentValue (ℕ × SegmentCause))
    (heard : Heard) (ups : List Up) (result : Result A E) → HeardAt p q a b face (hears_at (setup_in p) face (gate_of p) read (m.at face)) heard
    → ups ≡ heard.ups → Did q r b c (in_turn (passes (setup_in q) face m) (up_values ups) (gate_of q))
    → OnOk result (Did r t c d (due_if heard.has_ended (setup_in r) m face (gate_of r)))
    → OnOk result (Did p t a d (arrives_peer (setup_in p) face read m (gate_of p)))
unfolding arrives_peer
arrives-so p q r t a b c d face m read heard ups (Err e) hears is passed due = tt
arrives-so p q r t a b c d face m read heard ups (Ok x) hears is passed due =
    let step = hears_at (setup_in p) face (gate_of p) read (m.at face) in
    let same : up_values ups ≡ (step.effects).ups = ap up_values (is ∙ hears.ups) ∙ ups-heard (step.effects).ups in
    let ended = has_ended (at_face (gate_of p).faces face).sessions step in
    let all = subst (λ us. Did q r b c (in_turn (passes (setup_in q) face m) us (gate_of q))) same passed in
    let last = subst (λ (e : Bool). Did r t c d (due_if e (setup_in r) m face (gate_of r))) hears.ended due in
    did-then (λ s h. and_then (in_turn (passes s face m) (step.effects).ups h) (due_if ended s m face))
    p q t a b d (does_at (setup_in p) face (gate_of p) step) hears.did
    (did-then (λ s. due_if ended s m face) q r t b c d (in_turn (passes (setup_in q) face m) (step.effects).ups (gate_of q)) all last)
