-- A step that is to add a piece of an earlier run has no record.

use Rattle.std.proofs.Common.{◌≡◌, ℕ, zero, suc, ◌==◌, Bool, true, false, List, [], ◌∷◌, ◌++◌, length, map, None, Some, if◌then◌else◌, refl, ap, ◌∙◌}
use Rattle.std.proofs.lemmas.Grind.{flat_map-append}
use Rattle.std.specs.List.{AllByRecursion}
use Rattle.ltp_segment.specs.Spelling.{segment_octets}
use Rattle.ltp_segment.specs.Values.{ContentValue, PieceValue, a_piece}
use Rattle.ltp_session.specs.Engine.{Engine}
use Rattle.ltp_session.specs.Sender.{begin, checkpoint_at, green_segments, red_segments}
use Rattle.ltp_session.specs.Timer.{first_serial}
use Rattle.ltp_session.specs.Views.{headed, headed_all}
use Rattle.ltp_session.specs.declared.name.SessionName.{SessionName}
use Rattle.ltp_laws.proofs.AckLemmas.{green-all, red-all}
use Rattle.gate_cases.specs.declared.face.Face.{Face}
use Rattle.gateway_core.specs.Effects.{routed_of}
use Rattle.gateway_core.specs.Gate.{RoutedValue, at_face, segment_at}
use Rattle.journal_file.specs.declared.kept.Mark.{Mark}
use Rattle.journal_file.specs.declared.kept.Pending.{Pending}
use Rattle.piece_gathering.specs.declared.piece.Piece.{Piece}
use Rattle.gate_records.specs.Happened.{Happened, reports_on}
use Rattle.gate_records.specs.Records.{clear_records, mark_records, marks_after}
use Rattle.gate_records.proofs.OverLemmas.{quiet-clears}
use Rattle.gate_records.proofs.ReportLemmas.{other-reports}
use Rattle.peer_sessions.specs.Keys.{FaceKeys}
use Rattle.peer_sessions.specs.Sessions.{block_begins}
use Rattle.peer_gateway.specs.Keys.{PeerSetup}
use Rattle.peer_gateway.specs.Gate.{FaceTold, PeerEffects, PeerGate, PeerMoments, PeerStep, and_then, room_at, stays_so, with_more}
use Rattle.peer_gateway.specs.Going.{adds, block_of, gathers, go, go_on, next_count, told_if}
use Rattle.peer_gateway.specs.Steps.{has_room_at, kept_piece, peer_step, with_outboxes}
use Rattle.peer_records.specs.Happened.{PeerHappened, marking, up_of, ups_in}
use Rattle.peer_records.specs.Keeping.{PeerKeeping}
use Rattle.peer_records.specs.Records.{step_records}
use Rattle.peer_half.specs.Standing.{Standing}
use Rattle.peer_half.specs.Steps.{happened_in, outboxes_in, step_of}
use Rattle.peer_half.specs.Parts.{begin_of}
use Rattle.peer_half.proofs.ResumeLemmas.{tried}
use Rattle.peer_half.proofs.ToAddLemmas.{records-again}

-- ---- what a block that begins sends

abbrev NoReport : RoutedValue → Type 0
NoReport r = reports_on (segment_octets r.segment) ≡ None

all-join : {X : Type 0} (P : X → Type 0) (xs ys : List X) → AllByRecursion P xs → AllByRecursion P ys → AllByRecursion P (xs ++ ys)
all-join P [] ys all more = more
all-join P (x ∷ xs) ys (first, all) more = (first, all-join P xs ys all more)

abbrev NoneOf : SessionName → ContentValue → Type 0
NoneOf name content = reports_on (segment_octets (headed name content)) ≡ None

all-routed : (face : Face) (name : SessionName) (contents : List ContentValue) → AllByRecursion (NoneOf name) contents → AllByRecursion NoReport (map (segment_at face) (headed_all name contents))
all-routed face name [] all = tt
all-routed face name (content ∷ contents) (first, all) = (first, all-routed face name contents all)

pieces-go : (k : FaceKeys) (e : Engine) (block : List ℕ) (now : ℕ) (face : Face) → AllByRecursion NoReport (map (segment_at face) ((block_begins k e block now).effects).out)
unfolding begin
pieces-go k e block now face =
    let name : SessionName = record { originator = (k.party).own; number = e.next } in
    let segments = red_segments (k.party).policy block (length block) in
    let checkpoint : ℕ × List ℕ → PieceValue = checkpoint_at (length block) (length block) (first_serial e.next) 0 in
    let piece : (q : PieceValue) → NoneOf name (a_piece q) = λ q. other-reports (k.party).own e.next (a_piece q) tt in
    all-routed face name ((begin (k.party).policy e.next block (length block) now).out)
    (all-join (NoneOf name) _ _ (red-all (NoneOf name) piece checkpoint segments) (green-all (NoneOf name) piece (green_segments (k.party).policy block (length block))))

-- ---- and what such a step tells

record IsQuiet (e : PeerEffects) : Type 0 where
  ups : ups_in e.told ≡ []
  out : AllByRecursion NoReport e.out

quiet-both : (a b : PeerEffects) → IsQuiet a → IsQuiet b → IsQuiet (with_more a b)
quiet-both a b first more = record {
  ups = flat_map-append (λ (t : FaceTold). up_of t.face t.told) a.told b.told ∙ rw (first.ups, more.ups) refl;
  out = all-join NoReport a.out b.out first.out more.out;
}

told-none : (tells : Bool) (face : Face) (pieces octets session : ℕ) → ups_in (told_if tells face pieces octets session) ≡ []
told-none true face pieces octets session = refl
told-none false face pieces octets session = refl

quiet-go : (s : PeerSetup) (face : Face) (m : PeerMoments) (until : ℕ) (g : PeerGate) → IsQuiet (go s face m until g).effects
unfolding go
quiet-go s face m until g = record {
  ups = told-none (gathers (at_face s.keys face)) face _ _ _;
  out = pieces-go (at_face s.keys face) (((at_face g.faces face).sessions).engine) (block_of s face m until (at_face g.faces face)) (m.at face) face;
}

quiet-on : (s : PeerSetup) (face : Face) (m : PeerMoments) (until n : ℕ) (g : PeerGate) → IsQuiet (go_on s face m until n g).effects
unfolding go_on and_then
quiet-on s face m until zero g = record { ups = refl; out = tt }
quiet-on s face m until (suc n) g =
    by (next_count (at_face s.keys face) until (at_face g.faces face) == 0)
    (quiet-both (go s face m until g).effects (go_on s face m until n (go s face m until g).gate).effects (quiet-go s face m until g) (quiet-on s face m until n (go s face m until g).gate))
  where
    by : (t : Bool) → IsQuiet (and_then (go s face m until g) (go_on s face m until n)).effects
        → IsQuiet (if t then stays_so g else and_then (go s face m until g) (go_on s face m until n)).effects
    by true quiet = record { ups = refl; out = tt }
    by false quiet = quiet

quiet-adds : (s : PeerSetup) (face : Face) (m : PeerMoments) (piece : Piece) (g : PeerGate) → IsQuiet (adds s face m false piece g).effects
unfolding adds and_then
quiet-adds s face m piece g = let rest = quiet-on s face m _ _ _ in record { ups = rest.ups; out = rest.out }

quiet-step : (p : Pending) (s : Standing) → IsQuiet (step_of (begin_of p) s).effects
unfolding peer_step
quiet-step p s = by (has_room_at (room_at (at_face (s.setup).keys p.face) (at_face g.faces p.face)) piece.size)
  where
    g : PeerGate
    g = with_outboxes (outboxes_in s) s.gate

    piece : Piece
    piece = kept_piece s.setup p.face p.block p.came s.moments

    step : PeerStep
    step = adds s.setup p.face s.moments false piece g

    by : (t : Bool) → IsQuiet (if t then step else stays_so g).effects
    by true = quiet-adds s.setup p.face s.moments piece g
    by false = record { ups = refl; out = tt }

-- ---- so it has no record

none-due : (h : Happened) (out : List RoutedValue) (marks : List Mark) → AllByRecursion NoReport out → mark_records h (map routed_of out) marks ≡ []
unfolding mark_records
none-due h [] marks all = refl
none-due h (r ∷ out) marks (first, all) = rw first (none-due h out marks all)

pub none-recorded : (p : Pending) (s : Standing) (k : PeerKeeping) → step_records (happened_in (Some p.id) (begin_of p) s) k ≡ []
none-recorded p s k =
    let h : PeerHappened = happened_in (Some p.id) (begin_of p) s in
    let notes = (tried p s).quiet in
    let quiet = quiet-step p s in
    let marks = (k.kept).marks in
    records-again h k p.id refl notes
    ∙ (ap (λ rs. rs ++ clear_records (marking h) (marks_after (marking h) h.out marks)) (none-due (marking h) ((step_of (begin_of p) s).effects).out marks quiet.out)
    ∙ quiet-clears (marking h) (marks_after (marking h) h.out marks) (rw (quiet.ups, notes) refl))
