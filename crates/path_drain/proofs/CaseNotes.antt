-- Each block that is handed up has its case noted.

use Rattle.std.proofs.Common.{◌≡◌, ℕ, ◌+◌, Bool, true, false, List, [], ◌∷◌, ◌++◌, map, length}
use Rattle.std.proofs.Common.{Option, None, Some, Result, Ok, Err, inl, inr, refl, ◌∙◌, ap, subst}
use Rattle.std.proofs.Common.{nat_lt, if◌then◌else◌}
use Rattle.std.proofs.lemmas.List.{append-nil}
use Rattle.std.specs.List.{slice_get}
use Rattle.std.specs.Option.{option_map}
use Rattle.ltp_segment.specs.declared.fault.SegmentCause.{SegmentCause}
use Rattle.ltp_segment.specs.Values.{SegmentValue}
use Rattle.ltp_session.specs.declared.name.SessionName.{SessionName}
use Rattle.ltp_session.specs.Engine.{Engine, EngineStep, Party, Reply, SubmitFault, UpValue}
use Rattle.ltp_session.specs.Engine.{arrives, datagram_step, list_of, replied_or_stranger}
use Rattle.ltp_session.specs.Engine.{tick_step}
use Rattle.ltp_laws.specs.View.{IsIn}
use Rattle.ltp_laws.proofs.RunLemmas.{in-left, in-right}
use Rattle.gate_cases.specs.declared.face.Face.{Face}
use Rattle.gate_cases.specs.declared.face.Face.TheVariants as faces
use Rattle.gate_cases.specs.declared.report.AskedReport.{AskedReport}
use Rattle.gate_cases.specs.Bundles.{status_bundle}
use Rattle.gate_cases.specs.Cases.{judged}
use Rattle.gate_cases.specs.Faces.{other_of}
use Rattle.gateway_core.specs.declared.effects.FaceUp.{FaceUp}
use Rattle.gateway_core.specs.declared.note.GateNote.{GateNote}
use Rattle.gateway_core.specs.declared.note.GateNote.TheVariants as notes
use Rattle.gateway_core.specs.Gate.{Gate, GateSetup, GateStep, and_then, answers_at, arrives_at}
use Rattle.gateway_core.specs.Gate.{at_face, case_note, decides_at, does_at, hears_at, in_turn}
use Rattle.gateway_core.specs.Gate.{is_unreported, judged_at, note_at, noted_at, passes_at}
use Rattle.gateway_core.specs.Gate.{reports_at, room_of, sends_at, sends_unless, submission_at}
use Rattle.gateway_core.specs.Gate.{ticks_gate, up_at, with_face}
use Rattle.path_laws.specs.declared.effects.NoteAt.{NoteAt}
use Rattle.path_laws.specs.declared.effects.UpAt.{UpAt}
use Rattle.path_laws.specs.declared.places.PathEnd.{PathEnd}
use Rattle.path_laws.specs.declared.places.PathEnd.TheVariants as ends
use Rattle.path_laws.specs.Path.{Path, PathSetup, SentFrom, all_tick, clock_shows, comes_to}
use Rattle.path_laws.specs.Path.{delivers, gate_effects, gate_note, gate_up, delivers_if}
use Rattle.path_laws.specs.Path.{nothing_done, path_step, sends, sends_block, sent_unless}
use Rattle.path_laws.specs.Path.{then_does, up_from}
use Rattle.path_laws.specs.Places.{Stand, across, at_gate, at_node, face_place, node_place}
use Rattle.path_laws.specs.Places.{stand_of}
use Rattle.path_laws.proofs.ChunkLemmas.{sends-no-up}
use Rattle.path_laws.proofs.LogLemmas.{made-in}
use Rattle.path_drain.specs.Pieces.{CasesAreNoted, IsCaseNoted, IsCaseNotedAt, PathNotesCases, case_at}

-- ---- nothing is handed up with what is submitted

no-up : (face : Face) (g : Gate) (r : Result EngineStep SubmitFault)
    → ((step : EngineStep) → r ≡ Ok step → step.effects.ups ≡ [])
    → (sends_unless face g r).effects.ups ≡ []
no-up face g (Ok step) none = ap (map (up_at face)) (none step refl)
no-up face g (Err fault) none = refl

sends-up_none : (s : GateSetup) (face : Face) (now : ℕ) (block : List ℕ) (g : Gate)
    → (sends_at s face now block g).effects.ups ≡ []
unfolding sends_at
sends-up_none s face now block g = no-up face g (submission_at s face now block g)
    (λ step is. sends-no-up (at_face s.parties face) (at_face g.engines face) block (length block)
    now step is)

ups-none : (first next : List FaceUp) → first ≡ [] → next ≡ [] → first ++ next ≡ []
ups-none first next is_first is_next = rw (is_first, is_next) refl

pieces-up_none : (s : GateSetup) (face : Face) (now : ℕ) (pieces : List (List ℕ)) (g : Gate)
    → (in_turn (sends_at s face now) pieces g).effects.ups ≡ []
unfolding in_turn and_then
pieces-up_none s face now [] g = refl
pieces-up_none s face now (piece ∷ pieces) g =
    ups-none _ _ (sends-up_none s face now piece g) (pieces-up_none s face now pieces _)

answers-up_none : (s : GateSetup) (face : Face) (now session : ℕ) (report : Option AskedReport)
    (g : Gate) → (answers_at s face now session report g).effects.ups ≡ []
unfolding answers_at and_then
answers-up_none s face now session None g = refl
answers-up_none s face now session (Some asked) g = by (is_unreported face now g)
  where
    by : (t : Bool)
        → (if t then noted_at face (notes.Unreported session) g
        else reports_at s face now session asked g).effects.ups ≡ []
    by true = refl
    by false = ups-none _ _ (sends-up_none s face now (status_bundle s.gate g.counter now asked)
        (record g { counter = g.counter + 1 })) refl

passes-up_none : (s : GateSetup) (face : Face) (now : ℕ) (up : UpValue) (g : Gate)
    → (passes_at s face now up g).effects.ups ≡ []
unfolding decides_at and_then
passes-up_none s face now up g =
    ups-none _ _ (pieces-up_none s (other_of face) now (judged_at s face now up.body g).pieces g)
    (answers-up_none s face now up.session (judged_at s face now up.body g).report _)

pub all-up_none : (s : GateSetup) (face : Face) (now : ℕ) (ups : List UpValue) (g : Gate)
    → (in_turn (passes_at s face now) ups g).effects.ups ≡ []
unfolding in_turn and_then
all-up_none s face now [] g = refl
all-up_none s face now (up ∷ ups) g =
    ups-none _ _ (passes-up_none s face now up g) (all-up_none s face now ups _)

-- ---- one block at most is handed up at once

abbrev pub HasOneAtMost : List UpValue → Type 0
HasOneAtMost [] = Unit {0}
HasOneAtMost (up ∷ ups) = ups ≡ []

listed-one : (found : Option UpValue) → HasOneAtMost (list_of found)
listed-one None = tt
listed-one (Some up) = refl

replied-one : (e : Engine) (name : SessionName) (answer : Option Reply)
    → HasOneAtMost (replied_or_stranger e name answer).effects.ups
replied-one e name None = tt
replied-one e name (Some reply) =
    listed-one (option_map (λ body. record { session = name.number; body = body }) reply.up)

pub heard-one : (p : Party) (e : Engine) (read : Result SegmentValue (ℕ × SegmentCause)) (now : ℕ)
    → HasOneAtMost (datagram_step p e read now).effects.ups
unfolding datagram_step
heard-one p e (Err refusal) now = tt
heard-one p e (Ok s) now = replied-one e _ (arrives p e s now)

-- ---- the case is noted

-- what comes to a face leaves the other one as it is
pub other-stays : (pair : Engine × Engine) (face : Face) (e : Engine)
    → at_face (with_face pair face e) (other_of face) ≡ at_face pair (other_of face)
other-stays pair faces.Old e = refl
other-stays pair faces.New e = refl

-- only the room at the other face decides it
same-case : (s : GateSetup) (face : Face) (now session : ℕ) (block : List ℕ) (g h : Gate)
    → at_face h.engines (other_of face) ≡ at_face g.engines (other_of face)
    → case_at s face now session block h ≡ case_at s face now session block g
same-case s face now session block g h same =
    ap (λ (e : Engine). case_note session (length (judged face block now s.cut (room_of e)).pieces)
    (judged face block now s.cut (room_of e)).case) same

passes-noted : (s : GateSetup) (face : Face) (now : ℕ) (up : UpValue) (g : Gate)
    → IsCaseNoted s now g (passes_at s face now up g).effects.notes (up_at face up)
unfolding decides_at and_then
passes-noted s face now up g =
    in-right _ (in_turn (sends_at s (other_of face) now)
    (judged_at s face now up.body g).pieces g).effects.notes _ (inl refl)

-- of one block at most, at a gate h whose other face is as it was in g
all-noted : (s : GateSetup) (face : Face) (now : ℕ) (ups : List UpValue) (g h : Gate) (up : UpValue)
    → HasOneAtMost ups → at_face h.engines (other_of face) ≡ at_face g.engines (other_of face)
    → IsIn up ups
    → IsCaseNoted s now g (in_turn (passes_at s face now) ups h).effects.notes (up_at face up)
unfolding in_turn and_then
all-noted s face now [] g h up one same among = absurd among
all-noted s face now (x ∷ ups) g h up one same (inl is) =
    in-left _ (passes_at s face now x h).effects.notes _
    (subst (λ (y : UpValue). IsCaseNoted s now g (passes_at s face now x h).effects.notes
    (up_at face y)) is
    (subst (λ (note : GateNote). IsIn (note_at face note) (passes_at s face now x h).effects.notes)
    (same-case s face now x.session x.body g h same) (passes-noted s face now x h)))
all-noted s face now (x ∷ ups) g h up one same (inr among) =
    absurd (subst (λ (us : List UpValue). IsIn up us) one among)

pub make-in : {X Y : Type 0} (make : X → Y) (xs : List X) (x : X) → IsIn x xs
    → IsIn (make x) (map make xs)
make-in make [] x among = absurd among
make-in make (y ∷ xs) x (inl is) = inl (ap make is)
make-in make (y ∷ xs) x (inr among) = inr (make-in make xs x among)

pub cases-noted : CasesAreNoted
unfolding arrives_at and_then
cases-noted s face read now g up among =
    let step = hears_at s face g read now in
    let ups : map (up_at face) step.effects.ups
    ++ (in_turn (passes_at s face now) step.effects.ups (does_at face g step).gate).effects.ups
    ≡ map (up_at face) step.effects.ups =
    ap (λ (more : List FaceUp). map (up_at face) step.effects.ups ++ more)
    (all-up_none s face now step.effects.ups (does_at face g step).gate)
    ∙ append-nil (map (up_at face) step.effects.ups) in
    let m = made-in (up_at face) step.effects.ups up (subst (λ us. IsIn up us) ups among) in
    in-right _ (does_at face g step).effects.notes _
    (subst (λ u. IsCaseNoted s now g
    (in_turn (passes_at s face now) step.effects.ups (does_at face g step).gate).effects.notes u)
    m.is (all-noted s face now step.effects.ups g (does_at face g step).gate m.x
    (heard-one (at_face s.parties face) (at_face g.engines face) read now)
    (other-stays g.engines face step.engine) m.among))

-- ---- on a path

-- no node stands at a face
pub no-node : (end : PathEnd) (face : Face) → node_place end ≡ face_place face → ⊥
no-node ends.Old faces.Old is = cc
no-node ends.Old faces.New is = cc
no-node ends.New faces.Old is = cc
no-node ends.New faces.New is = cc

-- so what an end does is handed up at none
pub none-at : (end : PathEnd) (ups : List UpValue) (face : Face) (up : UpAt)
    → IsIn up (map (up_from (node_place end)) ups) → up.place ≡ face_place face → ⊥
none-at end ups face up among at =
    let m = made-in (up_from (node_place end)) ups up among in
    no-node end face (ap (λ (u : UpAt). u.place) m.is ∙ at)

pub same-face : (a b : Face) → face_place a ≡ face_place b → a ≡ b
same-face faces.Old faces.Old is = refl
same-face faces.Old faces.New is = absurd (cc)
same-face faces.New faces.Old is = absurd (cc)
same-face faces.New faces.New is = refl

-- of what the gate does
gate-noted : (s : PathSetup) (w : Path) (step : GateStep)
    → ((up : FaceUp) → IsIn up step.effects.ups
    → IsCaseNoted s.gate w.now w.gate step.effects.notes up)
    → (face : Face) (up : UpAt) → IsIn up (gate_effects step.effects).ups
    → up.place ≡ face_place face
    → IsCaseNotedAt s w (gate_effects step.effects).notes face up
gate-noted s w step noted face up among at =
    let m = made-in gate_up step.effects.ups up among in
    let face_is : (m.x).face ≡ face =
    same-face (m.x).face face (ap (λ (u : UpAt). u.place) m.is ∙ at) in
    subst (λ (u : UpAt). IsCaseNotedAt s w (gate_effects step.effects).notes face u) m.is
    (subst (λ (f : Face). IsIn {X = NoteAt} (record {
      place = face_place f;
      note = case_at s.gate f w.now (m.x).session (m.x).body w.gate;
    }) (gate_effects step.effects).notes) face_is
    (make-in gate_note step.effects.notes _ (noted m.x m.among)))

come-noted : (s : PathSetup) (w : Path) (stand : Stand) (segment : SegmentValue) (face : Face)
    (up : UpAt) → IsIn up (comes_to s w stand segment).effects.ups → up.place ≡ face_place face
    → IsCaseNotedAt s w (comes_to s w stand segment).effects.notes face up
come-noted s w (at_node end) segment face up among at =
    absurd (none-at end _ face up among at)
come-noted s w (at_gate arrived) segment face up among at =
    gate-noted s w (arrives_at s.gate arrived (Ok segment) w.now w.gate)
    (λ u is_in. cases-noted s.gate arrived (Ok segment) w.now w.gate u is_in) face up among at

pub tick-up_none : (s : PathSetup) (w : Path) (now : ℕ) → (all_tick s now w).effects.ups ≡ []
unfolding then_does ticks_gate and_then tick_step
tick-up_none s w now = refl

pub path-notes : PathNotesCases
unfolding path_step
path-notes s w (sends end block) face up among at = by (sends_block s w end block) among
  where
    by : (r : Result EngineStep SubmitFault) → IsIn up (sent_unless end w r).effects.ups
        → IsCaseNotedAt s w (sent_unless end w r).effects.notes face up
    by (Ok step) among = absurd (none-at end step.effects.ups face up among at)
    by (Err fault) among = absurd among
path-notes s w (delivers k) face up among at = by (slice_get w.sent k) among
  where
    by : (o : Option SentFrom) → IsIn up (delivers_if s w o).effects.ups
        → IsCaseNotedAt s w (delivers_if s w o).effects.notes face up
    by None among = absurd among
    by (Some d) among = come-noted s w (stand_of (across d.from)) d.segment face up among at
path-notes s w (clock_shows now) face up among at = by (nat_lt now w.now) among
  where
    by : (t : Bool) → IsIn up (if t then record { path = w; effects = nothing_done }
        else all_tick s now w).effects.ups
        → IsCaseNotedAt s w (if t then record { path = w; effects = nothing_done }
        else all_tick s now w).effects.notes face up
    by true among = absurd among
    by false among = absurd (subst (λ us. IsIn up us) (tick-up_none s w now) among)
