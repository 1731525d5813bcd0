-- The notes of an event of a path that drains: none says that room was made, or that there was
-- none; storage is short only for a piece that is too long; and reports are made where they can be.

use Rattle.std.proofs.Common.{◌≡◌, ℕ, ◌+◌, ◌^◌, ◌<◌, ◌≤◌, ◌||◌, nat_le, nat_lt, Bool, true, false}
use Rattle.std.proofs.Common.{List, [], ◌∷◌, ◌++◌, map, length, Option, None, Some, Result, Ok}
use Rattle.std.proofs.Common.{Err, refl, sym, ◌∙◌, subst, suc, arith, inl, inr, if◌then◌else◌}
use Rattle.std.specs.List.{AllByRecursion}
use Rattle.std.proofs.lemmas.Bool.{leb-true, ltb-true}
use Rattle.std.proofs.lemmas.Bool.Decides.{nat_tests}
use Rattle.ltp_segment.specs.declared.session.Note.{Note}
use Rattle.ltp_session.specs.Engine.{EngineStep, SubmitFault, UpValue}
use Rattle.ltp_laws.specs.View.{IsIn}
use Rattle.ltp_laws.proofs.ListLemmas.{all-append}
use Rattle.gate_cases.specs.declared.case.GateCase.{GateCase}
use Rattle.gate_cases.specs.declared.case.GateCase.TheVariants as cases
use Rattle.gate_cases.specs.declared.face.Face.{Face}
use Rattle.gate_cases.specs.declared.face.Face.TheVariants as faces
use Rattle.gate_cases.specs.declared.report.AskedReport.{AskedReport}
use Rattle.gate_cases.specs.Bundles.{status_bundle}
use Rattle.gate_cases.specs.Faces.{other_of}
use Rattle.gateway_core.specs.declared.effects.FaceNote.{FaceNote}
use Rattle.gateway_core.specs.declared.note.GateNote.{GateNote}
use Rattle.gateway_core.specs.declared.note.GateNote.TheVariants as gate_notes
use Rattle.gateway_core.specs.Gate.{Gate, GateSetup, and_then, answers_at, at_face, case_note}
use Rattle.gateway_core.specs.Gate.{decides_at, engine_note_at, in_turn, is_unreported, judged_at}
use Rattle.gateway_core.specs.Gate.{noted_at, passes_at, reports_at, sends_at, sends_unless}
use Rattle.gateway_core.specs.Gate.{room_of, submission_at, up_at}
use Rattle.path_laws.specs.declared.effects.NoteAt.{NoteAt}
use Rattle.path_laws.specs.declared.places.Place.{Place}
use Rattle.path_laws.specs.declared.effects.UpAt.{UpAt}
use Rattle.path_laws.specs.Path.{Path, PathSetup, gate_does, gate_note, gate_up, note_from}
use Rattle.path_laws.specs.Places.{face_place}
use Rattle.path_laws.proofs.LogLemmas.{all-in}
use Rattle.path_drain.specs.OnTheWay.{piece_count}
use Rattle.path_drain.specs.Pieces.{HasLongPiece}
use Rattle.path_drain.specs.Owing.{RoomOwing}
use Rattle.path_drain.specs.RoomKept.{HasNoReports, IsOfLength, NoneForRoom}
use Rattle.path_drain.proofs.CaseNotes.{same-face}
use Rattle.path_drain.proofs.GateSteps.{owing, owing-most, passes-room, pieces-room, pieces_owed}
use Rattle.path_drain.proofs.PieceCounts.{pieces-few, storage-of_length}
use Rattle.path_drain.proofs.RoomOwed.{room-fewer}
use Rattle.path_drain.proofs.RoomNotes.{NoneOfRoom, NotForRoom, submission-notes}

-- a block that came at a face in a session has a piece that is too long
pub record LongIn (s : PathSetup) (at : Face) (ups : List UpValue) (n : ℕ) : Type 0 where
  pub up : UpValue
  pub among : IsIn up ups
  pub session : up.session ≡ n
  pub long : HasLongPiece at up.body s.gate.cut

-- A note at a face, where these blocks came at one, of a step at a moment after which so many
-- reports were made: it is none of room; of storage only for a piece that is too long; and a report
-- isn't made only where it can't be.
abbrev pub IsFine : PathSetup → Face → List UpValue → ℕ → ℕ → Face → GateNote → Type 0
IsFine s at ups now made face (gate_notes.Engine note) = NotForRoom note
IsFine s at ups now made face (gate_notes.BadBundle session bad cause) = Unit {0}
IsFine s at ups now made face (gate_notes.Untranslated session cause) = Unit {0}
IsFine s at ups now made face (gate_notes.Expired session) = Unit {0}
IsFine s at ups now made face (gate_notes.HopLimit session) = Unit {0}
IsFine s at ups now made face (gate_notes.Storage session) = (face ≡ at) × LongIn s at ups session
IsFine s at ups now made face (gate_notes.Passed session pieces) = Unit {0}
IsFine s at ups now made face (gate_notes.Reported session) = Unit {0}
IsFine s at ups now made face (gate_notes.Unreported session) = HasNoReports now made

abbrev pub NoteFine : PathSetup → Face → List UpValue → ℕ → ℕ → FaceNote → Type 0
NoteFine s at ups now made n = IsFine s at ups now made n.face n.note

abbrev pub AllFine : PathSetup → Face → List UpValue → ℕ → ℕ → List FaceNote → Type 0
AllFine s at ups now made noted = AllByRecursion (NoteFine s at ups now made) noted

pub both-fine : (s : PathSetup) (at : Face) (ups : List UpValue) (now made : ℕ)
    (first next : List FaceNote) → AllFine s at ups now made first → AllFine s at ups now made next
    → AllFine s at ups now made (first ++ next)
both-fine s at ups now made first next = all-append (NoteFine s at ups now made) first next

pub engine-fine : (s : PathSetup) (at : Face) (ups : List UpValue) (now made : ℕ) (face : Face)
    (noted : List Note) → NoneOfRoom noted
    → AllFine s at ups now made (map (engine_note_at face) noted)
engine-fine s at ups now made face [] none = tt
engine-fine s at ups now made face (note ∷ noted) none =
    (none.0, engine-fine s at ups now made face noted none.1)

-- ---- how many reports were made

-- pieces take no number of a report
sends-counter : (s : GateSetup) (face : Face) (now : ℕ) (block : List ℕ) (g : Gate)
    → (sends_at s face now block g).gate.counter ≡ g.counter
unfolding sends_at
sends-counter s face now block g = by (submission_at s face now block g)
  where
    by : (r : Result EngineStep SubmitFault) → (sends_unless face g r).gate.counter ≡ g.counter
    by (Ok step) = refl
    by (Err fault) = refl

pub pieces-counter : (s : GateSetup) (face : Face) (now : ℕ) (pieces : List (List ℕ)) (g : Gate)
    → (in_turn (sends_at s face now) pieces g).gate.counter ≡ g.counter
unfolding in_turn and_then
pieces-counter s face now [] g = refl
pieces-counter s face now (piece ∷ pieces) g =
    pieces-counter s face now pieces (sends_at s face now piece g).gate
    ∙ sends-counter s face now piece g

answers-counter : (s : GateSetup) (face : Face) (now session : ℕ) (report : Option AskedReport)
    (g : Gate) → g.counter ≤ (answers_at s face now session report g).gate.counter
unfolding answers_at and_then
answers-counter s face now session None g = omega arith
answers-counter s face now session (Some asked) g = by (is_unreported face now g)
  where
    by : (t : Bool) → g.counter ≤ (if t then noted_at face (gate_notes.Unreported session) g
        else reports_at s face now session asked g).gate.counter
    by true = omega arith
    by false = omega (
      arith,
      sends-counter s face now (status_bundle s.gate g.counter now asked)
          (record g { counter = g.counter + 1 }),
    )

passes-counter : (s : GateSetup) (face : Face) (now : ℕ) (up : UpValue) (g : Gate)
    → g.counter ≤ (passes_at s face now up g).gate.counter
unfolding decides_at and_then
passes-counter s face now up g = omega (
  arith,
  pieces-counter s (other_of face) now (judged_at s face now up.body g).pieces g,
  answers-counter s face now up.session (judged_at s face now up.body g).report
      (in_turn (sends_at s (other_of face) now) (judged_at s face now up.body g).pieces g).gate,
)

ups-counter : (s : GateSetup) (face : Face) (now : ℕ) (ups : List UpValue) (g : Gate)
    → g.counter ≤ (in_turn (passes_at s face now) ups g).gate.counter
unfolding in_turn and_then
ups-counter s face now [] g = omega arith
ups-counter s face now (up ∷ ups) g = omega (
  arith,
  passes-counter s face now up g,
  ups-counter s face now ups (passes_at s face now up g).gate,
)

-- ---- a block that came whole

sends-fine : (s : PathSetup) (at : Face) (ups : List UpValue) (now made : ℕ) (face : Face)
    (block : List ℕ) (g : Gate)
    → AllFine s at ups now made (sends_at s.gate face now block g).effects.notes
unfolding sends_at
sends-fine s at ups now made face block g = by (submission_at s.gate face now block g) refl
  where
    by : (r : Result EngineStep SubmitFault) → submission_at s.gate face now block g ≡ r
        → AllFine s at ups now made (sends_unless face g r).effects.notes
    by (Ok step) is = engine-fine s at ups now made face step.effects.notes
        (submission-notes (at_face s.gate.parties face) (at_face g.engines face) block
        (length block) now step is)
    by (Err fault) is = tt

pieces-fine : (s : PathSetup) (at : Face) (ups : List UpValue) (now made : ℕ) (face : Face)
    (pieces : List (List ℕ)) (g : Gate)
    → AllFine s at ups now made (in_turn (sends_at s.gate face now) pieces g).effects.notes
unfolding in_turn and_then
pieces-fine s at ups now made face [] g = tt
pieces-fine s at ups now made face (piece ∷ pieces) g =
    both-fine s at ups now made _ _ (sends-fine s at ups now made face piece g)
    (pieces-fine s at ups now made face pieces _)

-- what is owed at a face and at the other
owing-own : (at : Face) (own across : ℕ) → owing at own across at ≡ own
owing-own faces.Old own across = refl
owing-own faces.New own across = refl

owing-other : (at : Face) (own across : ℕ) → owing at own across (other_of at) ≡ across
owing-other faces.Old own across = refl
owing-other faces.New own across = refl

-- where a session is owed at a face, a report isn't made only where it can't be
unreported-fine : (s : PathSetup) (w : Path) (at : Face) (own across made : ℕ)
    → RoomOwing s w (owing at (own + 1) across) → w.gate.counter ≤ made
    → is_unreported at w.now w.gate ≡ true → HasNoReports w.now made
unreported-fine s w at own across made room few is =
    by (nat_le 64 (length (at_face w.gate.engines at).senders)) few_senders
    (nat_le (2 ^ 32) (at_face w.gate.engines at).next) few_numbers (nat_lt w.now 1000) refl
    (nat_le (2 ^ 32) w.gate.counter) refl is
  where
    owed : owing at (own + 1) across at ≡ own + 1
    owed = owing-own at (own + 1) across

    place : (length (at_face w.gate.engines at).senders < 64)
        × ((at_face w.gate.engines at).next < 2 ^ 32)
    place = (
      omega (arith, (room.faces at).senders, owed),
      omega (arith, room.numbers at, owed),
    )

    above : {most n : ℕ} → n < most → nat_le most n ≡ false
    above low = grind (arith, nat_tests)

    few_senders : nat_le 64 (length (at_face w.gate.engines at).senders) ≡ false
    few_senders = above place.0

    few_numbers : nat_le (2 ^ 32) (at_face w.gate.engines at).next ≡ false
    few_numbers = above place.1

    by : (a : Bool) → a ≡ false → (b : Bool) → b ≡ false → (c : Bool) → nat_lt w.now 1000 ≡ c
        → (d : Bool) → nat_le (2 ^ 32) w.gate.counter ≡ d → (a || b || c || d) ≡ true
        → HasNoReports w.now made
    by true is_a b is_b c is_c d is_d is = absurd (cc)
    by false is_a true is_b c is_c d is_d is = absurd (cc)
    by false is_a false is_b true is_c d is_d is = inl (ltb-true w.now 1000 is_c)
    by false is_a false is_b false is_c true is_d is =
        inr (omega (arith, few, leb-true (2 ^ 32) w.gate.counter is_d))
    by false is_a false is_b false is_c false is_d is = absurd (cc)

answers-fine : (s : PathSetup) (w : Path) (at : Face) (ups : List UpValue)
    (made own across session : ℕ) (report : Option AskedReport)
    → RoomOwing s w (owing at (own + 1) across)
    → (answers_at s.gate at w.now session report w.gate).gate.counter ≤ made
    → AllFine s at ups w.now made (answers_at s.gate at w.now session report w.gate).effects.notes
unfolding answers_at and_then
answers-fine s w at ups made own across session None room few = tt
answers-fine s w at ups made own across session (Some asked) room few =
    by (is_unreported at w.now w.gate) refl few
  where
    by : (t : Bool) → is_unreported at w.now w.gate ≡ t
        → (if t then noted_at at (gate_notes.Unreported session) w.gate
        else reports_at s.gate at w.now session asked w.gate).gate.counter ≤ made
        → AllFine s at ups w.now made
        (if t then noted_at at (gate_notes.Unreported session) w.gate
        else reports_at s.gate at w.now session asked w.gate).effects.notes
    by true is few = (unreported-fine s w at own across made room few is, tt)
    by false is few = both-fine s at ups w.now made _ _
        (sends-fine s at ups w.now made at
        (status_bundle s.gate.gate w.gate.counter w.now asked)
        (record w.gate { counter = w.gate.counter + 1 })) (tt, tt)

case-fine : (s : PathSetup) (at : Face) (ups : List UpValue) (now made session pieces : ℕ)
    (case : GateCase) → (case ≡ cases.Storage → LongIn s at ups session)
    → IsFine s at ups now made at (case_note session pieces case)
case-fine s at ups now made session pieces (cases.BadBundle bad cause) long = tt
case-fine s at ups now made session pieces (cases.Untranslated cause) long = tt
case-fine s at ups now made session pieces cases.Expired long = tt
case-fine s at ups now made session pieces cases.HopLimit long = tt
case-fine s at ups now made session pieces cases.Storage long = (refl, long refl)
case-fine s at ups now made session pieces cases.Passed long = tt

passes-fine : (s : PathSetup) (w : Path) (at : Face) (ups : List UpValue) (made own across : ℕ)
    (up : UpValue) → IsIn up ups
    → RoomOwing s w (owing at (own + 1) (piece_count at s.gate.cut up.body + across))
    → (passes_at s.gate at w.now up w.gate).gate.counter ≤ made
    → AllFine s at ups w.now made (passes_at s.gate at w.now up w.gate).effects.notes
unfolding decides_at and_then
passes-fine s w at ups made own across up among room few =
    both-fine s at ups w.now made _ _ (pieces-fine s at ups w.now made (other_of at)
    (judged_at s.gate at w.now up.body w.gate).pieces w.gate) (
      case-fine s at ups w.now made up.session
          (length (judged_at s.gate at w.now up.body w.gate).pieces)
          (judged_at s.gate at w.now up.body w.gate).case long,
      answers-fine s (gate_does w (in_turn (sends_at s.gate (other_of at) w.now)
          (judged_at s.gate at w.now up.body w.gate).pieces w.gate)).path at ups made own across
          up.session (judged_at s.gate at w.now up.body w.gate).report
          (pieces-room s w at (own + 1) (piece_count at s.gate.cut up.body) across
          (judged_at s.gate at w.now up.body w.gate).pieces
          (pieces-few at up.body w.now s.gate.cut
          (room_of (at_face w.gate.engines (other_of at)))) room) few,
    )
  where
    owed : owing at (own + 1) (piece_count at s.gate.cut up.body + across) (other_of at)
        ≡ piece_count at s.gate.cut up.body + across
    owed = owing-other at (own + 1) (piece_count at s.gate.cut up.body + across)

    long : (judged_at s.gate at w.now up.body w.gate).case ≡ cases.Storage
        → LongIn s at ups up.session
    long is = record {
      up = up;
      among = among;
      session = refl;
      long = storage-of_length at up.body w.now s.gate.cut
          (room_of (at_face w.gate.engines (other_of at)))
          (omega (arith, (room.faces (other_of at)).senders, owed))
          (omega (arith, room.numbers (other_of at), owed)) is;
    }

pub ups-fine : (s : PathSetup) (w : Path) (at : Face) (all : List UpValue) (made : ℕ)
    (ups : List UpValue) → ((up : UpValue) → IsIn up ups → IsIn up all)
    → RoomOwing s w (owing at (length ups) (pieces_owed at s.gate.cut ups))
    → (in_turn (passes_at s.gate at w.now) ups w.gate).gate.counter ≤ made
    → AllFine s at all w.now made (in_turn (passes_at s.gate at w.now) ups w.gate).effects.notes
unfolding in_turn and_then
ups-fine s w at all made [] within room few = tt
ups-fine s w at all made (up ∷ ups) within room few =
    let owed = room-fewer s w (owing at (suc (length ups)) (pieces_owed at s.gate.cut (up ∷ ups)))
    (owing at (length ups + 1) (pieces_owed at s.gate.cut (up ∷ ups)))
    (owing-most at (suc (length ups)) (length ups + 1) _ _ (omega arith) (omega arith)) room in
    both-fine s at all w.now made _ _
    (passes-fine s w at all made (length ups) (pieces_owed at s.gate.cut ups) up
    (within up (inl refl)) owed
    (omega (
      arith,
      few,
      ups-counter s.gate at w.now ups (passes_at s.gate at w.now up w.gate).gate,
    )))
    (ups-fine s (gate_does w (passes_at s.gate at w.now up w.gate)).path at all made ups
    (λ u among. within u (inr among))
    (passes-room s w at (length ups) (pieces_owed at s.gate.cut ups) up owed) few)

-- ---- all notes of an event

-- a note at a place, where these blocks were handed up
abbrev pub IsFineAt : PathSetup → List UpAt → ℕ → ℕ → Place → GateNote → Type 0
IsFineAt s ups now made place (gate_notes.Engine note) = NotForRoom note
IsFineAt s ups now made place (gate_notes.BadBundle session bad cause) = Unit {0}
IsFineAt s ups now made place (gate_notes.Untranslated session cause) = Unit {0}
IsFineAt s ups now made place (gate_notes.Expired session) = Unit {0}
IsFineAt s ups now made place (gate_notes.HopLimit session) = Unit {0}
IsFineAt s ups now made place (gate_notes.Storage session) =
    (face : Face) → place ≡ face_place face → IsOfLength s ups face session
IsFineAt s ups now made place (gate_notes.Passed session pieces) = Unit {0}
IsFineAt s ups now made place (gate_notes.Reported session) = Unit {0}
IsFineAt s ups now made place (gate_notes.Unreported session) = HasNoReports now made

abbrev pub PlaceFine : PathSetup → List UpAt → ℕ → ℕ → NoteAt → Type 0
PlaceFine s ups now made n = IsFineAt s ups now made n.place n.note

pub node-fine : (s : PathSetup) (ups : List UpAt) (now made : ℕ) (place : Place)
    (noted : List Note) → NoneOfRoom noted
    → AllByRecursion (PlaceFine s ups now made) (map (note_from place) noted)
node-fine s ups now made place [] none = tt
node-fine s ups now made place (note ∷ noted) none =
    (none.0, node-fine s ups now made place noted none.1)

-- a note of the gate, whose blocks are among those of the event
gate-note_fine : (s : PathSetup) (at : Face) (ups : List UpValue) (all : List UpAt)
    (now made : ℕ) → ((up : UpValue) → IsIn up ups → IsIn (gate_up (up_at at up)) all)
    → (face : Face) (note : GateNote) → IsFine s at ups now made face note
    → IsFineAt s all now made (face_place face) note
gate-note_fine s at ups all now made within face (gate_notes.Engine note) fine = fine
gate-note_fine s at ups all now made within face (gate_notes.BadBundle session bad cause) fine = tt
gate-note_fine s at ups all now made within face (gate_notes.Untranslated session cause) fine = tt
gate-note_fine s at ups all now made within face (gate_notes.Expired session) fine = tt
gate-note_fine s at ups all now made within face (gate_notes.HopLimit session) fine = tt
gate-note_fine s at ups all now made within face (gate_notes.Storage session) (same, long) =
    λ there place.
    let is : there ≡ at = sym (same-face face there place) ∙ same in
    subst (λ f. IsOfLength s all f session) (sym is) (record {
      up = gate_up (up_at at long.up);
      among = within long.up long.among;
      place = refl;
      session = long.session;
      long = long.long;
    })
gate-note_fine s at ups all now made within face (gate_notes.Passed session pieces) fine = tt
gate-note_fine s at ups all now made within face (gate_notes.Reported session) fine = tt
gate-note_fine s at ups all now made within face (gate_notes.Unreported session) fine = fine

pub gate-fine : (s : PathSetup) (at : Face) (ups : List UpValue) (all : List UpAt) (now made : ℕ)
    → ((up : UpValue) → IsIn up ups → IsIn (gate_up (up_at at up)) all)
    → (noted : List FaceNote) → AllFine s at ups now made noted
    → AllByRecursion (PlaceFine s all now made) (map gate_note noted)
gate-fine s at ups all now made within [] fine = tt
gate-fine s at ups all now made within (note ∷ noted) fine = (
  gate-note_fine s at ups all now made within note.face note.note fine.0,
  gate-fine s at ups all now made within noted fine.1,
)

pub none-for_room : (s : PathSetup) (ups : List UpAt) (now made : ℕ) (noted : List NoteAt)
    → AllByRecursion (PlaceFine s ups now made) noted → NoneForRoom noted
none-for_room s ups now made noted all = record {
  evicted = λ place n among. all-in (PlaceFine s ups now made) noted all _ among;
  full = λ place n among. all-in (PlaceFine s ups now made) noted all _ among;
}

pub storage-long : (s : PathSetup) (ups : List UpAt) (now made : ℕ) (noted : List NoteAt)
    → AllByRecursion (PlaceFine s ups now made) noted → (face : Face) (n : ℕ)
    → IsIn (record { place = face_place face; note = gate_notes.Storage n }) noted
    → IsOfLength s ups face n
storage-long s ups now made noted all face n among =
    all-in (PlaceFine s ups now made) noted all
    (record { place = face_place face; note = gate_notes.Storage n }) among face refl

pub unreported-late : (s : PathSetup) (ups : List UpAt) (now made : ℕ) (noted : List NoteAt)
    → AllByRecursion (PlaceFine s ups now made) noted → (face : Face) (n : ℕ)
    → IsIn (record { place = face_place face; note = gate_notes.Unreported n }) noted
    → HasNoReports now made
unreported-late s ups now made noted all face n among =
    all-in (PlaceFine s ups now made) noted all
    (record { place = face_place face; note = gate_notes.Unreported n }) among
