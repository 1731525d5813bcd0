-- What the gate decides about a block it does.

use Rattle.std.proofs.Common.{◌≡◌, ◌≢◌, ℕ, zero, suc, ◌+◌, ◌^◌, ◌<◌, ◌≤◌, Bool, true, false, ◌==◌}
use Rattle.std.proofs.Common.{◌||◌, nat_lt, if◌then◌else◌}
use Rattle.std.proofs.Common.{nat_le, List, [], ◌∷◌, ◌++◌, map, length, Option, None, Some, Result}
use Rattle.std.proofs.Common.{Ok, Err, ◌⊎◌, inl, inr, refl, sym, ◌∙◌, ap, subst, arith}
use Rattle.std.proofs.lemmas.Bool.Decides.{nat_tests}
use Rattle.std.proofs.lemmas.List.{append-nil}
use Rattle.std.proofs.lemmas.List.Elements.{All-head, All-tail}
use Rattle.std.specs.List.{All, AllByRecursion, slice_get}
use Rattle.endpoint.specs.Endpoints.{IsEndpoint}
use Rattle.wire_fields.specs.Reading.{IsOctets}
use Rattle.ltp_segment.specs.declared.session.Note.{Note}
use Rattle.ltp_segment.specs.declared.session.TheConstants.{BLOCK_MAX}
use Rattle.ltp_segment.specs.Values.{SegmentValue}
use Rattle.ltp_session.specs.Engine.{Engine, EngineStep, Party, SubmitFault, UpValue, begun}
use Rattle.ltp_session.specs.Engine.{submit_fault, submit_step, submits, submits_unless}
use Rattle.ltp_session.specs.Sender.{begin}
use Rattle.ltp_laws.specs.View.{IsIn}
use Rattle.gate_cases.specs.declared.case.GateCase.{GateCase}
use Rattle.gate_cases.specs.declared.case.GateCase.TheVariants as cases
use Rattle.gate_cases.specs.declared.face.Face.{Face}
use Rattle.gate_cases.specs.declared.face.Face.TheVariants as faces
use Rattle.gate_cases.specs.declared.judged.Judged.{Judged}
use Rattle.gate_cases.specs.declared.report.AskedReport.{AskedReport}
use Rattle.gate_cases.specs.Bundles.{status_bundle}
use Rattle.gate_cases.specs.Cases.{judged}
use Rattle.gate_cases.specs.Faces.{other_of}
use Rattle.gate_cases.specs.Promises.{HaveRoom, IsBlock}
use Rattle.gate_cases.proofs.PromiseLemmas.{pieces-have-room}
use Rattle.gateway_core.specs.declared.effects.FaceNote.{FaceNote}
use Rattle.gateway_core.specs.declared.effects.FaceUp.{FaceUp}
use Rattle.gateway_core.specs.declared.note.GateNote.{GateNote}
use Rattle.gateway_core.specs.declared.note.GateNote.TheVariants as notes
use Rattle.gateway_core.specs.Gate.{Gate, GateSetup, GateStep, and_then, answers_at, arrives_at}
use Rattle.gateway_core.specs.Gate.{at_face, case_note, decides_at, does_at, engine_note_at}
use Rattle.gateway_core.specs.Gate.{hears_at, in_turn, is_unreported, judged_at, note_at, noted_at}
use Rattle.gateway_core.specs.Gate.{passes_at, reports_at, room_of, sends_at, sends_unless}
use Rattle.gateway_core.specs.Gate.{submission_at, up_at, with_face}
use Rattle.path_laws.specs.declared.effects.NoteAt.{NoteAt}
use Rattle.path_laws.specs.declared.effects.UpAt.{UpAt}
use Rattle.path_laws.specs.declared.places.PathEnd.{PathEnd}
use Rattle.path_laws.specs.Places.{Stand, across, at_gate, at_node, end_of, face_place, stand_of}
use Rattle.path_laws.specs.Path.{Path, PathEvent, PathSetup, PathStep, SentFrom, all_tick}
use Rattle.path_laws.specs.Path.{clock_shows, comes_to, delivers, delivers_if, gate_note, gate_up}
use Rattle.path_laws.specs.Path.{nothing_done, path_run}
use Rattle.path_laws.specs.Path.{path_step, sends, sends_block, sent_unless, up_from}
use Rattle.path_laws.specs.Log.{Begun, a_piece, a_report, begun_at, begun_by}
use Rattle.path_laws.specs.Log.{come_begun, decided_begun, delivered_begun, passed_begun}
use Rattle.path_laws.specs.Log.{pieces_begun, report_begun}
use Rattle.path_laws.proofs.LogLemmas.{all-in, all-more, in-left, in-right, made-in}
use Rattle.path_drain.proofs.AdvanceLemmas.{in-either}
use Rattle.path_drain.proofs.AskedLemmas.{asked-block}
use Rattle.path_drain.proofs.CaseNotes.{HasOneAtMost, all-up_none, heard-one, none-at, other-stays}
use Rattle.path_drain.proofs.CaseNotes.{path-notes, same-face, tick-up_none}
use Rattle.path_drain.proofs.PathNotes.{pieces-counter}
use Rattle.path_drain.proofs.PieceCounts.{pieces-counted}
use Rattle.path_drain.proofs.SubmitSteps.{length-more}
use Rattle.path_drain.proofs.CompletionLemmas.{cases-noted}
use Rattle.path_drain.specs.CarriedOut.{DecisionsAreCarriedOut, IsBegun, IsReportBegun}
use Rattle.path_drain.specs.CarriedOut.{IsReportNoted, PiecesBegin, ReportBegins, TakesBlocks}

-- ---- a block that is submitted where there is room

-- room for so many blocks more
record HasPlaces (e : Engine) (n : ℕ) : Type 0 where
  senders : length e.senders + n ≤ 64
  numbers : e.next + n ≤ 2 ^ 32

-- an engine that takes blocks of the greatest length, and sends 64 sessions at least at once
record TakesAll (p : Party) : Type 0 where
  most : p.most ≡ BLOCK_MAX
  places : 64 ≤ p.sessions

not_zero : (n : ℕ) → 0 < n → (n == 0) ≡ false
not_zero n is = grind (arith, nat_tests)

not_below : (a b : ℕ) → b ≤ a → nat_lt a b ≡ false
not_below a b is = grind (arith, nat_tests)

not_up_to : (a b : ℕ) → b < a → nat_le a b ≡ false
not_up_to a b is = grind (arith, nat_tests)

no-fault : (p : Party) (e : Engine) (block : List ℕ) (n : ℕ) → TakesAll p → IsBlock block
    → HasPlaces e (suc n) → submit_fault p e block ≡ None
no-fault p e block n takes is places = rw (
  not_zero (length block) is.some,
  not_below p.most (length block) (subst (λ (m : ℕ). length block ≤ m) (sym takes.most) is.small),
  not_up_to (2 ^ 32) e.next (omega (arith, places.numbers)),
  not_up_to p.sessions (length e.senders) (omega (arith, takes.places, places.senders)),
) refl

-- what is answered then
abbrev accepted : Party → Engine → List ℕ → ℕ → Result EngineStep SubmitFault
accepted p e block now =
    submit_step p e (Ok (begun e (begin p.policy e.next block (length block) now)))

is-accepted : (s : GateSetup) (face : Face) (now : ℕ) (block : List ℕ) (g : Gate) (n : ℕ)
    → TakesAll (at_face s.parties face) → IsBlock block
    → HasPlaces (at_face g.engines face) (suc n)
    → submission_at s face now block g
    ≡ accepted (at_face s.parties face) (at_face g.engines face) block now
unfolding submits
is-accepted s face now block g n takes is places =
    let p = at_face s.parties face in
    let e = at_face g.engines face in
    ap (λ (f : Option SubmitFault).
    submit_step p e (submits_unless f p e block (length block) now))
    (no-fault p e block n takes is places)

same-there : (pair : Engine × Engine) (face : Face) (e : Engine)
    → at_face (with_face pair face e) face ≡ e
same-there pair faces.Old e = refl
same-there pair faces.New e = refl

-- the engine after it
abbrev with_session : Party → Engine → List ℕ → ℕ → Engine
with_session p e block now = (begun e (begin p.policy e.next block (length block) now)).engine

places-left : (p : Party) (e : Engine) (block : List ℕ) (now n : ℕ) → HasPlaces e (suc n)
    → HasPlaces (with_session p e block now) n
places-left p e block now n places = record {
  senders = omega (
    arith,
    places.senders,
    length-more e.next (begin p.policy e.next block (length block) now).next e.senders,
  );
  numbers = omega (arith, places.numbers);
}

-- so it is at the face of the gate after the block was submitted
places-after : (s : GateSetup) (face : Face) (now : ℕ) (block : List ℕ) (g : Gate) (n : ℕ)
    → TakesAll (at_face s.parties face) → IsBlock block
    → HasPlaces (at_face g.engines face) (suc n)
    → HasPlaces (at_face (sends_at s face now block g).gate.engines face) n
unfolding sends_at
places-after s face now block g n takes is places =
    let p = at_face s.parties face in
    let e = at_face g.engines face in
    rw (is-accepted s face now block g n takes is places)
    (subst (λ (f : Engine). HasPlaces f n)
    (sym (same-there g.engines face (with_session p e block now)))
    (places-left p e block now n places))

-- ---- pieces

pieces-begin : (s : GateSetup) (to : Face) (now : ℕ) (end : PathEnd) (n i : ℕ)
    (pieces : List (List ℕ)) (g : Gate) → TakesAll (at_face s.parties to)
    → All IsBlock pieces → HasPlaces (at_face g.engines to) (length pieces)
    → (k : ℕ) (piece : List ℕ) → slice_get pieces k ≡ Some piece
    → IsBegun (pieces_begun s to now end n i pieces g) (face_place to) piece (a_piece end n (i + k))
unfolding pieces_begun
pieces-begin s to now end n i [] g takes blocks places k piece is = absurd (cc)
pieces-begin s to now end n i (first ∷ pieces) g takes blocks places zero piece is =
    let same : first ≡ piece = cc in
    let begins = is-accepted s to now first g (length pieces) takes
    (All-head IsBlock first pieces blocks) places in
    record {
      session = (at_face g.engines to).next;
      among = in-left _ (begun_by s to now first (a_piece end n i) g)
          (pieces_begun s to now end n (i + 1) pieces (sends_at s to now first g).gate)
          (rw begins (inl (as_piece first piece (plus_none i) same)));
    }
  where
    plus_none : (i : ℕ) → i ≡ i + 0
    plus_none i = omega arith

    session : List ℕ → ℕ → Begun
    session block j = record {
      place = face_place to;
      session = (at_face g.engines to).next;
      block = block;
      origin = a_piece end n j;
    }

    as_piece : (first piece : List ℕ) → i ≡ i + 0 → first ≡ piece
        → session first i ≡ session piece (i + 0)
    as_piece first piece index same = ap (λ (b : List ℕ). session b i) same
        ∙ ap (session piece) index
pieces-begin s to now end n i (first ∷ pieces) g takes blocks places (suc k) piece is =
    let begins = pieces-begin s to now end n (i + 1) pieces (sends_at s to now first g).gate takes
    (All-tail IsBlock first pieces blocks)
    (places-after s to now first g (length pieces) takes (All-head IsBlock first pieces blocks)
    places) k piece is in
    record {
      session = begins.session;
      among = in-right _ (begun_by s to now first (a_piece end n i) g)
          (pieces_begun s to now end n (i + 1) pieces (sends_at s to now first g).gate)
          (subst (λ (j : ℕ). IsIn {X = Begun} (record {
            place = face_place to;
            session = begins.session;
            block = piece;
            origin = a_piece end n j;
          }) (pieces_begun s to now end n (i + 1) pieces (sends_at s to now first g).gate))
          (plus_one i k) begins.among);
    }
  where
    plus_one : (i k : ℕ) → (i + 1) + k ≡ i + suc k
    plus_one i k = omega arith

-- ---- what is decided

data IsPassed (c : GateCase) : Type 0 where
  passes : c ≡ cases.Passed → IsPassed c
  stops : (c ≢ cases.Passed) → IsPassed c

is-passed : (c : GateCase) → IsPassed c
is-passed (cases.BadBundle at cause) = stops (λ is. absurd (cc))
is-passed (cases.Untranslated cause) = stops (λ is. absurd (cc))
is-passed cases.Expired = stops (λ is. absurd (cc))
is-passed cases.HopLimit = stops (λ is. absurd (cc))
is-passed cases.Storage = stops (λ is. absurd (cc))
is-passed cases.Passed = passes refl

decided-begin : (s : GateSetup) (face : Face) (now n : ℕ) (body : List ℕ) (g : Gate)
    → TakesAll (at_face s.parties (other_of face))
    → (i : ℕ) (piece : List ℕ) → slice_get (judged_at s face now body g).pieces i ≡ Some piece
    → IsBegun (decided_begun s face now n (judged_at s face now body g) g)
    (face_place (other_of face)) piece (a_piece (end_of face) n i)
decided-begin s face now n body g takes i piece is = by (is-passed j.case)
  where
    none_plus : (k : ℕ) → 0 + k ≡ k
    none_plus k = omega arith

    j : Judged
    j = judged_at s face now body g

    to : Engine
    to = at_face g.engines (other_of face)

    sent : List Begun
    sent = pieces_begun s (other_of face) now (end_of face) n 0
        (judged_at s face now body g).pieces g

    reports : List Begun
    reports = report_begun s face now (end_of face) n (judged_at s face now body g).report
        (in_turn (sends_at s (other_of face) now) (judged_at s face now body g).pieces g).gate

    begun_among : HaveRoom (room_of to) (judged_at s face now body g).pieces
        → IsBegun (sent ++ reports) (face_place (other_of face)) piece (a_piece (end_of face) n i)
    begun_among room =
        let begins = pieces-begin s (other_of face) now (end_of face) n 0
        (judged_at s face now body g).pieces g takes room.blocks
        (record { senders = room.sessions; numbers = room.numbers }) i piece is in
        record {
          session = begins.session;
          among = in-left _ sent reports
              (subst (λ (k : ℕ). IsIn {X = Begun} (record {
                place = face_place (other_of face);
                session = begins.session;
                block = piece;
                origin = a_piece (end_of face) n k;
              }) sent) (none_plus i) begins.among);
        }

    by : IsPassed (judged_at s face now body g).case
        → IsBegun (decided_begun s face now n (judged_at s face now body g) g)
        (face_place (other_of face)) piece (a_piece (end_of face) n i)
    by (passes is_passed) =
        begun_among (pieces-have-room face body now s.cut (room_of to) is_passed)
    by (stops is_not) =
        let none = (pieces-counted face body now s.cut (room_of to)).stopped is_not in
        let nothing : slice_get {X = List ℕ} [] i ≡ Some piece =
        subst (λ (pieces : List (List ℕ)). slice_get pieces i ≡ Some piece) none is in
        absurd (cc)

-- ---- an event

takes-all : (s : PathSetup) → TakesBlocks s → (face : Face)
    → TakesAll (at_face s.gate.parties face)
takes-all s takes face = record { most = takes.each face; places = takes.places face }

-- of one block at most, at a gate h whose other face is as it was in w's
passed-begin : (s : PathSetup) (w : Path) (face : Face) (ups : List UpValue) (h : Gate)
    (up : UpValue) → TakesBlocks s → HasOneAtMost ups
    → at_face h.engines (other_of face) ≡ at_face w.gate.engines (other_of face) → IsIn up ups
    → (i : ℕ) (piece : List ℕ)
    → slice_get (judged_at s.gate face w.now up.body w.gate).pieces i ≡ Some piece
    → IsBegun (passed_begun s.gate face w.now ups h) (face_place (other_of face)) piece
    (a_piece (end_of face) up.session i)
unfolding passed_begun
passed-begin s w face [] h up takes one same among i piece is = absurd among
passed-begin s w face (x ∷ ups) h up takes one same (inl first) i piece is =
    let at_h : slice_get (judged_at s.gate face w.now x.body h).pieces i ≡ Some piece =
    subst (λ (e : Engine).
    slice_get (judged face x.body w.now s.gate.cut (room_of e)).pieces i ≡ Some piece) (sym same)
    (subst (λ (u : UpValue).
    slice_get (judged_at s.gate face w.now u.body w.gate).pieces i ≡ Some piece) (sym first) is) in
    let begins = decided-begin s.gate face w.now x.session x.body h
    (takes-all s takes (other_of face)) i piece at_h in
    record {
      session = begins.session;
      among = in-left _
          (decided_begun s.gate face w.now x.session (judged_at s.gate face w.now x.body h) h)
          (passed_begun s.gate face w.now ups (passes_at s.gate face w.now x h).gate)
          (subst (λ (u : UpValue). IsIn {X = Begun} (record {
            place = face_place (other_of face);
            session = begins.session;
            block = piece;
            origin = a_piece (end_of face) u.session i;
          }) (decided_begun s.gate face w.now x.session (judged_at s.gate face w.now x.body h) h))
          first begins.among);
    }
passed-begin s w face (x ∷ ups) h up takes one same (inr among) i piece is =
    absurd (subst (λ (us : List UpValue). IsIn up us) one among)

-- ---- a report

-- a note that says of no report that it was made
abbrev IsOther : GateNote → Type 0
IsOther (notes.Engine note) = Unit {0}
IsOther (notes.BadBundle session at cause) = Unit {0}
IsOther (notes.Untranslated session cause) = Unit {0}
IsOther (notes.Expired session) = Unit {0}
IsOther (notes.HopLimit session) = Unit {0}
IsOther (notes.Storage session) = Unit {0}
IsOther (notes.Passed session pieces) = Unit {0}
IsOther (notes.Reported session) = ⊥
IsOther (notes.Unreported session) = Unit {0}

abbrev AreOther : List FaceNote → Type 0
AreOther noted = AllByRecursion (λ (x : FaceNote). IsOther x.note) noted

engine-other : (face : Face) (noted : List Note) → AreOther (map (engine_note_at face) noted)
engine-other face [] = tt
engine-other face (note ∷ noted) = (tt, engine-other face noted)

sends-other : (s : GateSetup) (face : Face) (now : ℕ) (block : List ℕ) (g : Gate)
    → AreOther (sends_at s face now block g).effects.notes
unfolding sends_at
sends-other s face now block g = by (submission_at s face now block g)
  where
    by : (r : Result EngineStep SubmitFault) → AreOther (sends_unless face g r).effects.notes
    by (Ok step) = engine-other face step.effects.notes
    by (Err fault) = tt

pieces-other : (s : GateSetup) (face : Face) (now : ℕ) (pieces : List (List ℕ)) (g : Gate)
    → AreOther (in_turn (sends_at s face now) pieces g).effects.notes
unfolding in_turn and_then
pieces-other s face now [] g = tt
pieces-other s face now (piece ∷ pieces) g =
    all-more (λ (x : FaceNote). IsOther x.note) _ _ (sends-other s face now piece g)
    (pieces-other s face now pieces (sends_at s face now piece g).gate)

case-other : (session pieces : ℕ) (case : GateCase) → IsOther (case_note session pieces case)
case-other session pieces (cases.BadBundle at cause) = tt
case-other session pieces (cases.Untranslated cause) = tt
case-other session pieces cases.Expired = tt
case-other session pieces cases.HopLimit = tt
case-other session pieces cases.Storage = tt
case-other session pieces cases.Passed = tt

none-other : (noted : List FaceNote) (x : FaceNote) (n : ℕ) → AreOther noted → IsIn x noted
    → x.note ≡ notes.Reported n → ⊥
none-other noted x n all among is =
    subst IsOther is (all-in (λ (x : FaceNote). IsOther x.note) noted all x among)

-- a report is asked for, and can be made
record IsMade (face : Face) (now : ℕ) (report : Option AskedReport) (g : Gate) : Type 0 where
  asked : AskedReport
  asks : report ≡ Some asked
  can : is_unreported face now g ≡ false

answers-made : (s : GateSetup) (face : Face) (now session : ℕ) (report : Option AskedReport)
    (g : Gate) (x : FaceNote) (n : ℕ)
    → IsIn x (answers_at s face now session report g).effects.notes → x.note ≡ notes.Reported n
    → IsMade face now report g
unfolding answers_at and_then
answers-made s face now session None g x n among is = absurd among
answers-made s face now session (Some asked) g x n among is =
    by (is_unreported face now g) refl among
  where
    by : (t : Bool) → is_unreported face now g ≡ t
        → IsIn x (if t then noted_at face (notes.Unreported session) g
        else reports_at s face now session asked g).effects.notes
        → IsMade face now (Some asked) g
    by true cannot (inl same) =
        let other : notes.Unreported session ≡ notes.Reported n =
        ap (λ (y : FaceNote). y.note) same ∙ is in
        absurd (cc)
    by true cannot (inr none) = absurd none
    by false can there = record { asked = asked; asks = refl; can = can }

-- where the gate stands once the pieces are sent
abbrev after_pieces : GateSetup → Face → ℕ → List ℕ → Gate → GateStep
after_pieces s face now body g =
    in_turn (sends_at s (other_of face) now) (judged_at s face now body g).pieces g

passes-made : (s : GateSetup) (face : Face) (now : ℕ) (up : UpValue) (g : Gate) (x : FaceNote)
    (n : ℕ) → IsIn x (passes_at s face now up g).effects.notes → x.note ≡ notes.Reported n
    → IsMade face now (judged_at s face now up.body g).report
    (after_pieces s face now up.body g).gate
unfolding decides_at and_then
passes-made s face now up g x n among is = by (in-either x sent.effects.notes later among)
  where
    sent : GateStep
    sent = after_pieces s face now up.body g

    case : GateNote
    case = case_note up.session (length (judged_at s face now up.body g).pieces)
        (judged_at s face now up.body g).case

    later : List FaceNote
    later = note_at face case
        ∷ (answers_at s face now up.session (judged_at s face now up.body g).report
        (after_pieces s face now up.body g).gate).effects.notes

    by : IsIn x sent.effects.notes ⊎ IsIn x later
        → IsMade face now (judged_at s face now up.body g).report
        (after_pieces s face now up.body g).gate
    by (inl there) = absurd (none-other sent.effects.notes x n
        (pieces-other s (other_of face) now (judged_at s face now up.body g).pieces g) there is)
    by (inr (inl same)) = absurd (subst IsOther (ap (λ (y : FaceNote). y.note) same ∙ is)
        (case-other up.session (length (judged_at s face now up.body g).pieces)
        (judged_at s face now up.body g).case))
    by (inr (inr there)) = answers-made s face now up.session
        (judged_at s face now up.body g).report (after_pieces s face now up.body g).gate x n there
        is

-- then there is a place and a number for it
made-places : (face : Face) (now : ℕ) (g : Gate) → is_unreported face now g ≡ false
    → HasPlaces (at_face g.engines face) 1
made-places face now g can =
    let parts = neither (nat_le 64 (length (at_face g.engines face).senders))
    (nat_le (2 ^ 32) (at_face g.engines face).next) (nat_lt now 1000)
    (nat_le (2 ^ 32) g.counter) can in
    record {
      senders = omega (arith, under 64 (length (at_face g.engines face).senders) parts.0);
      numbers = omega (arith, under (2 ^ 32) (at_face g.engines face).next parts.1);
    }
  where
    neither : (a b c d : Bool) → (a || b || c || d) ≡ false → (a ≡ false) × (b ≡ false)
    neither true b c d is = absurd (cc)
    neither false true c d is = absurd (cc)
    neither false false c d is = (refl, refl)

    under : (most n : ℕ) → nat_le most n ≡ false → n < most
    under most n is = grind (arith, nat_tests, is)

made-begins : (s : GateSetup) (face : Face) (now : ℕ) (end : PathEnd) (n : ℕ)
    (report : Option AskedReport) (g : Gate) → TakesAll (at_face s.parties face)
    → (made : IsMade face now report g) → IsBlock (status_bundle s.gate g.counter now made.asked)
    → IsBegun (report_begun s face now end n report g) (face_place face)
    (status_bundle s.gate g.counter now made.asked) (a_report end n)
made-begins s face now end n report g takes made is =
    subst (λ (r : Option AskedReport). IsBegun (report_begun s face now end n r g)
    (face_place face) block (a_report end n)) (sym made.asks)
    (by (is_unreported face now g) made.can)
  where
    block : List ℕ
    block = status_bundle s.gate g.counter now made.asked

    counted : Gate
    counted = record g { counter = g.counter + 1 }

    by : (t : Bool) → t ≡ false
        → IsBegun (if t then [] else begun_by s face now block (a_report end n) counted)
        (face_place face) block (a_report end n)
    by true can = absurd (cc)
    by false can =
        let begins = is-accepted s face now block counted 0 takes is
        (made-places face now g made.can) in
        record { session = (at_face g.engines face).next; among = rw begins (inl refl) }

decided-report : (s : GateSetup) (face : Face) (now n : ℕ) (body : List ℕ) (g : Gate)
    → TakesAll (at_face s.parties face) → IsEndpoint s.gate → IsOctets body
    → (made : IsMade face now (judged_at s face now body g).report
    (after_pieces s face now body g).gate)
    → IsBegun (decided_begun s face now n (judged_at s face now body g) g) (face_place face)
    (status_bundle s.gate (after_pieces s face now body g).gate.counter now made.asked)
    (a_report (end_of face) n)
decided-report s face now n body g takes legal fits made =
    let begins = made-begins s face now (end_of face) n (judged_at s face now body g).report sent
    takes made (asked-block s.gate sent.counter face body now s.cut
    (room_of (at_face g.engines (other_of face))) made.asked legal fits made.asks) in
    record {
      session = begins.session;
      among = in-right _
          (pieces_begun s (other_of face) now (end_of face) n 0 (judged_at s face now body g).pieces
          g)
          (report_begun s face now (end_of face) n (judged_at s face now body g).report sent)
          begins.among;
    }
  where
    sent : Gate
    sent = (after_pieces s face now body g).gate

-- of one block at most, at a gate h that is as w's was but for the face at which the block came
passed-report : (s : PathSetup) (w : Path) (face : Face) (ups : List UpValue) (h : Gate)
    (up : UpValue) (x : FaceNote) (n : ℕ) → TakesBlocks s → HasOneAtMost ups
    → at_face h.engines (other_of face) ≡ at_face w.gate.engines (other_of face)
    → h.counter ≡ w.gate.counter → IsIn up ups → IsEndpoint s.gate.gate → IsOctets up.body
    → IsIn x (in_turn (passes_at s.gate face w.now) ups h).effects.notes
    → x.note ≡ notes.Reported n
    → IsReportBegun s w (passed_begun s.gate face w.now ups h) face (up_from (face_place face) up)
unfolding passed_begun in_turn and_then
passed-report s w face [] h up x n takes one room counter among legal fits noted is = absurd among
passed-report s w face (y ∷ ups) h up x n takes one room counter (inr among) legal fits noted is =
    absurd (subst (λ (us : List UpValue). IsIn up us) one among)
passed-report s w face (y ∷ ups) h up x n takes one room counter (inl first) legal fits noted is =
    subst (λ (u : UpValue). IsReportBegun s w (passed_begun s.gate face w.now (y ∷ ups) h) face
    (up_from (face_place face) u)) first
    (by (in-either x (passes_at s.gate face w.now y h).effects.notes later noted))
  where
    later : List FaceNote
    later = (in_turn (passes_at s.gate face w.now) ups
        (passes_at s.gate face w.now y h).gate).effects.notes

    y_fits : IsOctets y.body
    y_fits = subst (λ (u : UpValue). IsOctets u.body) (sym first) fits

    same : judged_at s.gate face w.now y.body h ≡ judged_at s.gate face w.now y.body w.gate
    same = ap (λ (e : Engine). judged face y.body w.now s.gate.cut (room_of e)) room

    number : (after_pieces s.gate face w.now y.body h).gate.counter ≡ w.gate.counter
    number = pieces-counter s.gate (other_of face) w.now
        (judged_at s.gate face w.now y.body h).pieces h ∙ counter

    begun : List Begun
    begun = passed_begun s.gate face w.now (y ∷ ups) h

    from : IsMade face w.now (judged_at s.gate face w.now y.body h).report
        (after_pieces s.gate face w.now y.body h).gate
        → IsReportBegun s w begun face (up_from (face_place face) y)
    from made =
        let begins = decided-report s.gate face w.now y.session y.body h
        (takes-all s takes face) legal y_fits made in
        record {
          asked = made.asked;
          asks = subst (λ (j : Judged). j.report ≡ Some made.asked) same made.asks;
          begins = subst (λ (k : ℕ). IsBegun begun (face_place face)
              (status_bundle s.gate.gate k w.now made.asked) (a_report (end_of face) y.session))
              number (record {
                session = begins.session;
                among = in-left _
                    (decided_begun s.gate face w.now y.session
                    (judged_at s.gate face w.now y.body h) h)
                    (passed_begun s.gate face w.now ups (passes_at s.gate face w.now y h).gate)
                    begins.among;
              });
        }

    by : IsIn x (passes_at s.gate face w.now y h).effects.notes ⊎ IsIn x later
        → IsReportBegun s w begun face (up_from (face_place face) y)
    by (inl there) = from (passes-made s.gate face w.now y h x n there is)
    by (inr there) = absurd (subst (λ (us : List UpValue). IsIn x
        (in_turn (passes_at s.gate face w.now) us
        (passes_at s.gate face w.now y h).gate).effects.notes) one there)

-- ---- an event that hands a block up

-- a segment comes to a face, whose engine hands the block up
record IsHeardAt (s : PathSetup) (w : Path) (face : Face) (segment : SegmentValue) (up : UpAt)
    : Type 0 where
  value : UpValue
  among : IsIn value (hears_at s.gate face w.gate (Ok segment) w.now).effects.ups
  is : up_from (face_place face) value ≡ up

-- to that of one place
record IsHeardThere (s : PathSetup) (w : Path) (stand : Stand) (segment : SegmentValue)
    (face : Face) (up : UpAt) : Type 0 where
  stands : stand ≡ at_gate face
  heard : IsHeardAt s w face segment up

come-heard : (s : PathSetup) (w : Path) (stand : Stand) (segment : SegmentValue) (face : Face)
    (up : UpAt) → IsIn up (comes_to s w stand segment).effects.ups
    → up.place ≡ face_place face → IsHeardThere s w stand segment face up
unfolding arrives_at and_then
come-heard s w (at_node end) segment face up among at = absurd (none-at end _ face up among at)
come-heard s w (at_gate arrived) segment face up among at =
    let heard = hears_at s.gate arrived w.gate (Ok segment) w.now in
    let h = (does_at arrived w.gate heard).gate in
    let none : map (up_at arrived) heard.effects.ups
    ++ (in_turn (passes_at s.gate arrived w.now) heard.effects.ups h).effects.ups
    ≡ map (up_at arrived) heard.effects.ups =
    ap (λ (more : List FaceUp). map (up_at arrived) heard.effects.ups ++ more)
    (all-up_none s.gate arrived w.now heard.effects.ups h)
    ∙ append-nil (map (up_at arrived) heard.effects.ups) in
    let m = made-in gate_up _ up among in
    let k = made-in (up_at arrived) heard.effects.ups m.x
    (subst (λ (us : List FaceUp). IsIn m.x us) none m.among) in
    let up_is : up_from (face_place arrived) k.x ≡ up = ap gate_up k.is ∙ m.is in
    let face_is : arrived ≡ face =
    same-face arrived face (ap (λ (u : UpAt). u.place) up_is ∙ at) in
    subst (λ (f : Face). IsHeardThere s w (at_gate arrived) segment f up) face_is (record {
      stands = refl;
      heard = record { value = k.x; among = k.among; is = up_is };
    })

-- an event is that
record IsComing (s : PathSetup) (w : Path) (event : PathEvent) (face : Face) (up : UpAt) : Type 0
  where
    segment : SegmentValue
    heard : IsHeardAt s w face segment up
    does : path_step s w event ≡ comes_to s w (at_gate face) segment
    begins : begun_at s w event ≡ come_begun s w (at_gate face) segment

step-heard : (s : PathSetup) (w : Path) (event : PathEvent) (face : Face) (up : UpAt)
    → IsIn up (path_step s w event).effects.ups → up.place ≡ face_place face
    → IsComing s w event face up
unfolding path_step
step-heard s w (sends end block) face up among at = by (sends_block s w end block) among
  where
    by : (r : Result EngineStep SubmitFault) → IsIn up (sent_unless end w r).effects.ups
        → IsComing s w (sends end block) face up
    by (Ok step) among = absurd (none-at end step.effects.ups face up among at)
    by (Err fault) among = absurd among
step-heard s w (delivers k) face up among at = by (slice_get w.sent k) refl among
  where
    by : (got : Option SentFrom) → slice_get w.sent k ≡ got
        → IsIn up (delivers_if s w got).effects.ups → IsComing s w (delivers k) face up
    by None is among = absurd among
    by (Some d) is among =
        let there = come-heard s w (stand_of (across d.from)) d.segment face up among at in
        record {
          segment = d.segment;
          heard = there.heard;
          does = ap (delivers_if s w) is
              ∙ ap (λ (stand : Stand). comes_to s w stand d.segment) there.stands;
          begins = ap (delivered_begun s w) is
              ∙ ap (λ (stand : Stand). come_begun s w stand d.segment) there.stands;
        }
step-heard s w (clock_shows now) face up among at = by (nat_lt now w.now) among
  where
    by : (t : Bool) → IsIn up (if t then record { path = w; effects = nothing_done }
        else all_tick s now w).effects.ups → IsComing s w (clock_shows now) face up
    by true among = absurd among
    by false among =
        absurd (subst (λ (us : List UpAt). IsIn up us) (tick-up_none s w now) among)

coming-pieces : (s : PathSetup) (w : Path) (event : PathEvent) (face : Face) (up : UpAt)
    → TakesBlocks s → IsComing s w event face up → PiecesBegin s w event face up
coming-pieces s w event face up takes coming =
    subst (λ (u : UpAt). PiecesBegin s w event face u) heard.is (λ i piece is.
    subst (λ (begun : List Begun). IsBegun begun (face_place (other_of face)) piece
    (a_piece (end_of face) (heard.value).session i)) (sym coming.begins)
    (passed-begin s w face step.effects.ups (does_at face w.gate step).gate heard.value takes
    (heard-one (at_face s.gate.parties face) (at_face w.gate.engines face) (Ok coming.segment)
    w.now) (other-stays w.gate.engines face step.engine) heard.among i piece is))
  where
    heard : IsHeardAt s w face coming.segment up
    heard = coming.heard

    step : EngineStep
    step = hears_at s.gate face w.gate (Ok coming.segment) w.now

coming-report : (s : PathSetup) (w : Path) (event : PathEvent) (face : Face) (up : UpAt)
    → TakesBlocks s → IsComing s w event face up → ReportBegins s w event face up
unfolding arrives_at and_then
coming-report s w event face up takes coming = λ legal fits noted.
    let m = made-in gate_note
    (arrives_at s.gate face (Ok coming.segment) w.now w.gate).effects.notes
    (record { place = face_place face; note = notes.Reported up.session })
    (subst (λ (step : PathStep). IsReportNoted step.effects.notes face up) coming.does noted) in
    subst (λ (u : UpAt). IsReportBegun s w (begun_at s w event) face u) heard.is
    (subst (λ (begun : List Begun). IsReportBegun s w begun face
    (up_from (face_place face) heard.value)) (sym coming.begins)
    (by m.x (ap (λ (y : NoteAt). y.note) m.is)
    (subst (λ (u : UpAt). IsOctets u.body) (sym heard.is) fits) legal
    (in-either m.x (does_at face w.gate step).effects.notes later m.among)))
  where
    heard : IsHeardAt s w face coming.segment up
    heard = coming.heard

    step : EngineStep
    step = hears_at s.gate face w.gate (Ok coming.segment) w.now

    later : List FaceNote
    later = (in_turn (passes_at s.gate face w.now) step.effects.ups
        (does_at face w.gate step).gate).effects.notes

    by : (x : FaceNote) → x.note ≡ notes.Reported up.session → IsOctets (heard.value).body
        → IsEndpoint s.gate.gate
        → IsIn x (does_at face w.gate step).effects.notes ⊎ IsIn x later
        → IsReportBegun s w (come_begun s w (at_gate face) coming.segment) face
        (up_from (face_place face) heard.value)
    by x is fits legal (inl there) = absurd (none-other (does_at face w.gate step).effects.notes x
        up.session (engine-other face step.effects.notes) there is)
    by x is fits legal (inr there) = passed-report s w face step.effects.ups
        (does_at face w.gate step).gate heard.value x up.session takes
        (heard-one (at_face s.gate.parties face) (at_face w.gate.engines face) (Ok coming.segment)
        w.now)
        (other-stays w.gate.engines face step.engine) refl heard.among legal fits there is

-- ---- a run

pub carried-out : DecisionsAreCarriedOut
carried-out s w events face up takes among at =
    let case = cases-noted path-notes s w events face up among at in
    let coming = step-heard s (path_run s w case.earlier) case.event face up case.hands_up at in
    record {
      case = case;
      pieces = coming-pieces s (path_run s w case.earlier) case.event face up takes coming;
      report = coming-report s (path_run s w case.earlier) case.event face up takes coming;
    }
