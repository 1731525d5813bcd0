-- Pieces of earlier runs are added in order, each once, while there is room.

use Rattle.std.proofs.Common.{◌≡◌, ℕ, zero, suc, ◌==◌, ◌≤◌, Bool, true, false, if◌then◌else◌, List, [], ◌∷◌, ◌++◌, length, Option, None, Some, IfSome, refl, sym, ap, ◌∙◌, subst, arith}
use Rattle.std.proofs.lemmas.Grind.{flat_map-append}
use Rattle.std.specs.Prelude.{IsSomeAnd}
use Rattle.gate_cases.specs.declared.face.Face.{Face}
use Rattle.gateway_core.specs.Gate.{at_face}
use Rattle.journal_file.specs.declared.kept.Pending.{Pending}
use Rattle.journal_file.specs.Anew.{AreBegun}
use Rattle.journal_file.specs.Legal.{IsLegal}
use Rattle.peer_gateway.specs.Gate.{FaceTold, AddedAt, PeerGate, PeerMoments, PeerStep, and_then, room_at, stays_so}
use Rattle.peer_gateway.specs.Answers.{answer_of}
use Rattle.peer_gateway.specs.Going.{adds, gathers, go, go_on, next_count, told_if}
use Rattle.peer_gateway.specs.Keys.{PeerSetup}
use Rattle.peer_gateway.specs.Steps.{has_room_at, kept_piece, peer_step, with_outboxes}
use Rattle.piece_gathering.specs.declared.piece.Piece.{Piece}
use Rattle.peer_records.specs.Happened.{PeerHappened, note_of, notes_in}
use Rattle.peer_records.specs.Halves.{recording}
use Rattle.peer_records.specs.Keeping.{PeerKeeping, one_if, to_add_at}
use Rattle.peer_records.specs.Records.{after_step}
use Rattle.peer_half.specs.Journals.{Journalled}
use Rattle.peer_half.specs.Standing.{Standing}
use Rattle.peer_half.specs.Steps.{happened_in, outboxes_in, putting_all, recorded_with, step_of}
use Rattle.peer_half.specs.Parts.{any_added, begin_of, first_pending, first_waiting, is_added, next_resumed, pending_in, resumed, resumes_at, resumes_within, tries, where_some}
use Rattle.peer_half.specs.Laws.{AddsFront, AddsInOrder, AddsWhileRoom}
use Rattle.peer_half.proofs.StandingLemmas.{happens-rest}
use Rattle.peer_half.proofs.ToAddLemmas.{AddsFrom, NoneAdded, OneAdded, adds-cons, adds-front, adds-none, adds-refused, front-added, held-again, none-added, one_added, pending-again, to-add-few}

-- ---- a step that is to add one notes nothing

quiet-append : (xs ys : List FaceTold) → notes_in xs ≡ [] → notes_in ys ≡ [] → notes_in (xs ++ ys) ≡ []
quiet-append xs ys first more = flat_map-append (λ (t : FaceTold). note_of t.face t.told) xs ys ∙ rw (first, more) refl

quiet-told : (tells : Bool) (face : Face) (pieces octets session : ℕ) → notes_in (told_if tells face pieces octets session) ≡ []
quiet-told true face pieces octets session = refl
quiet-told false face pieces octets session = refl

quiet-go : (s : PeerSetup) (face : Face) (m : PeerMoments) (until : ℕ) (g : PeerGate) → notes_in ((go s face m until g).effects).told ≡ []
unfolding go
quiet-go s face m until g = quiet-told (gathers (at_face s.keys face)) face _ _ _

quiet-on : (s : PeerSetup) (face : Face) (m : PeerMoments) (until n : ℕ) (g : PeerGate) → notes_in ((go_on s face m until n g).effects).told ≡ []
unfolding go_on and_then
quiet-on s face m until zero g = refl
quiet-on s face m until (suc n) g = by (next_none g) (quiet-append ((go s face m until g).effects).told ((go_on s face m until n (go s face m until g).gate).effects).told
    (quiet-go s face m until g) (quiet-on s face m until n (go s face m until g).gate))
  where
    next_none : PeerGate → Bool
    next_none h = next_count (at_face s.keys face) until (at_face h.faces face) == 0

    by : (t : Bool) → notes_in ((and_then (go s face m until g) (go_on s face m until n)).effects).told ≡ []
        → notes_in ((if t then stays_so g else and_then (go s face m until g) (go_on s face m until n)).effects).told ≡ []
    by true quiet = refl
    by false quiet = quiet

quiet-adds : (s : PeerSetup) (face : Face) (m : PeerMoments) (piece : Piece) (g : PeerGate) → notes_in ((adds s face m false piece g).effects).told ≡ []
unfolding adds and_then
quiet-adds s face m piece g = quiet-on s face m _ _ _

any-adds : (s : PeerSetup) (face : Face) (m : PeerMoments) (piece : Piece) (g : PeerGate) → any_added ((adds s face m false piece g).effects).added ≡ true
unfolding adds and_then
any-adds s face m piece g = refl

-- by the room for it
pub record Tried (p : Pending) (s : Standing) : Type 0 where
  pub quiet : notes_in ((step_of (begin_of p) s).effects).told ≡ []
  -- where none was added, nothing was done
  pub stays : is_added p s ≡ false → step_of (begin_of p) s ≡ stays_so (with_outboxes (outboxes_in s) s.gate)

pub tried : (p : Pending) (s : Standing) → Tried p s
unfolding peer_step
tried p s = record { quiet = quiet-by room; stays = λ out. stays-by room out }
  where
    g : PeerGate
    g = with_outboxes (outboxes_in s) s.gate

    piece : Piece
    piece = kept_piece s.setup p.face p.block p.came s.moments

    room : Bool
    room = has_room_at (room_at (at_face (s.setup).keys p.face) (at_face g.faces p.face)) piece.size

    step : PeerStep
    step = adds s.setup p.face s.moments false piece g

    any : any_added (step.effects).added ≡ true
    any = any-adds s.setup p.face s.moments piece g

    quiet-by : (t : Bool) → notes_in ((if t then step else stays_so g).effects).told ≡ []
    quiet-by true = quiet-adds s.setup p.face s.moments piece g
    quiet-by false = refl

    stays-by : (t : Bool) → any_added ((if t then step else stays_so g).effects).added ≡ false → (if t then step else stays_so g) ≡ stays_so g
    stays-by true out = let yes = any in absurd (cc)
    stays-by false out = refl

-- ---- what is known after it

abbrev keeping_of : Journalled → PeerKeeping
keeping_of j = (j.recorded).keeping

abbrev happened : Pending → Standing → PeerHappened
happened p s = happened_in (Some p.id) (begin_of p) s

abbrev journal_after : Pending → Standing → Journalled → Journalled
journal_after p s j = record { recorded = recording (happened p s) j.recorded; place = j.place }

tries-journal : (p : Pending) (s : Standing) (j : Journalled) → s.journal ≡ Some j → (tries p s).journal ≡ Some (journal_after p s j)
unfolding tries
tries-journal p s j is =
    ap (λ (t : Standing). t.journal) (happens-rest (begin_of p) (recorded_with (happened p s) s.journal) s) ∙ ap (λ o. recorded_with (happened p s) o) is

some-added : (id i : ℕ) (added : List AddedAt) → any_added added ≡ true → one_added id i added ≡ one_if (id == i)
some-added id i [] any = absurd (cc)
some-added id i (a ∷ more) any = refl

none-added-of : (id i : ℕ) (added : List AddedAt) → any_added added ≡ false → one_added id i added ≡ 0
none-added-of id i [] any = refl
none-added-of id i (a ∷ more) any = absurd (cc)

pub one-more : (p : Pending) (s : Standing) (k : PeerKeeping) → is_added p s ≡ true → OneAdded p.id k (after_step (happened p s) k)
one-more p s k any = record {
  held_is = λ i.
      let more = held-again (happened p s) k p.id refl (tried p s).quiet i in
      let one = some-added p.id i ((step_of (begin_of p) s).effects).added any in omega (arith, more, one);
  pending = pending-again (happened p s) k p.id refl (tried p s).quiet;
}

pub no-more : (p : Pending) (s : Standing) (k : PeerKeeping) → is_added p s ≡ false → NoneAdded k (after_step (happened p s) k)
no-more p s k any = record {
  held_is = λ i.
      let more = held-again (happened p s) k p.id refl (tried p s).quiet i in
      let none = none-added-of p.id i ((step_of (begin_of p) s).effects).added any in omega (arith, more, none);
  pending = pending-again (happened p s) k p.id refl (tried p s).quiet;
}

-- ---- one after the other

abbrev AddsTo : Face → PeerKeeping → Standing → Type 0
AddsTo face k t = IsSomeAnd t.journal (λ after. (first : List Pending) × AddsFrom face k (keeping_of after) first)

to-some : (face : Face) (k : PeerKeeping) (t : Standing) (after : Journalled) (first : List Pending) → t.journal ≡ Some after → AddsFrom face k (keeping_of after) first
    → AddsTo face k t
to-some face k t after first is adds =
    subst (λ o. IsSomeAnd o (λ after. (first : List Pending) × AddsFrom face k (keeping_of after) first)) (sym is) (first, adds)

to-cons : (face : Face) (k l : PeerKeeping) (p : Pending) (more : List Pending) (o : Option Journalled) → AreBegun 0 (k.kept).pending → to_add_at face k ≡ p ∷ more
    → OneAdded p.id k l → IsSomeAnd o (λ after. (first : List Pending) × AddsFrom face l (keeping_of after) first)
    → IsSomeAnd o (λ after. (first : List Pending) × AddsFrom face k (keeping_of after) first)
to-cons face k l p more None are front one adds = adds
to-cons face k l p more (Some after) are front one (first, adds) = (p ∷ first, adds-cons face k l (keeping_of after) p more first are front one adds)

-- what each that goes on does
abbrev Rest : Face → (Standing → Standing) → Type 0
Rest face goes_on = (t : Standing) (j : Journalled) → t.journal ≡ Some j → AreBegun 0 ((keeping_of j).kept).pending → AddsTo face (keeping_of j) (goes_on t)

begun-still : (k l : PeerKeeping) → (l.kept).pending ≡ (k.kept).pending → AreBegun 0 (k.kept).pending → AreBegun 0 (l.kept).pending
begun-still k l same are = subst (λ ps. AreBegun 0 ps) (sym same) are

adds-by : (face : Face) (s : Standing) (j : Journalled) (goes_on : Standing → Standing) → s.journal ≡ Some j → AreBegun 0 ((keeping_of j).kept).pending → Rest face goes_on
    → (next : List Pending) → to_add_at face (keeping_of j) ≡ next
    → AddsTo face (keeping_of j) (where_some (first_pending next) (λ p. if is_added p s then goes_on (resumed p s) else tries p s) s)
adds-by face s j goes_on is are rest [] none = to-some face (keeping_of j) s j [] is (adds-none face (keeping_of j))
adds-by face s j goes_on is are rest (p ∷ more) front = by (is_added p s) refl
  where
    k : PeerKeeping
    k = keeping_of j

    l : PeerKeeping
    l = after_step (happened p s) k

    by : (t : Bool) → is_added p s ≡ t → AddsTo face k (if t then goes_on (resumed p s) else tries p s)
    by true any =
        let one = one-more p s k any in
        to-cons face k l p more (goes_on (resumed p s)).journal are front one
        (rest (resumed p s) (journal_after p s j) (tries-journal p s j is) (begun-still k l one.pending are))
    by false any = to-some face k (tries p s) (journal_after p s j) [] (tries-journal p s j is) (adds-refused face k l (no-more p s k any))

adds-within : (n : ℕ) (face : Face) (s : Standing) (j : Journalled) → s.journal ≡ Some j → AreBegun 0 ((keeping_of j).kept).pending
    → AddsTo face (keeping_of j) (resumes_within n face s)
unfolding resumes_within
adds-within zero face s j is are = to-some face (keeping_of j) s j [] is (adds-none face (keeping_of j))
adds-within (suc n) face s j is are =
    subst (λ next. AddsTo face (keeping_of j) (where_some next (λ p. if is_added p s then resumes_within n face (resumed p s) else tries p s) s))
    (sym (ap (λ o. first_waiting face o) is))
    (adds-by face s j (λ t. resumes_within n face t) is are (λ t l at begun. adds-within n face t l at begun) (to_add_at face (keeping_of j)) refl)

front-of : (face : Face) (k : PeerKeeping) (o : Option Journalled) → IsSomeAnd o (λ after. (first : List Pending) × AddsFrom face k (keeping_of after) first)
    → IsSomeAnd o (λ after. (first : List Pending) × AddsFront face k (keeping_of after) first)
front-of face k None adds = adds
front-of face k (Some after) (first, adds) = (first, adds-front face k (keeping_of after) first adds)

in-order : (face : Face) (s : Standing) (o : Option Journalled) → s.journal ≡ o
    → IfSome o (λ before. IsLegal ((before.recorded).keeping).kept
    → IsSomeAnd (resumes_at face s).journal (λ after. (first : List Pending) × AddsFront face (keeping_of before) (keeping_of after) first))
in-order face s None is = tt
in-order face s (Some j) is = λ legal.
    front-of face (keeping_of j) (resumes_at face s).journal (adds-within (pending_in s.journal) face s j is legal.pending)

pub adds-in-order : AddsInOrder
adds-in-order face s = in-order face s s.journal refl

-- ---- while there is room

abbrev NoRoom : Face → Standing → Type 0
NoRoom face t = IfSome (next_resumed face t) (λ p. is_added p t ≡ false)

-- after a step that found no room there is none yet
abbrev after_with : PeerStep → Option Journalled → Standing → Standing
after_with step journal s = record s {
  said = s.said;
  gate = step.gate;
  journal = journal;
  faces = putting_all (answer_of step.effects).puts (answer_of step.effects).out s.faces;
}

still-none : (p : Pending) (s : Standing) (journal : Option Journalled)
    → is_added p (after_with (stays_so (with_outboxes (outboxes_in s) s.gate)) journal s) ≡ is_added p s
unfolding peer_step putting_all
still-none p s journal = refl

pub stays-refused : (p : Pending) (s : Standing) → is_added p s ≡ false → is_added p (tries p s) ≡ false
unfolding tries
stays-refused p s none =
    let journal = recorded_with (happened p s) s.journal in
    ap (λ t. is_added p t) (happens-rest (begin_of p) journal s)
    ∙ (ap (λ step. is_added p (after_with step journal s)) ((tried p s).stays none)
    ∙ (still-none p s journal ∙ none))

no-next : (face : Face) (t : Standing) (j : Journalled) → t.journal ≡ Some j → to_add_at face (keeping_of j) ≡ [] → NoRoom face t
no-next face t j is none =
    subst (λ next. IfSome next (λ p. is_added p t ≡ false)) (sym (ap (λ o. first_waiting face o) is ∙ ap (λ l. first_pending l) none)) tt

one-next : (face : Face) (t : Standing) (j : Journalled) (p : Pending) (more : List Pending) → t.journal ≡ Some j → to_add_at face (keeping_of j) ≡ p ∷ more
    → is_added p t ≡ false → NoRoom face t
one-next face t j p more is front none =
    subst (λ next. IfSome next (λ p. is_added p t ≡ false)) (sym (ap (λ o. first_waiting face o) is ∙ ap (λ l. first_pending l) front)) none

none-left : (xs : List Pending) → length xs ≤ 0 → xs ≡ []
none-left [] few = refl
none-left (x ∷ xs) few = absurd (omega (arith, few))

abbrev Later : ℕ → Face → Type 0
Later n face = (t : Standing) (j : Journalled) → t.journal ≡ Some j → AreBegun 0 ((keeping_of j).kept).pending → length (to_add_at face (keeping_of j)) ≤ n
    → NoRoom face (resumes_within n face t)

room-by : (n : ℕ) (face : Face) (s : Standing) (j : Journalled) → s.journal ≡ Some j → AreBegun 0 ((keeping_of j).kept).pending → Later n face
    → (next : List Pending) → to_add_at face (keeping_of j) ≡ next → length next ≤ suc n
    → NoRoom face (where_some (first_pending next) (λ p. if is_added p s then resumes_within n face (resumed p s) else tries p s) s)
room-by n face s j is are rest [] none few = no-next face s j is none
room-by n face s j is are rest (p ∷ more) front few = by (is_added p s) refl
  where
    k : PeerKeeping
    k = keeping_of j

    l : PeerKeeping
    l = after_step (happened p s) k

    by : (t : Bool) → is_added p s ≡ t → NoRoom face (if t then resumes_within n face (resumed p s) else tries p s)
    by true any =
        let one = one-more p s k any in
        let left = ap (λ xs. length xs) (front-added face k l p more are front one) in
        rest (resumed p s) (journal_after p s j) (tries-journal p s j is) (begun-still k l one.pending are) (omega (arith, left, few))
    by false any =
        one-next face (tries p s) (journal_after p s j) p more (tries-journal p s j is) (none-added face k l (no-more p s k any) ∙ front) (stays-refused p s any)

room-within : (n : ℕ) (face : Face) (s : Standing) (j : Journalled) → s.journal ≡ Some j → AreBegun 0 ((keeping_of j).kept).pending
    → length (to_add_at face (keeping_of j)) ≤ n → NoRoom face (resumes_within n face s)
unfolding resumes_within
room-within zero face s j is are few = no-next face s j is (none-left (to_add_at face (keeping_of j)) few)
room-within (suc n) face s j is are few =
    subst (λ next. NoRoom face (where_some next (λ p. if is_added p s then resumes_within n face (resumed p s) else tries p s) s))
    (sym (ap (λ o. first_waiting face o) is))
    (room-by n face s j is are (λ t l at begun low. room-within n face t l at begun low) (to_add_at face (keeping_of j)) refl few)

while-room : (face : Face) (s : Standing) (o : Option Journalled) → s.journal ≡ o
    → IfSome o (λ before. IsLegal ((before.recorded).keeping).kept → NoRoom face (resumes_at face s))
while-room face s None is = tt
while-room face s (Some j) is = λ legal.
    room-within (pending_in s.journal) face s j is legal.pending
    (subst (λ n. length (to_add_at face (keeping_of j)) ≤ n) (sym (ap (λ o. pending_in o) is)) (to-add-few face (keeping_of j)))

pub adds-while-room : AddsWhileRoom
adds-while-room face s = while-room face s s.journal refl
