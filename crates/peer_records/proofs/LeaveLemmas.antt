-- A piece leaves those that are pending by its end, and each of a block has one. Only what is over is cleared.
use Rattle.std.proofs.Common.{◌≡◌, ℕ, zero, suc, ◌+◌, ◌<◌, ◌==◌, ◌||◌, Bool, true, false, if◌then◌else◌, List, [], ◌∷◌, ◌++◌, Option, None, Some, refl, arith}
use Rattle.std.specs.List.{list_any}
use Rattle.gate_cases.specs.declared.face.Face.{Face}
use Rattle.gate_cases.specs.declared.face.Face.TheVariants.{Old, New}
use Rattle.gateway_core.specs.declared.effects.FaceNote.{FaceNote}
use Rattle.gate_events.specs.Own.{OpenAt}
use Rattle.journal_file.specs.declared.record.How.{How}
use Rattle.journal_file.specs.Values.{KeptValue, RecordValue, a_begun, a_done, a_mark, a_clear, a_reserved}
use Rattle.journal_file.specs.Keeping.{is_pending, kept_with, kept_after}
use Rattle.gate_records.specs.declared.named.Named.{Named}
use Rattle.gate_records.specs.Happened.{Happened, note_ends}
use Rattle.gate_records.specs.Laws.{ends_of, is_end, AllClearIfOver}
use Rattle.gate_records.proofs.PendingLemmas.{pending-push, pending-other}
use Rattle.peer_gateway.specs.Gate.{AddedAt}
use Rattle.peer_records.specs.Happened.{PeerHappened, notes_in, marking}
use Rattle.peer_records.specs.Keeping.{PeerKeeping, one_if, times}
use Rattle.peer_records.specs.Records.{ids_of, all_done, end_done, end_leaves, done_records, pending_with, begun_records, added_records, step_records}
use Rattle.peer_records.proofs.CountLemmas.{named-within}
use Rattle.peer_records.proofs.MarkLemmas.{mark_part, marks-clear}

abbrev either : Bool → Bool → Bool
either a b = a || b

abbrev ends_one : ℕ → List RecordValue → Bool
ends_one id rs = list_any (λ said. is_end id (ends_of said)) rs

pub leaves-by-its-end : (kept : KeptValue) (rs : List RecordValue) (id : ℕ) → is_pending id kept.pending ≡ true → is_pending id (kept_after kept rs).pending ≡ false
    → list_any (λ said. is_end id (ends_of said)) rs ≡ true
unfolding kept_with
leaves-by-its-end kept [] id there gone = absurd (cc)
leaves-by-its-end kept (a_begun p ∷ rs) id there gone = leaves-by-its-end (kept_with kept (a_begun p)) rs id (pending-push id p kept.pending there) gone
leaves-by-its-end kept (a_done j how ∷ rs) id there gone = by (j == id) refl (λ still. leaves-by-its-end (kept_with kept (a_done j how)) rs id still gone)
  where
    by : (t : Bool) → (j == id) ≡ t → (is_pending id (kept_with kept (a_done j how)).pending ≡ true → ends_one id rs ≡ true) → either t (ends_one id rs) ≡ true
    by true is rest = refl
    by false is rest = rest (pending-other id j kept.pending is there)
leaves-by-its-end kept (a_mark m ∷ rs) id there gone = leaves-by-its-end (kept_with kept (a_mark m)) rs id there gone
leaves-by-its-end kept (a_clear face session ∷ rs) id there gone = leaves-by-its-end (kept_with kept (a_clear face session)) rs id there gone
leaves-by-its-end kept (a_reserved Old n ∷ rs) id there gone = leaves-by-its-end (kept_with kept (a_reserved Old n)) rs id there gone
leaves-by-its-end kept (a_reserved New n ∷ rs) id there gone = leaves-by-its-end (kept_with kept (a_reserved New n)) rs id there gone

-- ---- each piece of a block

either-right : (a : Bool) → either a true ≡ true
either-right true = refl
either-right false = refl

ends-front : (id : ℕ) (rs qs : List RecordValue) → ends_one id rs ≡ true → ends_one id (rs ++ qs) ≡ true
ends-front id [] qs is = absurd (cc)
ends-front id (r ∷ rs) qs is = by (is_end id (ends_of r)) is (λ more. ends-front id rs qs more)
  where
    by : (t : Bool) → either t (ends_one id rs) ≡ true → (ends_one id rs ≡ true → ends_one id (rs ++ qs) ≡ true) → either t (ends_one id (rs ++ qs)) ≡ true
    by true is rest = refl
    by false is rest = rest is

ends-back : (id : ℕ) (rs qs : List RecordValue) → ends_one id qs ≡ true → ends_one id (rs ++ qs) ≡ true
ends-back id [] qs is = is
ends-back id (r ∷ rs) qs is = rw (ends-back id rs qs is) (either-right (is_end id (ends_of r)))

all-done-each : (id : ℕ) (how : How) (ids : List ℕ) → 0 < times id ids → ends_one id (all_done how ids) ≡ true
unfolding times
all-done-each id how [] some = absurd (omega (arith, some))
all-done-each id how (x ∷ ids) some = by (x == id) some (λ more. all-done-each id how ids more)
  where
    by : (t : Bool) → 0 < one_if t + times id ids → (0 < times id ids → ends_one id (all_done how ids) ≡ true) → either t (ends_one id (all_done how ids)) ≡ true
    by true some rest = refl
    by false some rest = rest (omega (arith, some))

-- the note's own
note-done : (is_open : OpenAt) (face : Face) (end : Option (ℕ × How)) (session : ℕ) (how : How) (named : List Named) (id : ℕ) → end ≡ Some (session, how) → is_open face session ≡ false
    → 0 < times id (ids_of face session named) → ends_one id (end_done is_open face end named) ≡ true
note-done is_open face end session how named id is closed some = rw (is, closed) (all-done-each id how (ids_of face session named) some)

-- a note before it ends the piece, or leaves it in its session
data Before (is_open : OpenAt) (at : Face) (end : Option (ℕ × How)) (face : Face) (session id : ℕ) (named : List Named) : Type 0 where
  done_before : ends_one id (end_done is_open at end named) ≡ true → Before is_open at end face session id named
  left : 0 < times id (ids_of face session (end_leaves is_open at end named)) → Before is_open at end face session id named

before : (is_open : OpenAt) (at : Face) (end : Option (ℕ × How)) (face : Face) (session id : ℕ) (named : List Named) → 0 < times id (ids_of face session named)
    → Before is_open at end face session id named
before is_open at None face session id named some = left some
before is_open at (Some end) face session id named some = by (is_open at end.0) refl
  where
    by : (t : Bool) → is_open at end.0 ≡ t → Before is_open at (Some end) face session id named
    by true is = left (rw is some)
    by false is = among (times id (ids_of at end.0 named)) refl
      where
        among : (n : ℕ) → times id (ids_of at end.0 named) ≡ n → Before is_open at (Some end) face session id named
        among zero none = left (rw is (let parts = named-within id face at session end.0 named in omega (arith, parts, none, some)))
        among (suc n) more = done_before (rw is (all-done-each id end.1 (ids_of at end.0 named) (omega (arith, more))))

pub notes-done : (is_open : OpenAt) (earlier : List FaceNote) (n : FaceNote) (after : List FaceNote) (session : ℕ) (how : How) (named : List Named) (id : ℕ)
    → note_ends n.note ≡ Some (session, how) → is_open n.face session ≡ false → 0 < times id (ids_of n.face session named)
    → ends_one id (done_records is_open (earlier ++ n ∷ after) named) ≡ true
unfolding done_records
notes-done is_open [] n after session how named id is closed some =
    ends-front id (end_done is_open n.face (note_ends n.note) named) (done_records is_open after (end_leaves is_open n.face (note_ends n.note) named))
    (note-done is_open n.face (note_ends n.note) session how named id is closed some)
notes-done is_open (m ∷ earlier) n after session how named id is closed some =
    by (before is_open m.face (note_ends m.note) n.face session id named some)
    (λ still. notes-done is_open earlier n after session how (end_leaves is_open m.face (note_ends m.note) named) id is closed still)
  where
    rs : List RecordValue
    rs = end_done is_open m.face (note_ends m.note) named

    by : Before is_open m.face (note_ends m.note) n.face session id named
        → (0 < times id (ids_of n.face session (end_leaves is_open m.face (note_ends m.note) named))
        → ends_one id (done_records is_open (earlier ++ n ∷ after) (end_leaves is_open m.face (note_ends m.note) named)) ≡ true)
        → ends_one id (end_done is_open m.face (note_ends m.note) named ++ done_records is_open (earlier ++ n ∷ after) (end_leaves is_open m.face (note_ends m.note) named)) ≡ true
    by (done_before there) rest = ends-front id (end_done is_open m.face (note_ends m.note) named) (done_records is_open (earlier ++ n ∷ after) (end_leaves is_open m.face (note_ends m.note) named)) there
    by (left still) rest = ends-back id (end_done is_open m.face (note_ends m.note) named) (done_records is_open (earlier ++ n ∷ after) (end_leaves is_open m.face (note_ends m.note) named)) (rest still)

pub each-is-done : (h : PeerHappened) (k : PeerKeeping) (earlier : List FaceNote) (n : FaceNote) (after : List FaceNote) (session : ℕ) (how : How) (id : ℕ)
    → notes_in h.told ≡ earlier ++ n ∷ after → note_ends n.note ≡ Some (session, how) → h.is_open n.face session ≡ false → 0 < times id (ids_of n.face session k.named)
    → list_any (λ said. is_end id (ends_of said)) (step_records h k) ≡ true
unfolding step_records
each-is-done h k earlier n after session how id told is closed some =
    ends-front id (done_records h.is_open (notes_in h.told) k.named) (added_records h.again (k.kept).greatest h.added ++ mark_part h k.kept)
    (rw told (notes-done h.is_open earlier n after session how k.named id is closed some))

-- ---- clears

all-append : (h : Happened) (rs qs : List RecordValue) → AllClearIfOver h rs → AllClearIfOver h qs → AllClearIfOver h (rs ++ qs)
all-append h [] qs are be = be
all-append h (r ∷ rs) qs (first, are) be = (first, all-append h rs qs are be)

done-clear : (h : Happened) (how : How) (ids : List ℕ) → AllClearIfOver h (all_done how ids)
done-clear h how [] = tt
done-clear h how (id ∷ ids) = (tt, done-clear h how ids)

note-clear : (h : Happened) (is_open : OpenAt) (face : Face) (end : Option (ℕ × How)) (named : List Named) → AllClearIfOver h (end_done is_open face end named)
note-clear h is_open face None named = tt
note-clear h is_open face (Some end) named = by (is_open face end.0)
  where
    by : (t : Bool) → AllClearIfOver h (if t then [] else all_done end.1 (ids_of face end.0 named))
    by true = tt
    by false = done-clear h end.1 (ids_of face end.0 named)

ends-clear : (h : Happened) (is_open : OpenAt) (notes : List FaceNote) (named : List Named) → AllClearIfOver h (done_records is_open notes named)
unfolding done_records
ends-clear h is_open [] named = tt
ends-clear h is_open (n ∷ notes) named =
    all-append h (end_done is_open n.face (note_ends n.note) named) (done_records is_open notes (end_leaves is_open n.face (note_ends n.note) named))
    (note-clear h is_open n.face (note_ends n.note) named) (ends-clear h is_open notes (end_leaves is_open n.face (note_ends n.note) named))

begun-clear : (h : Happened) (greatest : ℕ) (added : List AddedAt) → AllClearIfOver h (begun_records greatest added)
unfolding begun_records
begun-clear h greatest [] = tt
begun-clear h greatest (a ∷ added) = by a.is_report (begun-clear h greatest added) (begun-clear h (greatest + 1) added)
  where
    by : (t : Bool) → AllClearIfOver h (begun_records greatest added) → AllClearIfOver h (begun_records (greatest + 1) added)
        → AllClearIfOver h (if t then begun_records greatest added else a_begun (pending_with (greatest + 1) a) ∷ begun_records (greatest + 1) added)
    by true report piece = report
    by false report piece = (tt, piece)

added-clear : (h : Happened) (again : Option ℕ) (greatest : ℕ) (added : List AddedAt) → AllClearIfOver h (added_records again greatest added)
added-clear h None greatest added = begun-clear h greatest added
added-clear h (Some id) greatest added = tt

pub only-over-is-cleared : (h : PeerHappened) (k : PeerKeeping) → AllClearIfOver (marking h) (step_records h k)
unfolding step_records
only-over-is-cleared h k =
    let ended = done_records h.is_open (notes_in h.told) k.named in
    let pieces = added_records h.again (k.kept).greatest h.added in
    all-append (marking h) ended (pieces ++ mark_part h k.kept) (ends-clear (marking h) h.is_open (notes_in h.told) k.named)
    (all-append (marking h) pieces (mark_part h k.kept) (added-clear (marking h) h.again (k.kept).greatest h.added) (marks-clear h k.kept))
