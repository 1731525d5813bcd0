-- Marks: a session that is reported on has one, and only one that is over is cleared.
use Rattle.std.proofs.Common.{◌≡◌, ℕ, ◌<◌, ◌||◌, Bool, true, false, nat_lt, if◌then◌else◌, List, [], ◌∷◌, ◌++◌, length, Option, None, Some, refl, ap, arith}
use Rattle.std.proofs.lemmas.Bool.{ltb-true, eq-eqb}
use Rattle.std.specs.List.{list_any, filter}
use Rattle.gate_cases.specs.declared.face.Face.{Face}
use Rattle.gate_cases.specs.declared.face.Face.TheVariants.{Old, New}
use Rattle.gateway_core.specs.declared.effects.FaceNote.{FaceNote}
use Rattle.gateway_core.specs.declared.effects.Routed.{Routed}
use Rattle.gate_events.specs.Own.{OpenAt}
use Rattle.journal_file.specs.declared.kept.Mark.{Mark}
use Rattle.journal_file.specs.declared.record.How.{How}
use Rattle.journal_file.specs.Values.{RecordValue, a_clear}
use Rattle.journal_file.specs.Keeping.{same_face, is_of, is_about, marks_of, without_first, marks_with, MARKS_MAX}
use Rattle.journal_file.proofs.DropLemmas.{drop_first, drop_first-is}
use Rattle.gate_records.specs.declared.named.Named.{Named}
use Rattle.gate_records.specs.Happened.{Happened, note_ends, reports_on, is_over}
use Rattle.gate_records.specs.Keeping.{KeepingValue}
use Rattle.gate_records.specs.Records.{end_id, done_with, note_done, note_leaves, done_records, is_marked, mark_of, due_mark, mark_with, marks_then, mark_records, marks_after, clear_records, step_records}
use Rattle.gate_records.specs.Laws.{AllClearIfOver}

abbrev either : Bool → Bool → Bool
either a b = a || b

-- ---- a mark that was made stands at the end

any-last : {A : Type 0} (test : A → Bool) (xs : List A) (x : A) → test x ≡ true → list_any test (xs ++ x ∷ []) ≡ true
any-last test [] x is = rw is refl
any-last test (y ∷ xs) x is = rw (any-last test xs x is) (right (test y))
  where
    right : (a : Bool) → either a true ≡ true
    right true = refl
    right false = refl

abbrev passed : Face → Bool → Mark → List Mark → List Mark
passed f t x xs = if t then x ∷ filter (is_of f) xs else filter (is_of f) xs

-- where there is another of the face it is that one which leaves
other-leaves : (f : Face) (m : Mark) (xs : List Mark) → 1 < marks_of f (xs ++ m ∷ []) → drop_first (is_of f) (xs ++ m ∷ []) ≡ drop_first (is_of f) xs ++ m ∷ []
unfolding drop_first
other-leaves f m [] many = absurd (by (is_of f m) many)
  where
    by : (t : Bool) → 1 < length (passed f t m []) → ⊥
    by true many = omega arith
    by false many = omega arith
other-leaves f m (x ∷ xs) many = by (is_of f x) many (λ more. other-leaves f m xs more)
  where
    by : (t : Bool) → 1 < length (passed f t x (xs ++ m ∷ [])) → (1 < marks_of f (xs ++ m ∷ []) → drop_first (is_of f) (xs ++ m ∷ []) ≡ drop_first (is_of f) xs ++ m ∷ [])
        → (if t then xs ++ m ∷ [] else x ∷ drop_first (is_of f) (xs ++ m ∷ [])) ≡ (if t then xs else x ∷ drop_first (is_of f) xs) ++ m ∷ []
    by true many rest = refl
    by false many rest = ap (λ (l : List Mark). x ∷ l) (rest many)

face-self : (f : Face) → same_face f f ≡ true
face-self Old = refl
face-self New = refl

about-self : (wall : ℕ) (face : Face) (session : ℕ) → is_about face session (mark_of wall face session) ≡ true
about-self wall face session = rw (face-self face, eq-eqb session session refl) refl

marked-with : (most wall : ℕ) (face : Face) (session : ℕ) (marks : List Mark) → 0 < most → list_any (is_about face session) (marks_with most (mark_of wall face session) marks) ≡ true
unfolding marks_with
marked-with most wall face session marks some = by (nat_lt most (marks_of face (ys ++ mark_of wall face session ∷ []))) refl
  where
    ys : List Mark
    ys = without_first (is_about face session) marks

    by : (t : Bool) → nat_lt most (marks_of face (without_first (is_about face session) marks ++ mark_of wall face session ∷ [])) ≡ t
        → list_any (is_about face session) (if t then without_first (is_of face) (without_first (is_about face session) marks ++ mark_of wall face session ∷ [])
        else without_first (is_about face session) marks ++ mark_of wall face session ∷ []) ≡ true
    by true many =
        let zs = without_first (is_about face session) marks in
        let m = mark_of wall face session in
        let more = ltb-true most (marks_of face (zs ++ m ∷ [])) many in
        rw (drop_first-is (is_of face) (zs ++ m ∷ []), other-leaves face m zs (omega (arith, some, more)))
        (any-last (is_about face session) (drop_first (is_of face) zs) m (about-self wall face session))
    by false few = any-last (is_about face session) (without_first (is_about face session) marks) (mark_of wall face session) (about-self wall face session)

-- ---- reports, one after another

after-push : (h : Happened) (before : List Routed) (routed : Routed) (marks : List Mark)
    → marks_after h (before ++ routed ∷ []) marks
    ≡ marks_then (due_mark h routed.face (reports_on routed.datagram) (marks_after h before marks)) (marks_after h before marks)
unfolding marks_after
after-push h [] routed marks = refl
after-push h (r ∷ before) routed marks = after-push h before routed (marks_then (due_mark h r.face (reports_on r.datagram) marks) marks)

marked-then : (h : Happened) (face : Face) (session : ℕ) (marks : List Mark) → h.is_handed_up face session ≡ false
    → is_marked face session (marks_then (due_mark h face (Some session) marks) marks) ≡ true
marked-then h face session marks not_up = rw not_up (by (is_marked face session marks) refl)
  where
    by : (t : Bool) → is_marked face session marks ≡ t → is_marked face session (marks_then (if t then None else Some (mark_of h.wall face session)) marks) ≡ true
    by true marked = marked
    by false none = marked-with MARKS_MAX h.wall face session marks (omega arith)

pub report-is-marked : (h : Happened) (marks : List Mark) (before : List Routed) (routed : Routed) (session : ℕ)
    → reports_on routed.datagram ≡ Some session → h.is_handed_up routed.face session ≡ false
    → is_marked routed.face session (marks_after h (before ++ routed ∷ []) marks) ≡ true
report-is-marked h marks before routed session reports not_up =
    rw (after-push h before routed marks, reports) (marked-then h routed.face session (marks_after h before marks) not_up)

-- ---- clears

all-append : (h : Happened) (rs qs : List RecordValue) → AllClearIfOver h rs → AllClearIfOver h qs → AllClearIfOver h (rs ++ qs)
all-append h [] qs are be = be
all-append h (r ∷ rs) qs (first, are) be = (first, all-append h rs qs are be)

done-clear : (h : Happened) (o : Option ℕ) (how : How) → AllClearIfOver h (done_with o how)
done-clear h None how = tt
done-clear h (Some id) how = (tt, tt)

note-clear : (h : Happened) (is_open : OpenAt) (face : Face) (end : Option (ℕ × How)) (named : List Named) → AllClearIfOver h (note_done is_open face end named)
note-clear h is_open face None named = tt
note-clear h is_open face (Some end) named = done-clear h (end_id is_open face end.0 named) end.1

ends-clear : (h : Happened) (is_open : OpenAt) (notes : List FaceNote) (named : List Named) → AllClearIfOver h (done_records is_open notes named)
unfolding done_records
ends-clear h is_open [] named = tt
ends-clear h is_open (n ∷ notes) named =
    all-append h (note_done is_open n.face (note_ends n.note) named) (done_records is_open notes (note_leaves is_open n.face (note_ends n.note) named))
    (note-clear h is_open n.face (note_ends n.note) named) (ends-clear h is_open notes (note_leaves is_open n.face (note_ends n.note) named))

mark-clear : (h : Happened) (o : Option Mark) → AllClearIfOver h (mark_with o)
mark-clear h None = tt
mark-clear h (Some m) = (tt, tt)

marks-clear : (h : Happened) (out : List Routed) (marks : List Mark) → AllClearIfOver h (mark_records h out marks)
unfolding mark_records
marks-clear h [] marks = tt
marks-clear h (r ∷ out) marks =
    let due = due_mark h r.face (reports_on r.datagram) marks in
    all-append h (mark_with due) (mark_records h out (marks_then due marks)) (mark-clear h due) (marks-clear h out (marks_then due marks))

over-clear : (h : Happened) (marks : List Mark) → AllClearIfOver h (clear_records h marks)
unfolding clear_records
over-clear h [] = tt
over-clear h (m ∷ marks) = by (is_over h m.face m.session) refl (over-clear h marks)
  where
    by : (t : Bool) → is_over h m.face m.session ≡ t → AllClearIfOver h (clear_records h marks)
        → AllClearIfOver h (if t then a_clear m.face m.session ∷ clear_records h marks else clear_records h marks)
    by true is rest = (is, rest)
    by false is rest = rest

pub only-over-is-cleared : (h : Happened) (k : KeepingValue) → AllClearIfOver h (step_records h k)
unfolding step_records
only-over-is-cleared h k =
    let marks = (k.kept).marks in
    let reports = mark_records h h.out marks in
    let over = clear_records h (marks_after h h.out marks) in
    all-append h (done_records h.is_open h.notes k.named) (reports ++ over) (ends-clear h h.is_open h.notes k.named)
    (all-append h reports over (marks-clear h h.out marks) (over-clear h (marks_after h h.out marks)))
