-- A session of the peer on which a run reports before it is handed up is marked in its journal.

use Rattle.std.proofs.Common.{◌≡◌, ℕ, ◌+◌, ◌≤◌, Bool, true, false, ◌==◌, ◌||◌, ◌&&◌, List, [], ◌∷◌, ◌++◌, Option, None, Some, ◌⊎◌, inl, inr, if◌then◌else◌, refl, ap, ◌∙◌, sym, subst, arith, append_assoc}
use Rattle.std.proofs.lemmas.Bool.{eqb-true}
use Rattle.std.specs.List.{list_any}
use Rattle.gate_cases.specs.declared.face.Face.{Face}
use Rattle.gate_cases.specs.declared.face.Face.TheVariants as faces
use Rattle.journal_file.specs.declared.kept.Mark.{Mark}
use Rattle.journal_file.specs.declared.record.How.{How}
use Rattle.journal_file.specs.Values.{KeptValue, RecordValue, a_begun, a_done, a_mark, a_clear, a_reserved}
use Rattle.journal_file.specs.Keeping.{MARKS_MAX, kept_after, kept_with, same_face}
use Rattle.journal_file.proofs.AnewLemmas.{after-append}
use Rattle.gateway_core.specs.declared.effects.FaceNote.{FaceNote}
use Rattle.gateway_core.specs.declared.effects.Routed.{Routed}
use Rattle.gate_events.specs.Own.{OpenAt}
use Rattle.gate_records.specs.declared.named.Named.{Named}
use Rattle.gate_records.specs.Happened.{Happened, is_over, note_ends, reports_on}
use Rattle.gate_records.specs.Records.{clear_records, due_mark, is_marked, mark_records, mark_with, marks_after, marks_then}
use Rattle.gate_records.specs.Laws.{AllClearIfOver, ClearsIfOver, MarkStays, clears_mark, later_marks, made_marks, makes_mark}
use Rattle.peer_gateway.specs.Gate.{AddedAt}
use Rattle.peer_records.specs.Happened.{PeerHappened, marking, notes_in}
use Rattle.peer_records.specs.Keeping.{PeerKeeping}
use Rattle.peer_records.specs.Records.{added_records, after_step, all_done, begun_records, done_records, end_done, end_leaves, ended_records, ids_of, pending_with, piece_records, step_records}
use Rattle.peer_records.specs.Laws.{OnlyOverIsCleared, ReportIsMarked}
use Rattle.peer_journal_laws.specs.Steps.{JournalStep, known_then, records_of}
use Rattle.peer_journal_laws.specs.Marks.{IsMarkKept, IsOverIn, MarksAreKept, made_after, marks_made, marks_at}
use Rattle.peer_journal_laws.proofs.StepLemmas.{AreReserved, Chain, Moves, chain-after, keeping_of, known-run}

-- ---- records that neither clear a mark nor make one

abbrev pub AreStill : List RecordValue → Type 0
AreStill [] = Unit {0}
AreStill (a_begun p ∷ rs) = AreStill rs
AreStill (a_done id how ∷ rs) = AreStill rs
AreStill (a_mark m ∷ rs) = ⊥
AreStill (a_clear face session ∷ rs) = ⊥
AreStill (a_reserved face n ∷ rs) = AreStill rs

still-join : (rs qs : List RecordValue) → AreStill rs → AreStill qs → AreStill (rs ++ qs)
still-join [] qs are be = be
still-join (a_begun p ∷ rs) qs are be = still-join rs qs are be
still-join (a_done id how ∷ rs) qs are be = still-join rs qs are be
still-join (a_mark m ∷ rs) qs are be = absurd are
still-join (a_clear face session ∷ rs) qs are be = absurd are
still-join (a_reserved face n ∷ rs) qs are be = still-join rs qs are be

pub still-marks : (kept : KeptValue) (rs : List RecordValue) → AreStill rs → (kept_after kept rs).marks ≡ kept.marks
unfolding kept_with
still-marks kept [] are = refl
still-marks kept (a_begun p ∷ rs) are = still-marks (kept_with kept (a_begun p)) rs are
still-marks kept (a_done id how ∷ rs) are = still-marks (kept_with kept (a_done id how)) rs are
still-marks kept (a_mark m ∷ rs) are = absurd are
still-marks kept (a_clear face session ∷ rs) are = absurd are
still-marks kept (a_reserved faces.Old n ∷ rs) are = still-marks (kept_with kept (a_reserved faces.Old n)) rs are
still-marks kept (a_reserved faces.New n ∷ rs) are = still-marks (kept_with kept (a_reserved faces.New n)) rs are

still-clears : (face : Face) (session : ℕ) (rs : List RecordValue) → AreStill rs → list_any (clears_mark face session) rs ≡ false
still-clears face session [] are = refl
still-clears face session (a_begun p ∷ rs) are = still-clears face session rs are
still-clears face session (a_done id how ∷ rs) are = still-clears face session rs are
still-clears face session (a_mark m ∷ rs) are = absurd are
still-clears face session (a_clear f n ∷ rs) are = absurd are
still-clears face session (a_reserved f n ∷ rs) are = still-clears face session rs are

still-made : (face : Face) (rs : List RecordValue) → AreStill rs → made_marks face rs ≡ 0
unfolding made_marks
still-made face [] are = refl
still-made face (a_begun p ∷ rs) are = let rest = still-made face rs are in omega (arith, rest)
still-made face (a_done id how ∷ rs) are = let rest = still-made face rs are in omega (arith, rest)
still-made face (a_mark m ∷ rs) are = absurd are
still-made face (a_clear f n ∷ rs) are = absurd are
still-made face (a_reserved f n ∷ rs) are = let rest = still-made face rs are in omega (arith, rest)

all-done-still : (how : How) (ids : List ℕ) → AreStill (all_done how ids)
all-done-still how [] = tt
all-done-still how (id ∷ ids) = all-done-still how ids

end-still : (opened : OpenAt) (face : Face) (end : Option (ℕ × How)) (named : List Named) → AreStill (end_done opened face end named)
end-still opened face None named = tt
end-still opened face (Some end) named = by (opened face end.0)
  where
    by : (t : Bool) → AreStill (if t then [] else all_done end.1 (ids_of face end.0 named))
    by true = tt
    by false = all-done-still end.1 (ids_of face end.0 named)

ended-still : (opened : OpenAt) (notes : List FaceNote) (named : List Named) → AreStill (done_records opened notes named)
unfolding done_records
ended-still opened [] named = tt
ended-still opened (n ∷ more) named =
    let left = end_leaves opened n.face (note_ends n.note) named in
    still-join (end_done opened n.face (note_ends n.note) named) (done_records opened more left) (end-still opened n.face (note_ends n.note) named) (ended-still opened more left)

begun-still : (greatest : ℕ) (added : List AddedAt) → AreStill (begun_records greatest added)
unfolding begun_records
begun-still greatest [] = tt
begun-still greatest (a ∷ added) = by a.is_report (begun-still greatest added) (begun-still (greatest + 1) added)
  where
    by : (t : Bool) → AreStill (begun_records greatest added) → AreStill (begun_records (greatest + 1) added)
        → AreStill (if t then begun_records greatest added else a_begun (pending_with (greatest + 1) a) ∷ begun_records (greatest + 1) added)
    by true report piece = report
    by false report piece = piece

pieces-still : (again : Option ℕ) (greatest : ℕ) (added : List AddedAt) → AreStill (added_records again greatest added)
pieces-still None greatest added = begun-still greatest added
pieces-still (Some id) greatest added = tt

pub reserved-still : (rs : List RecordValue) → AreReserved rs → AreStill rs
reserved-still [] are = tt
reserved-still (a_begun p ∷ rs) are = absurd are
reserved-still (a_done id how ∷ rs) are = absurd are
reserved-still (a_mark m ∷ rs) are = absurd are
reserved-still (a_clear face session ∷ rs) are = absurd are
reserved-still (a_reserved face n ∷ rs) are = reserved-still rs are

-- ---- marks of a step

marks-split : (h : Happened) (xs ys : List Routed) (marks : List Mark) → mark_records h (xs ++ ys) marks ≡ mark_records h xs marks ++ mark_records h ys (marks_after h xs marks)
unfolding mark_records marks_after
marks-split h [] ys marks = refl
marks-split h (x ∷ xs) ys marks =
    let due = due_mark h x.face (reports_on x.datagram) marks in
    ap (λ rs. mark_with due ++ rs) (marks-split h xs ys (marks_then due marks))
    ∙ sym (append_assoc (mark_with due) (mark_records h xs (marks_then due marks)) (mark_records h ys (marks_after h xs (marks_then due marks))))

mark-one : (kept : KeptValue) (due : Option Mark) → (kept_after kept (mark_with due)).marks ≡ marks_then due kept.marks
unfolding kept_with
mark-one kept None = refl
mark-one kept (Some m) = refl

marks-are : (h : Happened) (out : List Routed) (kept : KeptValue) (marks : List Mark) → kept.marks ≡ marks → (kept_after kept (mark_records h out marks)).marks ≡ marks_after h out marks
unfolding mark_records marks_after
marks-are h [] kept marks is = is
marks-are h (x ∷ out) kept marks is =
    let due = due_mark h x.face (reports_on x.datagram) marks in
    ap (λ (k : KeptValue). k.marks) (after-append kept (mark_with due) (mark_records h out (marks_then due marks)))
    ∙ marks-are h out (kept_after kept (mark_with due)) (marks_then due marks) (mark-one kept due ∙ ap (marks_then due) is)

made-join : (face : Face) (rs qs : List RecordValue) → made_marks face (rs ++ qs) ≡ made_marks face rs + made_marks face qs
unfolding made_marks
made-join face [] qs = omega arith
made-join face (r ∷ rs) qs = let rest = made-join face rs qs in sums (makes_mark face r) (made_marks face (rs ++ qs)) (made_marks face rs) (made_marks face qs) rest where
  sums : (m all a b : ℕ) → all ≡ a + b → m + all ≡ m + a + b
  sums m all a b is = omega (arith, is)

abbrev either : Bool → Bool → Bool
either a b = a || b

any-join : (face : Face) (session : ℕ) (rs qs : List RecordValue) → list_any (clears_mark face session) (rs ++ qs) ≡ true
    → (list_any (clears_mark face session) rs ≡ true) ⊎ (list_any (clears_mark face session) qs ≡ true)
any-join face session [] qs is = inr is
any-join face session (r ∷ rs) qs is = by_first (clears_mark face session r) (λ later. any-join face session rs qs later) is where
  by_first : (t : Bool) → (list_any (clears_mark face session) (rs ++ qs) ≡ true → (list_any (clears_mark face session) rs ≡ true) ⊎ (list_any (clears_mark face session) qs ≡ true))
      → either t (list_any (clears_mark face session) (rs ++ qs)) ≡ true → (either t (list_any (clears_mark face session) rs) ≡ true) ⊎ (list_any (clears_mark face session) qs ≡ true)
  by_first true rest is = inl refl
  by_first false rest is = rest is

any-second : (face : Face) (session : ℕ) (rs qs : List RecordValue) → list_any (clears_mark face session) qs ≡ true → list_any (clears_mark face session) (rs ++ qs) ≡ true
any-second face session [] qs is = is
any-second face session (r ∷ rs) qs is = by_first (clears_mark face session r) (any-second face session rs qs is) where
  by_first : (t : Bool) → list_any (clears_mark face session) (rs ++ qs) ≡ true → either t (list_any (clears_mark face session) (rs ++ qs)) ≡ true
  by_first true rest = refl
  by_first false rest = rest

same-face-is : (f g : Face) → same_face f g ≡ true → f ≡ g
same-face-is faces.Old faces.Old is = refl
same-face-is faces.Old faces.New is = absurd (cc)
same-face-is faces.New faces.Old is = absurd (cc)
same-face-is faces.New faces.New is = refl

both-true : (a b : Bool) → (a && b) ≡ true → (a ≡ true) × (b ≡ true)
both-true true true is = (refl, refl)
both-true true false is = absurd (cc)
both-true false b is = absurd (cc)

over-one : (h : Happened) (face : Face) (session : ℕ) (r : RecordValue) → ClearsIfOver h r → clears_mark face session r ≡ true → is_over h face session ≡ true
over-one h face session (a_begun p) over is = absurd (cc)
over-one h face session (a_done id how) over is = absurd (cc)
over-one h face session (a_mark m) over is = absurd (cc)
over-one h face session (a_clear f n) over is =
    let parts = both-true (same_face f face) (n == session) is in
    subst (λ (g : Face). is_over h g session ≡ true) (same-face-is f face parts.0) (subst (λ (k : ℕ). is_over h f k ≡ true) (eqb-true n session parts.1) over)
over-one h face session (a_reserved f n) over is = absurd (cc)

over-any : (h : Happened) (face : Face) (session : ℕ) (rs : List RecordValue) → AllClearIfOver h rs → list_any (clears_mark face session) rs ≡ true → is_over h face session ≡ true
over-any h face session [] all is = absurd (cc)
over-any h face session (r ∷ rs) all is = by_first (clears_mark face session r) refl (λ later. over-any h face session rs all.1 later) is where
  by_first : (t : Bool) → clears_mark face session r ≡ t → (list_any (clears_mark face session) rs ≡ true → is_over h face session ≡ true)
      → either t (list_any (clears_mark face session) rs) ≡ true → is_over h face session ≡ true
  by_first true here rest is = over-one h face session r all.0 here
  by_first false here rest is = rest is

-- ---- what is kept after some steps, by records that clear a mark and make marks as they do

record Reaches (face : Face) (session : ℕ) (from to : KeptValue) (steps : List JournalStep) : Type 0 where
  records : List RecordValue
  to_is : to ≡ kept_after from records
  clears : list_any (clears_mark face session) records ≡ true → IsOverIn face session steps
  made : made_marks face records ≤ marks_made face steps

reach-none : (face : Face) (session : ℕ) (kept : KeptValue) → Reaches face session kept kept []
unfolding made_marks
reach-none face session kept = record { records = []; to_is = refl; clears = λ is. absurd (cc); made = omega arith }

over-first : (face : Face) (session : ℕ) (xs ys : List JournalStep) → IsOverIn face session xs → IsOverIn face session (xs ++ ys)
over-first face session [] ys is = absurd is
over-first face session (x ∷ xs) ys (inl here) = inl here
over-first face session (x ∷ xs) ys (inr there) = inr (over-first face session xs ys there)

over-second : (face : Face) (session : ℕ) (xs ys : List JournalStep) → IsOverIn face session ys → IsOverIn face session (xs ++ ys)
over-second face session [] ys is = is
over-second face session (x ∷ xs) ys is = inr (over-second face session xs ys is)

made-steps : (face : Face) (xs ys : List JournalStep) → marks_made face (xs ++ ys) ≡ marks_made face xs + marks_made face ys
made-steps face [] ys = omega arith
made-steps face (x ∷ xs) ys =
    let rest = made-steps face xs ys in sums (made_marks face (records_of x)) (marks_made face (xs ++ ys)) (marks_made face xs) (marks_made face ys) rest
  where
    sums : (m all a b : ℕ) → all ≡ a + b → m + all ≡ m + a + b
    sums m all a b is = omega (arith, is)

reach-join : (face : Face) (session : ℕ) (from middle to : KeptValue) (xs ys : List JournalStep) → Reaches face session from middle xs → Reaches face session middle to ys → Reaches face session from to (xs ++ ys)
reach-join face session from middle to xs ys first more = record {
  records = first.records ++ more.records;
  to_is = more.to_is ∙ (ap (λ (k : KeptValue). kept_after k more.records) first.to_is ∙ sym (after-append from first.records more.records));
  clears = λ is. by_side (any-join face session first.records more.records is);
  made =
      let all = made-join face first.records more.records in
      let steps = made-steps face xs ys in
      let one = first.made in
      let two = more.made in omega (arith, all, steps, one, two);
} where
  by_side : (list_any (clears_mark face session) first.records ≡ true) ⊎ (list_any (clears_mark face session) more.records ≡ true) → IsOverIn face session (xs ++ ys)
  by_side (inl here) = over-first face session xs ys (first.clears here)
  by_side (inr there) = over-second face session xs ys (more.clears there)

reach-still : (face : Face) (session : ℕ) (from : KeptValue) (rs : List RecordValue) → AreStill rs → Reaches face session from (kept_after from rs) []
reach-still face session from rs are = record {
  records = rs;
  to_is = refl;
  clears = λ is. let none = still-clears face session rs are in absurd (cc (none, is));
  made = let none = still-made face rs are in omega (arith, none);
}

reach-step : OnlyOverIsCleared → (face : Face) (session : ℕ) (step : JournalStep) → Reaches face session (step.keeping).kept (known_then step).kept (step ∷ [])
unfolding after_step
reach-step law face session step = record {
  records = records_of step;
  to_is = refl;
  clears = λ is. inl (over-any (marking step.happened) face session (records_of step) (law step.happened step.keeping) is);
  made = omega arith;
}

reach-moves : (face : Face) (session : ℕ) (from to : PeerKeeping) → Moves from to → Reaches face session from.kept to.kept []
reach-moves face session from to so =
    subst (λ (k : KeptValue). Reaches face session from.kept k []) (sym so.kept_is) (reach-still face session from.kept so.records (reserved-still so.records so.reserved))

reach-chain : OnlyOverIsCleared → (face : Face) (session : ℕ) (from to : PeerKeeping) (steps : List JournalStep) → Chain from steps to → Reaches face session from.kept to.kept steps
reach-chain law face session from to [] so = reach-moves face session from to so
reach-chain law face session from to (step ∷ more) so =
    reach-join face session from.kept (step.keeping).kept to.kept [] (step ∷ more) (reach-moves face session from step.keeping so.0)
    (reach-join face session (step.keeping).kept (known_then step).kept to.kept (step ∷ []) more (reach-step law face session step)
    (reach-chain law face session (known_then step) to more so.1.1))

-- ---- within a step: what is kept once the mark of a report is made

-- records that end marks make none
made-clears : (face : Face) (h : Happened) (marks : List Mark) → made_marks face (clear_records h marks) ≡ 0
unfolding clear_records made_marks
made-clears face h [] = refl
made-clears face h (m ∷ marks) = by (is_over h m.face m.session) (made-clears face h marks)
  where
    by : (t : Bool) → made_marks face (clear_records h marks) ≡ 0
        → made_marks face (if t then a_clear m.face m.session ∷ clear_records h marks else clear_records h marks) ≡ 0
    by true rest = omega (arith, rest)
    by false rest = rest

record Midst (face : Face) (session : ℕ) (step : JournalStep) (out after : List Routed) : Type 0 where
  kept : KeptValue
  marks_are : kept.marks ≡ marks_at step out
  records : List RecordValue
  to_is : (known_then step).kept ≡ kept_after kept records
  clears : list_any (clears_mark face session) records ≡ true → IsOverIn face session (step ∷ [])
  made : made_marks face records ≡ made_after face step out after

midst : OnlyOverIsCleared → (face : Face) (session : ℕ) (step : JournalStep) (out after : List Routed) → (step.happened).out ≡ out ++ after → Midst face session step out after
unfolding after_step step_records
midst law face session step out after out_is = record {
  kept = kept_after k.kept front;
  marks_are = ap (λ (x : KeptValue). x.marks) (after-append k.kept ended (pieces ++ first) ∙ after-append (kept_after k.kept ended) pieces first)
      ∙ marks-are (marking h) out (kept_after (kept_after k.kept ended) pieces) marks
      (still-marks (kept_after k.kept ended) pieces (pieces-still h.again (k.kept).greatest h.added) ∙ still-marks k.kept ended (ended-still h.is_open (notes_in h.told) k.named));
  records = rest;
  to_is = ap (kept_after k.kept) split ∙ after-append k.kept front rest;
  clears = λ is. inl (over-any (marking h) face session (step_records h k) (law h k)
      (subst (λ rs. list_any (clears_mark face session) rs ≡ true) (sym split) (any-second face session front rest is)));
  made =
      let both = made-join face second clears in
      let none = made-clears face (marking h) (marks_after (marking h) h.out marks) in omega (arith, both, none);
} where
  h : PeerHappened
  h = step.happened

  k : PeerKeeping
  k = step.keeping

  marks : List Mark
  marks = (k.kept).marks

  ended : List RecordValue
  ended = ended_records h k

  pieces : List RecordValue
  pieces = piece_records h k

  first : List RecordValue
  first = mark_records (marking h) out marks

  second : List RecordValue
  second = mark_records (marking h) after (marks_after (marking h) out marks)

  clears : List RecordValue
  clears = clear_records (marking h) (marks_after (marking h) h.out marks)

  front : List RecordValue
  front = ended ++ (pieces ++ first)

  rest : List RecordValue
  rest = second ++ clears

  split : step_records h k ≡ front ++ rest
  split =
      ap (λ rs. ended ++ (pieces ++ (rs ++ clears))) (ap (λ xs. mark_records (marking h) xs marks) out_is ∙ marks-split (marking h) out after marks)
      ∙ (ap (λ rs. ended ++ (pieces ++ rs)) (append_assoc first second clears)
      ∙ (ap (λ rs. ended ++ rs) (sym (append_assoc pieces first rest)) ∙ sym (append_assoc ended (pieces ++ first) rest)))

pub marks-are-kept : ReportIsMarked → MarkStays → OnlyOverIsCleared → MarksAreKept
marks-are-kept marks_law stays_law over_law r face came kept is earlier step later steps_are before routed after out_is session reports not_up =
    by_marked (is_marked routed.face session kept.marks) refl
  where
    out : List Routed
    out = before ++ routed ∷ []

    now : Midst routed.face session step out after
    now = midst over_law routed.face session step out after (out_is ∙ sym (append_assoc before (routed ∷ []) after))

    rest : Reaches routed.face session (known_then step).kept kept later
    rest =
        let known = known-run r face came kept is in
        subst (λ (k : KeptValue). Reaches routed.face session (known_then step).kept k later) known.kept_is
        (reach-chain over_law routed.face session (known_then step) known.last later
        (chain-after (keeping_of known.first) known.last earlier step later (subst (λ xs. Chain (keeping_of known.first) xs known.last) steps_are known.chain)))

    all : List RecordValue
    all = now.records ++ rest.records

    all-is : kept ≡ kept_after now.kept all
    all-is = rest.to_is ∙ (ap (λ (k : KeptValue). kept_after k rest.records) now.to_is ∙ sym (after-append now.kept now.records rest.records))

    by_side : (list_any (clears_mark routed.face session) now.records ≡ true) ⊎ (list_any (clears_mark routed.face session) rest.records ≡ true)
        → IsOverIn routed.face session (step ∷ later)
    by_side (inl here) = over-first routed.face session (step ∷ []) later (now.clears here)
    by_side (inr there) = inr (rest.clears there)

    marked : is_marked routed.face session now.kept.marks ≡ true
    marked = ap (is_marked routed.face session) now.marks_are ∙ marks_law step.happened ((step.keeping).kept).marks before routed session reports not_up

    by_stays : (list_any (clears_mark routed.face session) all ≡ true) ⊎ (MARKS_MAX ≤ later_marks routed.face session now.kept.marks + made_marks routed.face all)
        → IsMarkKept routed.face session out after step later kept
    by_stays (inl cleared) = inr (inl (by_side (any-join routed.face session now.records rest.records cleared)))
    by_stays (inr many) =
        let same = ap (later_marks routed.face session) now.marks_are in
        inr (inr (within MARKS_MAX many same (made-join routed.face now.records rest.records) now.made rest.made))
      where
        within : (most : ℕ) {a b c d e f g : ℕ} → most ≤ a + c → a ≡ b → c ≡ d + e → d ≡ f → e ≤ g → most ≤ b + (f + g)
        within most many same both made more = omega (arith, many, same, both, made, more)

    by_marked : (t : Bool) → is_marked routed.face session kept.marks ≡ t → IsMarkKept routed.face session out after step later kept
    by_marked true there = inl there
    by_marked false gone =
        by_stays (stays_law now.kept all routed.face session marked (ap (λ (k : KeptValue). is_marked routed.face session k.marks) (sym all-is) ∙ gone))
