-- What is still to be added stays so, but for the piece that a step adds.
use Rattle.std.proofs.Common.{◌≡◌, ℕ, ◌+◌, ◌<◌, ◌==◌, ◌&&◌, ◌||◌, Bool, true, false, not, if◌then◌else◌, List, [], ◌∷◌, ◌++◌, Option, None, Some, refl, sym, ap, ◌∙◌, subst, arith}
use Rattle.std.proofs.lemmas.Bool.{eqb-true, eqb-false, eq-eqb, ne_eqb}
use Rattle.std.proofs.lemmas.List.Elements.{filter_agree}
use Rattle.std.specs.List.{filter}
use Rattle.gate_cases.specs.declared.face.Face.{Face}
use Rattle.gate_cases.specs.declared.face.Face.TheVariants.{Old, New}
use Rattle.gateway_core.specs.declared.effects.FaceNote.{FaceNote}
use Rattle.gate_events.specs.Own.{OpenAt}
use Rattle.journal_file.specs.declared.kept.Pending.{Pending}
use Rattle.journal_file.specs.declared.record.How.{How}
use Rattle.journal_file.specs.Values.{KeptValue, RecordValue, a_begun, a_done, a_mark, a_clear, a_reserved}
use Rattle.journal_file.specs.Keeping.{same_face, with_pending, kept_with, kept_after}
use Rattle.journal_file.specs.Legal.{AreUpTo, IsLegal}
use Rattle.journal_file.specs.Anew.{AreBegun}
use Rattle.journal_file.proofs.AnewLemmas.{after-append}
use Rattle.gate_records.specs.declared.named.Named.{Named}
use Rattle.gate_records.specs.Happened.{note_ends}
use Rattle.gate_records.specs.Records.{marks_after}
use Rattle.gate_records.proofs.LeaveLemmas.{AreApart, others-apart}
use Rattle.peer_gateway.specs.Gate.{AddedAt}
use Rattle.peer_records.specs.Happened.{PeerHappened, notes_in, marking}
use Rattle.peer_records.specs.Keeping.{Waiting, PeerKeeping, ids_named, held, one_if, times, to_add_at}
use Rattle.peer_records.specs.Records.{ids_of, others_than, all_done, end_done, end_leaves, done_records, named_left, pending_with, begun_records, waits_at, waiting_with, added_records, added_waiting, before_going, all_go, step_records, after_step}
use Rattle.peer_records.specs.Laws.{still_to_add}
use Rattle.peer_records.specs.Said.{is_among, pending_without, AreRising, IsOrdered}
use Rattle.peer_records.proofs.CountLemmas.{named-apart}
use Rattle.peer_records.proofs.AddedLemmas.{waits, waits-some, waits-none}
use Rattle.peer_records.proofs.GoingLemmas.{all-hold}
use Rattle.peer_records.proofs.MarkLemmas.{mark_part, marks-pending}
use Rattle.peer_records.proofs.StepLemmas.{held-parts}
use Rattle.peer_records.proofs.OrderLemmas.{both-filter, rising-push, up-to-push, done-kept, ordered-some}

-- ---- those that are held never

abbrev free_at : Face → (ℕ → ℕ) → List Pending → List Pending
free_at face hold ps = filter (λ (p : Pending). same_face p.face face && (hold p.id == 0)) ps

free-same : (face : Face) (hold now : ℕ → ℕ) (ps : List Pending) → ((id : ℕ) → hold id ≡ now id) → free_at face hold ps ≡ free_at face now ps
free-same face hold now ps same =
    filter_agree (λ (p : Pending). same_face p.face face && (hold p.id == 0)) (λ (p : Pending). same_face p.face face && (now p.id == 0))
    (λ p. ap (λ (n : ℕ). same_face p.face face && (n == 0)) (same p.id)) ps

-- ---- an id among others

pub eq-comm : (a b : ℕ) → (a == b) ≡ (b == a)
eq-comm a b = by (a == b) refl
  where
    by : (t : Bool) → (a == b) ≡ t → t ≡ (b == a)
    by true is = sym (eq-eqb b a (sym (eqb-true a b is)))
    by false is = sym (ne_eqb b a (λ e. eqb-false a b is (sym e)))

more-than-none : (n : ℕ) → (1 + n == 0) ≡ false
more-than-none n = ne_eqb (1 + n) 0 (λ e. omega (arith, e))

pub among-times : (id : ℕ) (ids : List ℕ) → is_among ids id ≡ not (times id ids == 0)
unfolding times
among-times id [] = refl
among-times id (x ∷ ids) = rw (eq-comm id x) (by (x == id) (among-times id ids))
  where
    by : (t : Bool) → is_among ids id ≡ not (times id ids == 0) → (t || is_among ids id) ≡ not (one_if t + times id ids == 0)
    by true rest = let some = more-than-none (times id ids) in rw some refl
    by false rest = let none : 0 + times id ids ≡ times id ids = omega arith in rw none rest

-- ---- pieces that end

never : (s : Bool) → (s && false) ≡ false
never true = refl
never false = refl

gone : (s : Bool) (c left hold : ℕ) → hold ≡ c + left → (not (not (c == 0)) && (s && (left == 0))) ≡ (s && (hold == 0))
gone s c left hold is = by (c == 0) refl
  where
    by : (t : Bool) → (c == 0) ≡ t → (not (not t) && (s && (left == 0))) ≡ (s && (hold == 0))
    by true none = let zero = eqb-true c 0 none in let same : hold ≡ left = omega (arith, is, zero) in rw same refl
    by false some =
        let held : (hold == 0) ≡ false = ne_eqb hold 0 (λ e. eqb-false c 0 some (omega (arith, e, is))) in
        rw held (sym (never s))

without-held : (face : Face) (hold left : ℕ → ℕ) (ids : List ℕ) (ps : List Pending) → ((id : ℕ) → hold id ≡ times id ids + left id)
    → free_at face left (pending_without ids ps) ≡ free_at face hold ps
without-held face hold left ids ps is =
    both-filter (λ (p : Pending). not (is_among ids p.id)) (λ (p : Pending). same_face p.face face && (left p.id == 0)) ps
    ∙ filter_agree (λ (p : Pending). not (is_among ids p.id) && (same_face p.face face && (left p.id == 0))) (λ (p : Pending). same_face p.face face && (hold p.id == 0))
    (λ p. ap (λ (b : Bool). not b && (same_face p.face face && (left p.id == 0))) (among-times p.id ids) ∙ gone (same_face p.face face) (times p.id ids) (left p.id) (hold p.id) (is p.id)) ps

-- after ends the order is the same, and so is what is free
record Ends (face : Face) (kept now : KeptValue) (named left : List Named) (besides : ℕ → ℕ) : Type 0 where
  ordered : IsOrdered now
  greatest : now.greatest ≡ kept.greatest
  free : free_at face (λ id. times id (ids_named left) + besides id) now.pending ≡ free_at face (λ id. times id (ids_named named) + besides id) kept.pending

ends-none : (face : Face) (kept : KeptValue) (named : List Named) (besides : ℕ → ℕ) → IsOrdered kept → Ends face kept kept named named besides
ends-none face kept named besides is = record { ordered = is; greatest = refl; free = refl }

ends-one : (face : Face) (kept : KeptValue) (is_open : OpenAt) (at : Face) (end : Option (ℕ × How)) (named : List Named) (besides : ℕ → ℕ) → IsOrdered kept
    → Ends face kept (kept_after kept (end_done is_open at end named)) named (end_leaves is_open at end named) besides
ends-one face kept is_open at None named besides is = ends-none face kept named besides is
ends-one face kept is_open at (Some end) named besides is = by (is_open at end.0)
  where
    ids : List ℕ
    ids = ids_of at end.0 named

    left : List Named
    left = others_than at end.0 named

    hold : (id : ℕ) → times id (ids_named named) + besides id ≡ times id ids + (times id (ids_named left) + besides id)
    hold id = let parts = named-apart id at end.0 named in omega (arith, parts)

    done : Ends face kept (with_pending kept (pending_without ids kept.pending) kept.greatest) named left besides
    done = record {
      ordered = ordered-some kept (λ (p : Pending). not (is_among ids p.id)) is;
      greatest = refl;
      free = without-held face (λ id. times id (ids_named named) + besides id) (λ id. times id (ids_named left) + besides id) ids kept.pending hold;
    }

    by : (t : Bool) → Ends face kept (kept_after kept (if t then [] else all_done end.1 ids)) named (if t then named else left) besides
    by true = ends-none face kept named besides is
    by false = subst (λ (k : KeptValue). Ends face kept k named left besides) (sym (done-kept kept end.1 ids is.rising)) done

ends-all : (face : Face) (kept : KeptValue) (is_open : OpenAt) (notes : List FaceNote) (named : List Named) (besides : ℕ → ℕ) → IsOrdered kept
    → Ends face kept (kept_after kept (done_records is_open notes named)) named (named_left is_open notes named) besides
unfolding done_records named_left
ends-all face kept is_open [] named besides is = ends-none face kept named besides is
ends-all face kept is_open (n ∷ notes) named besides is =
    let rs = end_done is_open n.face (note_ends n.note) named in
    let mid = end_leaves is_open n.face (note_ends n.note) named in
    let one = ends-one face kept is_open n.face (note_ends n.note) named besides is in
    let two = ends-all face (kept_after kept rs) is_open notes mid besides one.ordered in
    subst (λ (k : KeptValue). Ends face kept k named (named_left is_open notes mid) besides) (sym (after-append kept rs (done_records is_open notes mid)))
    (record { ordered = two.ordered; greatest = two.greatest ∙ one.greatest; free = two.free ∙ one.free })

-- ---- pieces that are added

one-held : (face : Face) (hold now : ℕ → ℕ) (g : ℕ) (p : Pending) (ps : List Pending) → ((id : ℕ) → now id ≡ hold id + one_if (p.id == id)) → AreUpTo g ps → g < p.id
    → free_at face now (ps ++ p ∷ []) ≡ free_at face hold ps
one-held face hold now g p [] is up above =
    let self = ap (λ (b : Bool). one_if b) (eq-eqb p.id p.id refl) in
    let more = is p.id in
    let some : (now p.id == 0) ≡ false = ne_eqb (now p.id) 0 (λ e. omega (arith, e, more, self)) in
    rw (some, never (same_face p.face face)) refl
one-held face hold now g p (q ∷ ps) is (le, up) above =
    let apart : (p.id == q.id) ≡ false = ne_eqb p.id q.id (λ e. omega (arith, e, le, above)) in
    let none = ap (λ (b : Bool). one_if b) apart in
    let more = is q.id in
    let same : now q.id ≡ hold q.id = omega (arith, more, none) in
    rw (same, one-held face hold now g p ps is up above) refl

record Begins (face : Face) (kept now : KeptValue) (hold after : ℕ → ℕ) : Type 0 where
  ordered : IsOrdered now
  free : free_at face after now.pending ≡ free_at face hold kept.pending

begins-one : (face : Face) (kept : KeptValue) (p : Pending) (hold after : ℕ → ℕ) → p.id ≡ kept.greatest + 1 → ((id : ℕ) → after id ≡ hold id + one_if (p.id == id)) → IsOrdered kept
    → Begins face kept (kept_with kept (a_begun p)) hold after
unfolding kept_with
begins-one face kept p hold after next is ordered = record {
  ordered = record {
    rising = rising-push 0 kept.greatest kept.pending p ordered.rising ordered.up_to (omega (arith, next)) (omega (arith, next));
    up_to = up-to-push kept.greatest kept.pending p ordered.up_to (omega (arith, next));
  };
  free = one-held face hold after kept.greatest p kept.pending is ordered.up_to (omega (arith, next));
}

begins-all : (face : Face) (kept : KeptValue) (added : List AddedAt) (w : Waiting × Waiting) (n : ℕ → ℕ) → IsOrdered kept
    → Begins face kept (kept_after kept (begun_records kept.greatest added)) (λ id. n id + waits id w) (λ id. n id + waits id (waiting_with kept.greatest added w))
unfolding begun_records waiting_with kept_with
begins-all face kept [] w n is = record { ordered = is; free = refl }
begins-all face kept (a ∷ added) w n is =
    by a.is_report (begins-all face kept added (waits_at a.face None w) n is)
    (begins-all face (kept_with kept (a_begun (pending_with (kept.greatest + 1) a))) added (waits_at a.face (Some (kept.greatest + 1)) w) n one.ordered)
  where
    p : Pending
    p = pending_with (kept.greatest + 1) a

    hold : ℕ → ℕ
    hold id = n id + waits id w

    one : Begins face kept (kept_with kept (a_begun p)) hold (λ id. n id + waits id (waits_at a.face (Some (kept.greatest + 1)) w))
    one =
        begins-one face kept p hold (λ id. n id + waits id (waits_at a.face (Some (kept.greatest + 1)) w)) refl
        (λ id. let more = waits-some id (kept.greatest + 1) a.face w in omega (arith, more)) is

    report : Begins face kept (kept_after kept (begun_records kept.greatest added)) (λ id. n id + waits id (waits_at a.face None w)) (λ id. n id + waits id (waiting_with kept.greatest added (waits_at a.face None w)))
        → Begins face kept (kept_after kept (begun_records kept.greatest added)) hold (λ id. n id + waits id (waiting_with kept.greatest added (waits_at a.face None w)))
    report rest = record {
      ordered = rest.ordered;
      free = rest.free ∙ free-same face (λ id. n id + waits id (waits_at a.face None w)) hold kept.pending (λ id. ap (λ (m : ℕ). n id + m) (waits-none id a.face w));
    }

    by : (t : Bool)
        → Begins face kept (kept_after kept (begun_records kept.greatest added)) (λ id. n id + waits id (waits_at a.face None w)) (λ id. n id + waits id (waiting_with kept.greatest added (waits_at a.face None w)))
        → Begins face (kept_with kept (a_begun p)) (kept_after (kept_with kept (a_begun p)) (begun_records (kept.greatest + 1) added))
        (λ id. n id + waits id (waits_at a.face (Some (kept.greatest + 1)) w)) (λ id. n id + waits id (waiting_with (kept.greatest + 1) added (waits_at a.face (Some (kept.greatest + 1)) w)))
        → Begins face kept (kept_after kept (if t then begun_records kept.greatest added else a_begun p ∷ begun_records (kept.greatest + 1) added)) hold
        (λ id. n id + waits id (if t then waiting_with kept.greatest added (waits_at a.face None w) else waiting_with (kept.greatest + 1) added (waits_at a.face (Some (kept.greatest + 1)) w)))
    by true rest piece = report rest
    by false rest piece = record { ordered = piece.ordered; free = piece.free ∙ one.free }

-- one of an earlier run
again-held : (s : Bool) (n w x id : ℕ) → (s && (n + (w + one_if (x == id)) == 0)) ≡ ((s && (n + w == 0)) && not (id == x))
again-held s n w x id = by (x == id) refl
  where
    never_both : (b : Bool) → false ≡ (b && false)
    never_both b = sym (never b)

    same : (b : Bool) → b ≡ (b && true)
    same true = refl
    same false = refl

    by : (t : Bool) → (x == id) ≡ t → (s && (n + (w + one_if t) == 0)) ≡ ((s && (n + w == 0)) && not (id == x))
    by true is =
        let other : (id == x) ≡ true = eq-comm id x ∙ is in
        let some : (n + (w + 1) == 0) ≡ false = ne_eqb (n + (w + 1)) 0 (λ e. omega (arith, e)) in
        rw (other, some, never s) (never_both (s && (n + w == 0)))
    by false is =
        let other : (id == x) ≡ false = eq-comm id x ∙ is in
        let none : n + (w + 0) ≡ n + w = omega arith in
        rw (other, none) (same (s && (n + w == 0)))

again-free : (face : Face) (x : ℕ) (at : Face) (w : Waiting × Waiting) (n : ℕ → ℕ) (ps : List Pending)
    → free_at face (λ id. n id + waits id (waits_at at (Some x) w)) ps ≡ filter (λ (p : Pending). not (p.id == x)) (free_at face (λ id. n id + waits id w) ps)
again-free face x at w n ps =
    free-same face (λ id. n id + waits id (waits_at at (Some x) w)) (λ id. n id + (waits id w + one_if (x == id))) ps (λ id. ap (λ (m : ℕ). n id + m) (waits-some id x at w))
    ∙ filter_agree (λ (p : Pending). same_face p.face face && (n p.id + (waits p.id w + one_if (x == p.id)) == 0))
    (λ (p : Pending). (same_face p.face face && (n p.id + waits p.id w == 0)) && not (p.id == x)) (λ p. again-held (same_face p.face face) (n p.id) (waits p.id w) x p.id) ps
    ∙ sym (both-filter (λ (p : Pending). same_face p.face face && (n p.id + waits p.id w == 0)) (λ (p : Pending). not (p.id == x)) ps)

-- ---- what is added, of either kind

record Adds (face : Face) (kept now : KeptValue) (n : ℕ → ℕ) (again : Option ℕ) (added : List AddedAt) (w v : Waiting × Waiting) : Type 0 where
  ordered : IsOrdered now
  free : free_at face (λ id. n id + waits id v) now.pending ≡ still_to_add again added (free_at face (λ id. n id + waits id w) kept.pending)

adds-any : (face : Face) (kept : KeptValue) (again : Option ℕ) (added : List AddedAt) (w : Waiting × Waiting) (n : ℕ → ℕ) → IsOrdered kept
    → Adds face kept (kept_after kept (added_records again kept.greatest added)) n again added w (added_waiting again kept.greatest added w)
adds-any face kept None added w n is =
    let all = begins-all face kept added w n is in record { ordered = all.ordered; free = all.free }
adds-any face kept (Some id) [] w n is = record { ordered = is; free = refl }
adds-any face kept (Some id) (a ∷ more) w n is = record { ordered = is; free = again-free face id a.face w n kept.pending }

-- ---- marks

pub apart-greatest : (kept : KeptValue) (rs : List RecordValue) → AreApart rs → (kept_after kept rs).greatest ≡ kept.greatest
unfolding kept_with
apart-greatest kept [] are = refl
apart-greatest kept (a_begun p ∷ rs) are = absurd are
apart-greatest kept (a_done id how ∷ rs) are = absurd are
apart-greatest kept (a_mark m ∷ rs) are = apart-greatest (kept_with kept (a_mark m)) rs are
apart-greatest kept (a_clear face session ∷ rs) are = apart-greatest (kept_with kept (a_clear face session)) rs are
apart-greatest kept (a_reserved Old n ∷ rs) are = apart-greatest (kept_with kept (a_reserved Old n)) rs are
apart-greatest kept (a_reserved New n ∷ rs) are = apart-greatest (kept_with kept (a_reserved New n)) rs are

ordered-apart : (kept : KeptValue) (rs : List RecordValue) → (kept_after kept rs).pending ≡ kept.pending → AreApart rs → IsOrdered kept → IsOrdered (kept_after kept rs)
ordered-apart kept rs pending are is = record {
  rising = subst (λ (ps : List Pending). AreRising 0 ps) (sym pending) is.rising;
  up_to = subst (λ (g : ℕ). AreUpTo g (kept_after kept rs).pending) (sym (apart-greatest kept rs are))
      (subst (λ (ps : List Pending). AreUpTo kept.greatest ps) (sym pending) is.up_to);
}

-- ---- a step

pub record After (h : PeerHappened) (k : PeerKeeping) (face : Face) : Type 0 where
  pub ordered : IsOrdered (after_step h k).kept
  pub to_add : to_add_at face (after_step h k) ≡ still_to_add h.again h.added (to_add_at face k)

-- what is held after it
pub held-after : (h : PeerHappened) (k : PeerKeeping) (id : ℕ)
    → times id (held (after_step h k)) ≡ times id (ids_named (named_left h.is_open (notes_in h.told) k.named)) + waits id (added_waiting h.again (k.kept).greatest h.added k.waiting)
unfolding after_step
held-after h k id =
    held-parts id (all_go h.begun (before_going h k)).named (all_go h.begun (before_going h k)).waiting ∙ all-hold id h.begun (before_going h k)

pub after-it : (h : PeerHappened) (k : PeerKeeping) (face : Face) → IsOrdered k.kept → After h k face
unfolding after_step step_records
after-it h k face is =
    let ended = done_records h.is_open (notes_in h.told) k.named in
    let left : List Named = named_left h.is_open (notes_in h.told) k.named in
    let n : ℕ → ℕ = λ id. times id (ids_named left) in
    let pieces = added_records h.again (k.kept).greatest h.added in
    let marks = mark_part h k.kept in
    let v = added_waiting h.again (k.kept).greatest h.added k.waiting in
    let kept1 : KeptValue = kept_after k.kept ended in
    let kept2 : KeptValue = kept_after kept1 pieces in
    let one = ends-all face k.kept h.is_open (notes_in h.told) k.named (λ id. waits id k.waiting) is in
    let two : Adds face kept1 kept2 n h.again h.added k.waiting v =
    subst (λ (g : ℕ). Adds face kept1 (kept_after kept1 (added_records h.again g h.added)) n h.again h.added k.waiting (added_waiting h.again g h.added k.waiting)) one.greatest
    (adds-any face kept1 h.again h.added k.waiting n one.ordered) in
    let rest : kept_after k.kept (ended ++ (pieces ++ marks)) ≡ kept_after kept2 marks = after-append k.kept ended (pieces ++ marks) ∙ after-append kept1 pieces marks in
    let pending : (kept_after kept2 marks).pending ≡ kept2.pending = marks-pending h k.kept kept2 in
    let apart : AreApart marks = others-apart (marking h) h.out (k.kept).marks (marks_after (marking h) h.out (k.kept).marks) in
    let before : free_at face (λ id. times id (held k)) (k.kept).pending ≡ free_at face (λ id. times id (ids_named k.named) + waits id k.waiting) (k.kept).pending =
    free-same face (λ id. times id (held k)) (λ id. times id (ids_named k.named) + waits id k.waiting) (k.kept).pending (λ id. held-parts id k.named k.waiting) in record {
      ordered = subst (λ (j : KeptValue). IsOrdered j) (sym rest) (ordered-apart kept2 marks pending apart two.ordered);
      to_add =
          free-same face (λ id. times id (held (after_step h k))) (λ id. n id + waits id v) (kept_after k.kept (ended ++ (pieces ++ marks))).pending (λ id. held-after h k id)
          ∙ ap (λ (ps : List Pending). free_at face (λ id. n id + waits id v) ps) (ap (λ (j : KeptValue). j.pending) rest ∙ pending)
          ∙ two.free
          ∙ ap (λ (ps : List Pending). still_to_add h.again h.added ps) (one.free ∙ sym before);
    }

-- ---- what is legal is in order

pub begun-rising : (n : ℕ) (ps : List Pending) → AreBegun n ps → AreRising n ps
begun-rising n [] are = tt
begun-rising n (p ∷ ps) (above, small, short, moment, rest) = (above, begun-rising p.id ps rest)

pub to-add-stays : (h : PeerHappened) (k : PeerKeeping) (face : Face) → IsLegal k.kept → to_add_at face (after_step h k) ≡ still_to_add h.again h.added (to_add_at face k)
to-add-stays h k face legal =
    (after-it h k face (record { rising = begun-rising 0 (k.kept).pending legal.pending; up_to = legal.up_to })).to_add
