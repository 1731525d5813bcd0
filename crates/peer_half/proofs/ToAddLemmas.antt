-- Which pieces of earlier runs are still to be added, after one was.

use Rattle.std.proofs.Common.{◌≡◌, ◌≢◌, ℕ, ◌+◌, ◌==◌, ◌<◌, ◌≤◌, Bool, true, false, ◌&&◌, not, if◌then◌else◌, List, [], ◌∷◌, ◌++◌, length, Some, refl, sym, ap, ◌∙◌, subst, arith}
use Rattle.std.proofs.lemmas.Bool.{eq-eqb, eqb-true, ne_eqb}
use Rattle.std.specs.List.{AllByRecursion, filter}
use Rattle.gate_cases.specs.declared.face.Face.{Face}
use Rattle.gate_cases.specs.declared.face.Face.TheVariants as faces
use Rattle.journal_file.specs.declared.kept.Pending.{Pending}
use Rattle.journal_file.specs.Anew.{AreBegun}
use Rattle.journal_file.specs.Keeping.{kept_after, same_face}
use Rattle.peer_gateway.specs.Gate.{AddedAt}
use Rattle.peer_records.specs.Happened.{PeerHappened, notes_in}
use Rattle.peer_records.specs.Keeping.{Waiting, PeerKeeping, held, ids_named, ids_pending, is_to_add, one_if, times, to_add_at}
use Rattle.peer_records.specs.Records.{after_step, all_go, before_going, done_records, named_left, step_records, waiting_again}
use Rattle.peer_records.proofs.AddedLemmas.{waits, waits-some}
use Rattle.peer_records.proofs.AgainLemmas.{to-add-is-free}
use Rattle.peer_records.proofs.GoingLemmas.{all-hold}
use Rattle.peer_records.proofs.MarkLemmas.{mark_part, marks-pending}
use Rattle.peer_records.proofs.StepLemmas.{held-parts}
use Rattle.peer_half.specs.Laws.{AddsFront}

-- ---- a step that is to add a piece of an earlier run, and notes nothing

-- how often an id is held besides
abbrev pub one_added : ℕ → ℕ → List AddedAt → ℕ
one_added id i [] = 0
one_added id i (a ∷ more) = one_if (id == i)

waits-again : (id i : ℕ) (added : List AddedAt) (w : Waiting × Waiting) → waits i (waiting_again id added w) ≡ waits i w + one_added id i added
waits-again id i [] w = omega arith
waits-again id i (a ∷ more) w = waits-some i id a.face w

pub held-again : (h : PeerHappened) (k : PeerKeeping) (id : ℕ) → h.again ≡ Some id → notes_in h.told ≡ [] → (i : ℕ)
    → times i (held (after_step h k)) ≡ times i (held k) + one_added id i h.added
unfolding after_step named_left
held-again h k id again quiet i =
    let gone = all_go h.begun (before_going h k) in
    let parts = held-parts i gone.named gone.waiting in
    let before = held-parts i k.named k.waiting in
    let same = all-hold i h.begun (before_going h k) in
    let waited : waits i (before_going h k).waiting ≡ waits i (waiting_again id h.added k.waiting) = rw again refl in
    let one = waits-again id i h.added k.waiting in
    let named : times i (ids_named (before_going h k).named) ≡ times i (ids_named k.named) = rw quiet refl in
    omega (arith, parts, before, same, waited, one, named)

pub records-again : (h : PeerHappened) (k : PeerKeeping) (id : ℕ) → h.again ≡ Some id → notes_in h.told ≡ [] → step_records h k ≡ mark_part h k.kept
unfolding step_records done_records
records-again h k id again quiet = rw (again, quiet) refl

pub pending-again : (h : PeerHappened) (k : PeerKeeping) (id : ℕ) → h.again ≡ Some id → notes_in h.told ≡ [] → ((after_step h k).kept).pending ≡ (k.kept).pending
unfolding after_step
pending-again h k id again quiet =
    ap (λ records. (kept_after k.kept records).pending) (records-again h k id again quiet) ∙ marks-pending h k.kept k.kept

-- ---- pending pieces without one

same-each : (f g : Pending → Bool) (ps : List Pending) → ((q : Pending) → f q ≡ g q) → filter f ps ≡ filter g ps
same-each f g [] is = refl
same-each f g (q ∷ ps) is =
    ap (λ t. if t then q ∷ filter f ps else filter f ps) (is q) ∙ ap (λ more. if g q then q ∷ more else more) (same-each f g ps is)

-- all but one
abbrev but : ℕ → (Pending → Bool) → Pending → Bool
but id test q = test q && not (id == q.id)

and-true : (a : Bool) → (a && true) ≡ a
and-true true = refl
and-true false = refl

and-false : (a : Bool) → (a && false) ≡ false
and-false true = refl
and-false false = refl

others-stay : (n id : ℕ) (ps : List Pending) (test : Pending → Bool) → id ≤ n → AreBegun n ps → filter (but id test) ps ≡ filter test ps
others-stay n id [] test low are = refl
others-stay n id (q ∷ ps) test low (above, small, short, moment, rest) =
    let other : (id == q.id) ≡ false = ne_eqb id q.id (λ e. omega (arith, e, low, above)) in
    let same : but id test q ≡ test q = ap (λ t. test q && not t) other ∙ and-true (test q) in
    let more = others-stay q.id id ps test (omega (arith, low, above)) rest in
    ap (λ t. if t then q ∷ filter (but id test) ps else filter (but id test) ps) same ∙ ap (λ l. if test q then q ∷ l else l) more

first-above : (n : ℕ) (ps : List Pending) (test : Pending → Bool) (p : Pending) (more : List Pending) → AreBegun n ps → filter test ps ≡ p ∷ more → n < p.id
first-above n [] test p more are is = absurd (cc)
first-above n (q ∷ ps) test p more (above, small, short, moment, rest) is = by (test q) is (λ front. first-above q.id ps test p more rest front)
  where
    by : (t : Bool) → (if t then q ∷ filter test ps else filter test ps) ≡ p ∷ more → (filter test ps ≡ p ∷ more → q.id < p.id) → n < p.id
    by true front others = let same : q ≡ p = cc in subst (λ (r : Pending). n < r.id) same above
    by false front others = let later = others front in omega (arith, above, later)

-- the first of those that pass is gone
front-gone : (n : ℕ) (ps : List Pending) (test : Pending → Bool) (p : Pending) (more : List Pending) → AreBegun n ps → filter test ps ≡ p ∷ more
    → filter (but p.id test) ps ≡ more
front-gone n [] test p more are is = absurd (cc)
front-gone n (q ∷ ps) test p more (above, small, short, moment, rest) is =
    by (test q) refl is (λ front. front-gone q.id ps test p more rest front)
  where
    here : q ≡ p → filter test ps ≡ more → filter (but p.id test) (q ∷ ps) ≡ more
    here same front =
        let id : p.id ≡ q.id = ap (λ (r : Pending). r.id) (sym same) in
        let out : but p.id test q ≡ false = ap (λ t. test q && not t) (eq-eqb p.id q.id id) ∙ and-false (test q) in
        rw out (others-stay q.id p.id ps test (omega (arith, id)) rest ∙ front)

    later : test q ≡ false → filter (but p.id test) ps ≡ more → filter (but p.id test) (q ∷ ps) ≡ more
    later fails front = rw fails front

    by : (t : Bool) → test q ≡ t → (if t then q ∷ filter test ps else filter test ps) ≡ p ∷ more
        → (filter test ps ≡ p ∷ more → filter (but p.id test) ps ≡ more) → filter (but p.id test) (q ∷ ps) ≡ more
    by true passes front others = here (cc) (cc)
    by false fails front others = later fails (others front)

-- of others, which it doesn't pass for, none is
rest-stays : (n : ℕ) (ps : List Pending) (test other : Pending → Bool) (p : Pending) (more : List Pending) → AreBegun n ps → filter test ps ≡ p ∷ more
    → other p ≡ false → filter (but p.id other) ps ≡ filter other ps
rest-stays n [] test other p more are is out = refl
rest-stays n (q ∷ ps) test other p more (above, small, short, moment, rest) is out =
    by (test q) is (λ front. rest-stays q.id ps test other p more rest front out)
  where
    here : q ≡ p → filter (but p.id other) (q ∷ ps) ≡ filter other (q ∷ ps)
    here same =
        let id : p.id ≡ q.id = ap (λ (r : Pending). r.id) (sym same) in
        let fails : other q ≡ false = ap other same ∙ out in
        rw fails (others-stay q.id p.id ps other (omega (arith, id)) rest)

    later : q.id < p.id → filter (but p.id other) ps ≡ filter other ps → filter (but p.id other) (q ∷ ps) ≡ filter other (q ∷ ps)
    later above same =
        let apart : (p.id == q.id) ≡ false = ne_eqb p.id q.id (λ e. omega (arith, e, above)) in
        let passes : but p.id other q ≡ other q = ap (λ t. other q && not t) apart ∙ and-true (other q) in
        ap (λ t. if t then q ∷ filter (but p.id other) ps else filter (but p.id other) ps) passes ∙ ap (λ l. if other q then q ∷ l else l) same

    by : (t : Bool) → (if t then q ∷ filter test ps else filter test ps) ≡ p ∷ more
        → (filter test ps ≡ p ∷ more → filter (but p.id other) ps ≡ filter other ps) → filter (but p.id other) (q ∷ ps) ≡ filter other (q ∷ ps)
    by true front others = here (cc)
    by false front others = later (first-above q.id ps test p more rest front) (others front)

-- ---- those that are to be added

abbrev to_add : Face → PeerKeeping → Pending → Bool
to_add face k q = same_face q.face face && is_to_add k q

none-held : (n : ℕ) (t : Bool) → (n + one_if t == 0) ≡ ((n == 0) && not t)
none-held n true = ne_eqb (n + 1) 0 (λ e. omega (arith, e)) ∙ sym (and-false (n == 0))
none-held n false = ap (λ m. m == 0) (the-same n) ∙ sym (and-true (n == 0))
  where
    the-same : (n : ℕ) → n + 0 ≡ n
    the-same n = omega arith

and-assoc : (a b c : Bool) → (a && (b && c)) ≡ ((a && b) && c)
and-assoc true b c = refl
and-assoc false b c = refl

-- one was added, and all that was pending is
pub record OneAdded (id : ℕ) (before after : PeerKeeping) : Type 0 where
  pub held_is : (i : ℕ) → times i (held after) ≡ times i (held before) + one_if (id == i)
  pub pending : (after.kept).pending ≡ (before.kept).pending

to-add-but : (face : Face) (id : ℕ) (k l : PeerKeeping) → OneAdded id k l → to_add_at face l ≡ filter (but id (to_add face k)) (k.kept).pending
to-add-but face id k l one =
    ap (λ ps. filter (to_add face l) ps) one.pending ∙ same-each (to_add face l) (but id (to_add face k)) (k.kept).pending each
  where
    each : (q : Pending) → to_add face l q ≡ but id (to_add face k) q
    each q =
        ap (λ n. same_face q.face face && (n == 0)) (one.held_is q.id)
        ∙ (ap (λ t. same_face q.face face && t) (none-held (times q.id (held k)) (id == q.id))
        ∙ and-assoc (same_face q.face face) (is_to_add k q) (not (id == q.id)))

pub front-added : (face : Face) (k l : PeerKeeping) (p : Pending) (more : List Pending) → AreBegun 0 (k.kept).pending → to_add_at face k ≡ p ∷ more
    → OneAdded p.id k l → to_add_at face l ≡ more
front-added face k l p more are is one =
    to-add-but face p.id k l one ∙ front-gone 0 (k.kept).pending (to_add face k) p more are is

other-face : (at face of : Face) (t : Bool) → at ≢ face → same_face of face ≡ true → (same_face of at && t) ≡ false
other-face faces.Old faces.Old of t other is = absurd (other refl)
other-face faces.Old faces.New faces.Old t other is = absurd (cc)
other-face faces.Old faces.New faces.New t other is = refl
other-face faces.New faces.Old faces.Old t other is = refl
other-face faces.New faces.Old faces.New t other is = absurd (cc)
other-face faces.New faces.New of t other is = absurd (other refl)

pub other-added : (face at : Face) (k l : PeerKeeping) (p : Pending) (more : List Pending) → AreBegun 0 (k.kept).pending → to_add_at face k ≡ p ∷ more
    → OneAdded p.id k l → at ≢ face → to_add_at at l ≡ to_add_at at k
other-added face at k l p more are is one other =
    to-add-but at p.id k l one
    ∙ rest-stays 0 (k.kept).pending (to_add face k) (to_add at k) p more are is (other-face at face p.face (is_to_add k p) other (to-add-is-free face k p more is).1)

-- where none was, as many are to be added
pub record NoneAdded (before after : PeerKeeping) : Type 0 where
  pub held_is : (i : ℕ) → times i (held after) ≡ times i (held before)
  pub pending : (after.kept).pending ≡ (before.kept).pending

pub none-added : (face : Face) (k l : PeerKeeping) → NoneAdded k l → to_add_at face l ≡ to_add_at face k
none-added face k l none =
    ap (λ ps. filter (to_add face l) ps) none.pending
    ∙ same-each (to_add face l) (to_add face k) (k.kept).pending (λ q. ap (λ n. same_face q.face face && (n == 0)) (none.held_is q.id))

-- ---- some are, one after the other

pub record AddsFrom (face : Face) (before after : PeerKeeping) (first : List Pending) : Type 0 where
  pub front : to_add_at face before ≡ first ++ to_add_at face after
  pub once : AllByRecursion (λ (p : Pending). times p.id (held after) ≡ 1) first
  pub other : (at : Face) → at ≢ face → to_add_at at after ≡ to_add_at at before
  pub pending : (after.kept).pending ≡ (before.kept).pending
  pub held_is : (i : ℕ) → times i (held after) ≡ times i (held before) + times i (ids_pending first)

pub adds-none : (face : Face) (k : PeerKeeping) → AddsFrom face k k []
unfolding times
adds-none face k = record {
  front = refl;
  once = tt;
  other = λ at other. refl;
  pending = refl;
  held_is = λ i. omega arith;
}

pub adds-refused : (face : Face) (k l : PeerKeeping) → NoneAdded k l → AddsFrom face k l []
unfolding times
adds-refused face k l none = record {
  front = sym (none-added face k l none);
  once = tt;
  other = λ at other. none-added at k l none;
  pending = none.pending;
  held_is = λ i. let same = none.held_is i in omega (arith, same);
}

-- those that are to be added aren't held
all-free : (face : Face) (k : PeerKeeping) (ps : List Pending) → AllByRecursion (λ (q : Pending). times q.id (held k) ≡ 0) (filter (to_add face k) ps)
all-free face k [] = tt
all-free face k (q ∷ ps) = by (same_face q.face face) (times q.id (held k) == 0) refl (all-free face k ps)
  where
    free : List Pending → Type 0
    free l = AllByRecursion (λ (q : Pending). times q.id (held k) ≡ 0) l

    by : (a b : Bool) → (times q.id (held k) == 0) ≡ b → free (filter (to_add face k) ps) → free (if a && b then q ∷ filter (to_add face k) ps else filter (to_add face k) ps)
    by true true is rest = (eqb-true (times q.id (held k)) 0 is, rest)
    by true false is rest = rest
    by false b is rest = rest

front-all : (P : Pending → Type 0) (xs ys : List Pending) → AllByRecursion P (xs ++ ys) → AllByRecursion P xs
front-all P [] ys all = tt
front-all P (x ∷ xs) ys all = (all.0, front-all P xs ys all.1)

-- one that is held isn't among them
not-among : (k : PeerKeeping) (id : ℕ) (ps : List Pending) → AllByRecursion (λ (q : Pending). times q.id (held k) ≡ 0) ps → times id (held k) ≡ 1
    → times id (ids_pending ps) ≡ 0
unfolding times
not-among k id [] all once = refl
not-among k id (q ∷ ps) all once =
    let apart : (q.id == id) ≡ false = ne_eqb q.id id (λ e. held-twice e) in
    let rest = not-among k id ps all.1 once in
    rw apart (omega (arith, rest))
  where
    held-twice : q.id ≡ id → ⊥
    held-twice e = let none : times id (held k) ≡ 0 = subst (λ (i : ℕ). times i (held k) ≡ 0) e all.0 in absurd (omega (arith, none, once))

pub adds-cons : (face : Face) (k l m : PeerKeeping) (p : Pending) (more first : List Pending) → AreBegun 0 (k.kept).pending → to_add_at face k ≡ p ∷ more
    → OneAdded p.id k l → AddsFrom face l m first → AddsFrom face k m (p ∷ first)
unfolding times
adds-cons face k l m p more first are is one rest =
    let free = (to-add-is-free face k p more is).0.free in
    let self : one_if (p.id == p.id) ≡ 1 = ap (λ t. one_if t) (eq-eqb p.id p.id refl) in
    let held_one = one.held_is p.id in
    let once : times p.id (held l) ≡ 1 = omega (arith, free, self, held_one) in
    let among = not-among l p.id first (front-all (λ (q : Pending). times q.id (held l) ≡ 0) first (to_add_at face m)
    (subst (λ ps. AllByRecursion (λ (q : Pending). times q.id (held l) ≡ 0) ps) rest.front (all-free face l (l.kept).pending))) once in
    let held_then = rest.held_is p.id in
    record {
      front = is ∙ ap (λ ps. p ∷ ps) (sym (front-added face k l p more are is one) ∙ rest.front);
      once = (omega (arith, held_then, once, among), rest.once);
      other = λ at other. rest.other at other ∙ other-added face at k l p more are is one other;
      pending = rest.pending ∙ one.pending;
      held_is = λ i. let first_is = one.held_is i in let then_is = rest.held_is i in omega (arith, first_is, then_is);
    }

pub adds-front : (face : Face) (k l : PeerKeeping) (first : List Pending) → AddsFrom face k l first → AddsFront face k l first
adds-front face k l first adds = record { front = adds.front; once = adds.once; other = adds.other; pending = adds.pending }

-- ---- how many there are

filtered-few : (test : Pending → Bool) (ps : List Pending) → length (filter test ps) ≤ length ps
filtered-few test [] = omega arith
filtered-few test (q ∷ ps) = by (test q) (filtered-few test ps)
  where
    by : (t : Bool) → length (filter test ps) ≤ length ps → length (if t then q ∷ filter test ps else filter test ps) ≤ length (q ∷ ps)
    by true few = omega (arith, few)
    by false few = omega (arith, few)

pub to-add-few : (face : Face) (k : PeerKeeping) → length (to_add_at face k) ≤ length (k.kept).pending
to-add-few face k = filtered-few (to_add face k) (k.kept).pending
