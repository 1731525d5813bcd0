-- A piece of an earlier run is added once.
use Rattle.std.proofs.Common.{◌≡◌, ℕ, ◌==◌, ◌&&◌, ◌||◌, Bool, true, false, if◌then◌else◌, List, [], ◌∷◌, Some, refl, ap, ◌∙◌, arith}
use Rattle.std.proofs.lemmas.Bool.{eq-eqb, eqb-true}
use Rattle.std.specs.List.{filter, list_any}
use Rattle.gate_cases.specs.declared.face.Face.{Face}
use Rattle.journal_file.specs.declared.kept.Pending.{Pending}
use Rattle.journal_file.specs.Keeping.{has_id, same_face}
use Rattle.gate_records.specs.declared.named.Named.{Named}
use Rattle.gate_records.proofs.PendingLemmas.{pending-any}
use Rattle.peer_gateway.specs.Gate.{AddedAt}
use Rattle.peer_records.specs.Happened.{PeerHappened, notes_in}
use Rattle.peer_records.specs.Keeping.{PeerKeeping, held, one_if, times, is_to_add, to_add_at}
use Rattle.peer_records.specs.Records.{added_waiting, waits_at, named_left, piece_records, before_going, all_go, after_step}
use Rattle.peer_records.specs.Laws.{IsKeeping, IsToAdd}
use Rattle.peer_records.proofs.DoneLemmas.{ends-follow}
use Rattle.peer_records.proofs.AddedLemmas.{waits, waits-some}
use Rattle.peer_records.proofs.GoingLemmas.{all-hold}
use Rattle.peer_records.proofs.StepLemmas.{held-parts}

-- ---- the first that is to be added

record First (test : Pending → Bool) (p : Pending) (ps : List Pending) : Type 0 where
  passes : test p ≡ true
  among : list_any (has_id p.id) ps ≡ true

either-right : (a : Bool) → (a || true) ≡ true
either-right true = refl
either-right false = refl

at-front : (test : Pending → Bool) (q p : Pending) (ps : List Pending) → q ≡ p → test q ≡ true → First test p (q ∷ ps)
at-front test q p ps is passes = record {
  passes = rw is at passes;
  among = rw (is, eq-eqb p.id p.id refl) refl;
}

first-of : (test : Pending → Bool) (ps : List Pending) (p : Pending) (more : List Pending) → filter test ps ≡ p ∷ more → First test p ps
first-of test [] p more is = absurd (cc)
first-of test (q ∷ ps) p more is = by (test q) refl is (λ rest. first-of test ps p more rest)
  where
    later : First test p ps → First test p (q ∷ ps)
    later first = record { passes = first.passes; among = rw first.among (either-right (q.id == p.id)) }

    by : (t : Bool) → test q ≡ t → (if t then q ∷ filter test ps else filter test ps) ≡ p ∷ more → (filter test ps ≡ p ∷ more → First test p ps) → First test p (q ∷ ps)
    by true passes is rest = at-front test q p ps (cc) passes
    by false fails is rest = later (rest is)

both : (a b : Bool) → (a && b) ≡ true → (a ≡ true) × (b ≡ true)
both true b is = (refl, is)
both false b is = absurd (cc)

pub to-add-is-free : (face : Face) (k : PeerKeeping) (p : Pending) (more : List Pending) → to_add_at face k ≡ p ∷ more
    → IsToAdd k p.id × (same_face p.face face ≡ true)
to-add-is-free face k p more is =
    let first = first-of (λ (q : Pending). same_face q.face face && is_to_add k q) (k.kept).pending p more is in
    let passes = both (same_face p.face face) (is_to_add k p) first.passes in
    (record { pending = pending-any p.id (k.kept).pending ∙ first.among; free = eqb-true (times p.id (held k)) 0 passes.1 }, passes.0)

-- ---- it is held once then

pub added-again-once : (h : PeerHappened) (k : PeerKeeping) (id : ℕ) (a : AddedAt) (more : List AddedAt)
    → IsKeeping k → h.again ≡ Some id → h.added ≡ a ∷ more → IsToAdd k id
    → (piece_records h k ≡ []) × (times id (held (after_step h k)) ≡ 1)
unfolding after_step
added-again-once h k id a more is again added free = (
  rw again refl,
  (
      let left : List Named = named_left h.is_open (notes_in h.told) k.named in
      let gone = all_go h.begun (before_going h k) in
      let parts = held-parts id gone.named gone.waiting in
      let before = held-parts id k.named k.waiting in
      let same = all-hold id h.begun (before_going h k) in
      let ends = ends-follow k.kept h.is_open (notes_in h.told) k.named is.legal
      (λ i. let within = is.held_once i in let all = held-parts i k.named k.waiting in omega (arith, within, all)) in
      let fewer = ends.fewer id in
      let none = free.free in
      let waited : waits id (added_waiting h.again (k.kept).greatest h.added k.waiting) ≡ waits id (waits_at a.face (Some id) k.waiting) = rw (again, added) refl in
      let one = waits-some id id a.face k.waiting in
      let self = ap (λ (b : Bool). one_if b) (eq-eqb id id refl) in omega (arith, parts, before, same, fewer, none, waited, one, self)),
)
