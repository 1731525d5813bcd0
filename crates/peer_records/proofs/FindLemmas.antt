-- What a search by an id finds among ids that rise.
use Rattle.std.proofs.Common.{◌≡◌, ℕ, zero, suc, ◌<◌, ◌≤◌, ◌==◌, ◌||◌, inl, inr, Bool, true, false, not, if◌then◌else◌, List, [], ◌∷◌, length, get_or, Result, Ok, Err, refl, sym, ap, ◌∙◌, arith}
use Rattle.std.proofs.lemmas.Bool.{cases_lt, eq-eqb, ne_eqb}
use Rattle.std.proofs.lemmas.Bool.Decides.{nat_tests}
use Rattle.std.proofs.lemmas.Cmp.{ranked}
use Rattle.std.proofs.lemmas.List.{get_or_default}
use Rattle.std.proofs.lemmas.List.Sorted.{searched, sum_by-IsPermutation}
use Rattle.std.proofs.lemmas.List.Recursion.{is_sum_by}
use Rattle.std.specs.List.{Contains, filter, list_any}
use Rattle.std.specs.List.Sorted.{IsBinarySearchResult, IsNonDecreasing, IsNonDecreasingBy, IsPermutation}
use Rattle.std.specs.Ordering.{nat_cmp, ordering_index}
use Rattle.std.specs.Result.{is_ok}
use Rattle.journal_file.specs.declared.kept.Pending.{Pending}
use Rattle.journal_file.specs.Keeping.{has_id}
use Rattle.peer_records.specs.Keeping.{one_if, times}
use Rattle.peer_records.specs.Said.{is_among, AreRising}
use Rattle.peer_records.proofs.ToAddLemmas.{among-times}

-- ---- places

rising-above : (n : ℕ) (ps : List Pending) (j : ℕ) (d : Pending) → AreRising n ps → j < length ps → n < (get_or ps j d).id
rising-above n [] j d are low = absurd (omega (arith, low))
rising-above n (p ∷ ps) zero d (above, are) low = above
rising-above n (p ∷ ps) (suc j) d (above, are) low = let more = rising-above p.id ps j d are (omega (arith, low)) in omega (arith, above, more)

rising-at : (n : ℕ) (ps : List Pending) (i j : ℕ) (d : Pending) → AreRising n ps → i < j → j < length ps → (get_or ps i d).id < (get_or ps j d).id
rising-at n [] i j d are less low = absurd (omega (arith, low))
rising-at n (p ∷ ps) i zero d are less low = absurd (omega (arith, less))
rising-at n (p ∷ ps) zero (suc j) d (above, are) less low = rising-above p.id ps j d are (omega (arith, low))
rising-at n (p ∷ ps) (suc i) (suc j) d (above, are) less low = rising-at p.id ps i j d are (omega (arith, less)) (omega (arith, low))

-- no two have an id
pub same-piece : (n : ℕ) (ps : List Pending) (p q : Pending) → AreRising n ps → Contains ps p → Contains ps q → p.id ≡ q.id → p ≡ q
same-piece n ps p q are (i, low, at) (j, under, there) same = elim (cases_lt i j) [
  | inl less ↦ absurd (omega (arith, rising-at n ps i j q are less under, first, second, same))
  | inr more ↦ elim (cases_lt j i) [
    | inl less ↦ absurd (omega (arith, rising-at n ps j i q are less low, first, second, same))
    | inr equal ↦ sym at ∙ get_or_default ps i p q low ∙ ap (λ (k : ℕ). get_or ps k q) (omega (arith, more, equal)) ∙ there
  ]
]
  where
    first : (get_or ps i q).id ≡ p.id
    first = ap (λ (r : Pending). r.id) (get_or_default ps i q p low ∙ at)

    second : (get_or ps j q).id ≡ q.id
    second = ap (λ (r : Pending). r.id) there

-- ---- the one of an id

cmp-rises : (a b k : ℕ) → a ≤ b → ordering_index (nat_cmp a k) ≤ ordering_index (nat_cmp b k)
cmp-rises a b k le = grind (arith, nat_tests)

comparisons-rise : (n : ℕ) (ps : List Pending) (k : ℕ) → AreRising n ps → IsNonDecreasingBy (λ (p : Pending). ordering_index (nat_cmp p.id k)) ps
comparisons-rise n ps k are i j d le low = elim (cases_lt i j) [
  | inl less ↦ cmp-rises (get_or ps i d).id (get_or ps j d).id k (omega (arith, rising-at n ps i j d are less low))
  | inr more ↦ cmp-rises (get_or ps i d).id (get_or ps j d).id k (omega (arith, ap (λ (m : ℕ). (get_or ps m d).id) (same le more)))
]
  where
    same : i ≤ j → j ≤ i → i ≡ j
    same le more = omega (arith, le, more)

pub found-id : (ps : List Pending) (k at : ℕ) (p : Pending) → IsBinarySearchResult (λ (q : Pending). nat_cmp q.id k) ps (Ok at) → p ≡ get_or ps at p → p.id ≡ k
found-id ps k at p found is = ap (λ (q : Pending). q.id) is ∙ ranked (get_or ps at p).id k _ (sym (found p))

none-of : (k : ℕ) (ps : List Pending) → ((i : ℕ) (d : Pending) → i < length ps → (get_or ps i d).id ≡ k → ⊥) → list_any (has_id k) ps ≡ false
none-of k [] none = refl
none-of k (p ∷ ps) none =
    let other : (p.id == k) ≡ false = ne_eqb p.id k (λ e. none 0 p (omega arith) e) in
    rw (other, none-of k ps (λ i d low e. none (suc i) d (omega (arith, low)) e)) refl

pub missed-id : (n : ℕ) (ps : List Pending) (k at : ℕ) → IsBinarySearchResult (λ (q : Pending). nat_cmp q.id k) ps (Err at) → AreRising n ps → list_any (has_id k) ps ≡ false
missed-id n ps k at missed are = none-of k ps apart
  where
    apart : (i : ℕ) (d : Pending) → i < length ps → (get_or ps i d).id ≡ k → ⊥
    apart i d low same = elim (cases_lt i at) [
      | inl less ↦ omega (arith, same, ranked (get_or ps i d).id k _ (sym ((missed (comparisons-rise n ps k are)).0 i d (omega arith) less)))
      | inr more ↦ omega (arith, same, ranked (get_or ps i d).id k _ (sym ((missed (comparisons-rise n ps k are)).1 i d more low)))
    ]

either-right : (a : Bool) → (a || true) ≡ true
either-right true = refl
either-right false = refl

any-at : (k : ℕ) (ps : List Pending) (i : ℕ) (d : Pending) → i < length ps → (get_or ps i d).id ≡ k → list_any (has_id k) ps ≡ true
any-at k [] i d low is = absurd (omega (arith, low))
any-at k (p ∷ ps) zero d low is = rw (eq-eqb p.id k is) refl
any-at k (p ∷ ps) (suc i) d low is = rw (any-at k ps i d (omega (arith, low)) is) (either-right (p.id == k))

pub any-contained : (k : ℕ) (ps : List Pending) (p : Pending) → Contains ps p → p.id ≡ k → list_any (has_id k) ps ≡ true
any-contained k ps p (i, low, at) is = any-at k ps i p low (ap (λ (q : Pending). q.id) at ∙ is)

-- the first that passes a test is among them
pub first-contained : (t : Pending → Bool) (ps : List Pending) (p : Pending) (more : List Pending) → filter t ps ≡ p ∷ more → Contains ps p
first-contained t [] p more is = absurd (cc)
first-contained t (q ∷ ps) p more is = by (t q) is (λ rest. first-contained t ps p more rest)
  where
    head : q ≡ p → Contains (q ∷ ps) p
    head same = (0, omega arith, same)

    tail : Contains ps p → Contains (q ∷ ps) p
    tail (k, low, at) = (suc k, omega (arith, low), at)

    by : (a : Bool) → (if a then q ∷ filter t ps else filter t ps) ≡ p ∷ more → (filter t ps ≡ p ∷ more → Contains ps p) → Contains (q ∷ ps) p
    by true is rest = head (cc)
    by false is rest = tail (rest is)

-- ---- an id among ids that don't fall

among-at : (x : ℕ) (xs : List ℕ) (i : ℕ) → i < length xs → get_or xs i 0 ≡ x → is_among xs x ≡ true
among-at x [] i low at = absurd (omega (arith, low))
among-at x (y ∷ xs) zero low at = rw (eq-eqb x y (sym at)) refl
among-at x (y ∷ xs) (suc i) low at = rw (among-at x xs i (omega (arith, low)) at) (either-right (x == y))

among-none : (x : ℕ) (xs : List ℕ) → ((i : ℕ) → i < length xs → x ≡ get_or xs i 0 → ⊥) → is_among xs x ≡ false
among-none x [] none = refl
among-none x (y ∷ xs) none =
    let other : (x == y) ≡ false = ne_eqb x y (λ e. none 0 (omega arith) e) in
    rw (other, among-none x xs (λ i low e. none (suc i) (omega (arith, low)) e)) refl

pub among-searched : (xs : List ℕ) (x : ℕ) (r : Result ℕ ℕ) → IsNonDecreasing xs → IsBinarySearchResult (λ y. nat_cmp y x) xs r → is_ok r ≡ is_among xs x
among-searched xs x (Ok i) rise found =
    let (low, at) = searched xs x (Ok i) found (λ a b le under. rise a b 0 le under) in sym (among-at x xs i low at)
among-searched xs x (Err i) rise found =
    let (high, before, after) = searched xs x (Err i) found (λ a b le under. rise a b 0 le under) in
    sym (among-none x xs (λ k low e. elim (cases_lt k i) [
      | inl less ↦ omega (arith, e, before k less)
      | inr more ↦ omega (arith, e, after k more low)
    ]))

times-sum : (id : ℕ) → (xs ys : List ℕ) → IsPermutation xs ys → times id ys ≡ times id xs
unfolding times
times-sum id xs ys moved =
    let f : ℕ → ℕ = λ x. one_if (x == id) in
    is_sum_by (times id) f refl (λ x more. refl) ys ∙ sum_by-IsPermutation f xs ys moved ∙ sym (is_sum_by (times id) f refl (λ x more. refl) xs)

-- in another order the same are among them
pub among-moved : (id : ℕ) (xs ys : List ℕ) → IsPermutation xs ys → is_among ys id ≡ is_among xs id
among-moved id xs ys moved = among-times id ys ∙ ap (λ (n : ℕ). not (n == 0)) (times-sum id xs ys moved) ∙ sym (among-times id xs)
