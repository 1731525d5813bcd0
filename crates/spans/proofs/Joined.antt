-- Chunks and the list of their runs, over plain variables.

use Rattle.std.proofs.Common.{◌≡◌, ℕ, zero, suc, ◌+◌, ◌<◌, ◌≤◌, true, false, List, [], ◌∷◌, ◌++◌, length, take, drop, get_or, set, ltb, refl, sym, ap, ◌∙◌, subst, arith, append_assoc, inl, inr}
use Rattle.std.proofs.lemmas.Bool.{ltb-true, ltb-false, cases_lt}
use Rattle.std.proofs.lemmas.List.{take-append-drop, take_all}
use Rattle.std.proofs.lemmas.List.Sorted.{IsPartitionedBy-ltb}
use Rattle.std.specs.List.Sorted.{IsNonDecreasingBy, IsPartitionedBy, IsPartitionPoint}
use Rattle.spans.specs.declared.range.Run.{Run}
use Rattle.spans.specs.Chunks.{AreFilled, joined, before, from_there}
use Rattle.spans.specs.Runs.{AreApart, EndBefore, FirstReaches, end_after}
use Rattle.spans.proofs.Apart.{AreApart-left, AreApart-right, AreApart-past, le-end_after-low, EndBefore-append, EndBefore-end, end_after-EndBefore, FirstReaches-append}

pub joined-append : (xs ys : List (List Run)) → joined (xs ++ ys) ≡ joined xs ++ joined ys
joined-append [] ys = refl
joined-append (x ∷ xs) ys = ap (λ zs. x ++ zs) (joined-append xs ys) ∙ sym (append_assoc x (joined xs) (joined ys))

-- ---- filled chunks

pub AreFilled-append : (xs ys : List (List Run)) → AreFilled xs → AreFilled ys → AreFilled (xs ++ ys)
AreFilled-append [] ys hx hy = hy
AreFilled-append (x ∷ xs) ys hx hy = (hx.0, AreFilled-append xs ys hx.1 hy)

pub AreFilled-take : (n : ℕ) (xs : List (List Run)) → AreFilled xs → AreFilled (take n xs)
AreFilled-take zero xs h = tt
AreFilled-take (suc n) [] h = tt
AreFilled-take (suc n) (x ∷ xs) h = (h.0, AreFilled-take n xs h.1)

pub AreFilled-drop : (n : ℕ) (xs : List (List Run)) → AreFilled xs → AreFilled (drop n xs)
AreFilled-drop zero xs h = h
AreFilled-drop (suc n) [] h = tt
AreFilled-drop (suc n) (x ∷ xs) h = AreFilled-drop n xs h.1

pub AreFilled-set : (xs : List (List Run)) (c : ℕ) (k : List Run) → AreFilled xs → 0 < length k → AreFilled (set xs c k)
AreFilled-set [] c k h some = tt
AreFilled-set (x ∷ xs) zero k h some = (some, h.1)
AreFilled-set (x ∷ xs) (suc c) k h some = (h.0, AreFilled-set xs c k h.1 some)

pub AreFilled-at : (xs : List (List Run)) (c : ℕ) (d : List Run) → AreFilled xs → c < length xs → 0 < length (get_or xs c d)
AreFilled-at [] c d h below = absurd (omega arith)
AreFilled-at (x ∷ xs) zero d h below = h.0
AreFilled-at (x ∷ xs) (suc c) d h below = AreFilled-at xs c d h.1 (omega arith)

-- ---- a place

pub joined-place : (chunks : List (List Run)) (c i : ℕ) → joined chunks ≡ before chunks c i ++ from_there chunks c i
joined-place [] c i = refl
joined-place (k ∷ ks) zero i =
    ap (λ zs. zs ++ joined ks) (sym (take-append-drop i k)) ∙ append_assoc (take i k) (drop i k) (joined ks)
joined-place (k ∷ ks) (suc c) i =
    ap (λ zs. k ++ zs) (joined-place ks c i) ∙ sym (append_assoc k (before ks c i) (from_there ks c i))

pub before-past : (chunks : List (List Run)) (c i : ℕ) → length chunks ≤ c → before chunks c i ≡ joined chunks
before-past [] c i past = refl
before-past (k ∷ ks) zero i past = absurd (omega arith)
before-past (k ∷ ks) (suc c) i past = ap (λ zs. k ++ zs) (before-past ks c i (omega arith))

pub from_there-past : (chunks : List (List Run)) (c i : ℕ) → length chunks ≤ c → from_there chunks c i ≡ []
from_there-past [] c i past = refl
from_there-past (k ∷ ks) zero i past = absurd (omega arith)
from_there-past (k ∷ ks) (suc c) i past = from_there-past ks c i (omega arith)

pub from_there-split : (chunks : List (List Run)) (c i : ℕ) → c < length chunks → from_there chunks c i ≡ drop i (get_or chunks c []) ++ joined (drop (suc c) chunks)
from_there-split [] c i below = absurd (omega arith)
from_there-split (k ∷ ks) zero i below = refl
from_there-split (k ∷ ks) (suc c) i below = from_there-split ks c i (omega arith)

-- a chunk is replaced by one that begins as it does
pub joined-set : (chunks : List (List Run)) (c i : ℕ) (ys : List Run) → c < length chunks
    → joined (set chunks c (take i (get_or chunks c []) ++ ys)) ≡ before chunks c i ++ (ys ++ joined (drop (suc c) chunks))
joined-set [] c i ys below = absurd (omega arith)
joined-set (k ∷ ks) zero i ys below = append_assoc (take i k) ys (joined ks)
joined-set (k ∷ ks) (suc c) i ys below =
    ap (λ zs. k ++ zs) (joined-set ks c i ys (omega arith))
    ∙ sym (append_assoc k (before ks c i) (ys ++ joined (drop (suc c) ks)))

-- ---- the search

pub AreApart-at : (low : ℕ) (chunks : List (List Run)) (c : ℕ) → AreApart low (joined chunks) → c < length chunks → AreApart low (get_or chunks c [])
AreApart-at low [] c apart below = absurd (omega arith)
AreApart-at low (k ∷ ks) zero apart below = AreApart-left low k (joined ks) apart
AreApart-at low (k ∷ ks) (suc c) apart below = AreApart-at low ks c (AreApart-right low k (joined ks) apart) (omega arith)

pub le-end_at : (low : ℕ) (chunks : List (List Run)) (j : ℕ) (d : List Run) → AreApart low (joined chunks) → AreFilled chunks → j < length chunks → low ≤ end_after 0 (get_or chunks j d)
le-end_at low [] j d apart filled below = absurd (omega arith)
le-end_at low (k ∷ ks) zero d apart filled below = le-end_after-low low 0 k filled.0 (AreApart-left low k (joined ks) apart)
le-end_at low (k ∷ ks) (suc j) d apart filled below = le-end_at low ks j d (AreApart-right low k (joined ks) apart) filled.1 (omega arith)

pub IsNonDecreasingBy-ends : (low : ℕ) (chunks : List (List Run)) → AreApart low (joined chunks) → AreFilled chunks → IsNonDecreasingBy (λ k. end_after 0 k) chunks
IsNonDecreasingBy-ends low [] apart filled i j d le below = absurd (omega arith)
IsNonDecreasingBy-ends low (k ∷ ks) apart filled zero zero d le below = omega arith
IsNonDecreasingBy-ends low (k ∷ ks) apart filled zero (suc j) d le below =
    let rest = le-end_at (end_after 0 k + 1) ks j d (AreApart-past low 0 k (joined ks) filled.0 apart) filled.1 (omega arith) in
    omega (arith, rest)
IsNonDecreasingBy-ends low (k ∷ ks) apart filled (suc i) zero d le below = absurd (omega arith)
IsNonDecreasingBy-ends low (k ∷ ks) apart filled (suc i) (suc j) d le below =
    IsNonDecreasingBy-ends low ks (AreApart-right low k (joined ks) apart) filled.1 i j d (omega arith) (omega arith)

pub IsPartitionedBy-ends : (place : ℕ) (chunks : List (List Run)) → AreApart 0 (joined chunks) → AreFilled chunks → IsPartitionedBy (λ k. ltb (end_after 0 k) place) chunks
IsPartitionedBy-ends place chunks apart filled =
    IsPartitionedBy-ltb (λ k. end_after 0 k) chunks place (IsNonDecreasingBy-ends 0 chunks apart filled)

pub EndBefore-before : (low place : ℕ) (chunks : List (List Run)) (c i : ℕ) → AreApart low (joined chunks)
    → ((k : ℕ) (d : List Run) → k < c → k < length chunks → end_after 0 (get_or chunks k d) < place)
    → (c < length chunks → EndBefore place (take i (get_or chunks c []))) → EndBefore place (before chunks c i)
EndBefore-before low place [] c i apart all here = tt
EndBefore-before low place (k ∷ ks) zero i apart all here = here (omega arith)
EndBefore-before low place (k ∷ ks) (suc c) i apart all here =
    EndBefore-append place k (before ks c i)
    (EndBefore-end low 0 place k (AreApart-left low k (joined ks) apart) (all 0 [] (omega arith) (omega arith)))
    (EndBefore-before low place ks c i (AreApart-right low k (joined ks) apart)
    (λ j d h l. all (suc j) d (omega arith) (omega arith)) (λ l. here (omega arith)))

length-drop-some : (i : ℕ) (k : List Run) → i < length k → 0 < length (drop i k)
length-drop-some i [] below = absurd (omega arith)
length-drop-some zero (x ∷ xs) below = omega arith
length-drop-some (suc i) (x ∷ xs) below = length-drop-some i xs (omega arith)

pub FirstReaches-there : (place : ℕ) (chunks : List (List Run)) (c i : ℕ) → i < length (get_or chunks c [])
    → FirstReaches place (drop i (get_or chunks c [])) → FirstReaches place (from_there chunks c i)
FirstReaches-there place [] c i below h = tt
FirstReaches-there place (k ∷ ks) zero i below h =
    FirstReaches-append place (drop i k) (joined ks) (length-drop-some i k below) h
FirstReaches-there place (k ∷ ks) (suc c) i below h = FirstReaches-there place ks c i below h

-- what the two searches say together
pub record Found (place : ℕ) (chunks : List (List Run)) (c i : ℕ) : Type 0 where
  pub at : c < length chunks → i < length (get_or chunks c [])
  pub before : EndBefore place (before chunks c i)
  pub reached : FirstReaches place (from_there chunks c i)

-- a chunk that reaches a place has a run that does
inside : (place : ℕ) (k : List Run) (i : ℕ) → i ≤ length k → 0 < length k → place ≤ end_after 0 k → EndBefore place (take i k) → i < length k
inside place k i within some reaches lower =
    elim (cases_lt i (length k)) [
      | inl below ↦ below
      | inr past ↦
          let all = subst (λ (xs : List Run). EndBefore place xs) (take_all i k past) lower in
          let ends = end_after-EndBefore 0 place k some all in
          absurd (omega (arith, ends, reaches))
    ]

pub Found-in : (place : ℕ) (chunks : List (List Run)) (c i : ℕ) → AreApart 0 (joined chunks) → AreFilled chunks → c < length chunks
    → IsPartitionPoint (λ k. ltb (end_after 0 k) place ≡ true) (λ k. ltb (end_after 0 k) place ≡ false) chunks c
    → i ≤ length (get_or chunks c []) → EndBefore place (take i (get_or chunks c [])) → FirstReaches place (drop i (get_or chunks c []))
    → Found place chunks c i
Found-in place chunks c i apart filled below point within lower here =
    let k = get_or chunks c [] in
    let reaches : place ≤ end_after 0 k = ltb-false (end_after 0 k) place (point.1 c [] (omega arith) below) in
    let some : i < length k = inside place k i within (AreFilled-at chunks c [] filled below) reaches lower in
    record {
      at = λ l. some;
      before = EndBefore-before 0 place chunks c i apart (λ j d h l. ltb-true (end_after 0 (get_or chunks j d)) place (point.0 j d (omega arith) h)) (λ l. lower);
      reached = FirstReaches-there place chunks c i some here;
    }

pub Found-past : (place : ℕ) (chunks : List (List Run)) (c : ℕ) → AreApart 0 (joined chunks) → length chunks ≤ c → c ≤ length chunks
    → IsPartitionPoint (λ k. ltb (end_after 0 k) place ≡ true) (λ k. ltb (end_after 0 k) place ≡ false) chunks c
    → Found place chunks c 0
Found-past place chunks c apart past within point =
    record {
      at = λ l. absurd (omega arith);
      before = EndBefore-before 0 place chunks c 0 apart (λ j d h l. ltb-true (end_after 0 (get_or chunks j d)) place (point.0 j d (omega arith) h)) (λ l. absurd (omega arith));
      reached = subst (λ (xs : List Run). FirstReaches place xs) (sym (from_there-past chunks c 0 past)) tt;
    }
