-- How many runs begin below a place, over plain variables.

use Rattle.std.proofs.Common.{◌≡◌, ℕ, zero, suc, ◌+◌, ◌<◌, ◌≤◌, true, false, cond, List, [], ◌∷◌, ◌++◌, length, take, get_or, ltb, refl, sym, ap, ◌∙◌, arith}
use Rattle.std.proofs.lemmas.Bool.{ltb-true, ltb-false, lt-ltb, le-ltb}
use Rattle.std.proofs.lemmas.List.{length-append}
use Rattle.std.proofs.lemmas.List.Sorted.{IsPartitionedBy-ltb}
use Rattle.std.proofs.lemmas.List.Sums.{sum_by-append, sum_by-cons}
use Rattle.std.specs.List.{count_by}
use Rattle.std.specs.List.Sorted.{IsNonDecreasingBy, IsPartitionedBy, IsPartitionPoint}
use Rattle.spans.specs.declared.range.Run.{Run}
use Rattle.spans.specs.Chunks.{AreFilled, joined}
use Rattle.spans.specs.Runs.{AreApart, AreWithin, end_after, last_begin}
use Rattle.spans.proofs.Apart.{AreApart-lower, AreApart-left, AreApart-right, AreApart-past, le-last_begin}

unfoldable pub below : ℕ → List Run → ℕ
below to runs = count_by (λ r. ltb r.from to) runs

below-nil : (to : ℕ) → below to [] ≡ 0
unfolding below
below-nil to = refl

below-cons : (to : ℕ) (r : Run) (rs : List Run) → below to (r ∷ rs) ≡ cond (ltb r.from to) 1 0 + below to rs
unfolding below
below-cons to r rs = sum_by-cons (λ x. cond (ltb x.from to) 1 0) r rs

pub below-append : (to : ℕ) (xs ys : List Run) → below to (xs ++ ys) ≡ below to xs + below to ys
unfolding below
below-append to xs ys = sum_by-append (λ x. cond (ltb x.from to) 1 0) xs ys

pub below-yes : (to : ℕ) (r : Run) (rs : List Run) → r.from < to → below to (r ∷ rs) ≡ suc (below to rs)
below-yes to r rs h = below-cons to r rs ∙ (ap (λ b. cond b 1 0 + below to rs) (lt-ltb r.from to h) ∙ omega arith)

pub below-no : (to : ℕ) (r : Run) (rs : List Run) → to ≤ r.from → below to (r ∷ rs) ≡ below to rs
below-no to r rs h = below-cons to r rs ∙ (ap (λ b. cond b 1 0 + below to rs) (le-ltb r.from to h) ∙ omega arith)

pub below-far : (to low : ℕ) (runs : List Run) → to ≤ low → AreApart low runs → below to runs ≡ 0
below-far to low [] far apart = below-nil to
below-far to low (r ∷ rs) far apart =
    below-no to r rs (omega (arith, apart.0)) ∙ below-far to (r.to + 1) rs (omega (arith, apart.0, apart.1)) apart.2

pub below-near : (to place low : ℕ) (runs : List Run) → AreApart low runs → last_begin place runs < to → below to runs ≡ length runs
below-near to place low [] apart near = below-nil to
below-near to place low (r ∷ rs) apart near =
    let le = le-last_begin r.from rs (AreApart-lower (r.to + 1) r.from rs (omega (arith, apart.1)) apart.2) in
    below-yes to r rs (omega (arith, le, near)) ∙ ap suc (below-near to r.from (r.to + 1) rs apart.2 near)

-- ---- one chunk

le-from : (low : ℕ) (runs : List Run) (j : ℕ) (d : Run) → AreApart low runs → j < length runs → low ≤ (get_or runs j d).from
le-from low [] j d apart inside = absurd (omega arith)
le-from low (r ∷ rs) zero d apart inside = apart.0
le-from low (r ∷ rs) (suc j) d apart inside =
    let rest = le-from (r.to + 1) rs j d apart.2 (omega arith) in
    omega (arith, apart.0, apart.1, rest)

IsNonDecreasingBy-begins : (low : ℕ) (runs : List Run) → AreApart low runs → IsNonDecreasingBy (λ r. r.from) runs
IsNonDecreasingBy-begins low [] apart i j d le inside = absurd (omega arith)
IsNonDecreasingBy-begins low (r ∷ rs) apart zero zero d le inside = omega arith
IsNonDecreasingBy-begins low (r ∷ rs) apart zero (suc j) d le inside =
    let rest = le-from (r.to + 1) rs j d apart.2 (omega arith) in
    omega (arith, rest, apart.1)
IsNonDecreasingBy-begins low (r ∷ rs) apart (suc i) zero d le inside = absurd (omega arith)
IsNonDecreasingBy-begins low (r ∷ rs) apart (suc i) (suc j) d le inside =
    IsNonDecreasingBy-begins (r.to + 1) rs apart.2 i j d (omega arith) (omega arith)

pub IsPartitionedBy-begins : (to : ℕ) (runs : List Run) → AreApart 0 runs → IsPartitionedBy (λ r. ltb r.from to) runs
IsPartitionedBy-begins to runs apart = IsPartitionedBy-ltb (λ r. r.from) runs to (IsNonDecreasingBy-begins 0 runs apart)

below-none : (to : ℕ) (runs : List Run) → ((k : ℕ) (d : Run) → k < length runs → to ≤ (get_or runs k d).from) → below to runs ≡ 0
below-none to [] none = below-nil to
below-none to (r ∷ rs) none = below-no to r rs (none 0 r (omega arith)) ∙ below-none to rs (λ k d h. none (suc k) d (omega arith))

below-point : (to : ℕ) (runs : List Run) (i : ℕ) → i ≤ length runs → ((k : ℕ) (d : Run) → k < i → (get_or runs k d).from < to)
    → ((k : ℕ) (d : Run) → i ≤ k → k < length runs → to ≤ (get_or runs k d).from) → below to runs ≡ i
below-point to runs zero within under past = below-none to runs (λ k d h. past k d (omega arith) h)
below-point to [] (suc i) within under past = absurd (omega arith)
below-point to (r ∷ rs) (suc i) within under past =
    below-yes to r rs (under 0 r (omega arith))
    ∙ ap suc (below-point to rs i (omega arith) (λ k d h. under (suc k) d (omega arith)) (λ k d h l. past (suc k) d (omega arith) (omega arith)))

pub below-partition : (to : ℕ) (runs : List Run) (i : ℕ) → i ≤ length runs
    → IsPartitionPoint (λ r. ltb r.from to ≡ true) (λ r. ltb r.from to ≡ false) runs i → i ≡ count_by (λ r. ltb r.from to) runs
unfolding below
below-partition to runs i within point =
    sym (below-point to runs i within (λ k d h. ltb-true (get_or runs k d).from to (point.0 k d (omega arith) h))
    (λ k d l h. ltb-false (get_or runs k d).from to (point.1 k d l h)))

-- ---- all chunks

last_begin-le : (place : ℕ) (e : ℕ) (runs : List Run) (low : ℕ) → 0 < length runs → AreApart low runs → last_begin place runs ≤ end_after e runs
last_begin-le place e [] low some apart = absurd (omega arith)
last_begin-le place e (r ∷ []) low some apart = omega (arith, apart.1)
last_begin-le place e (r ∷ (s ∷ rs)) low some apart = last_begin-le r.from r.to (s ∷ rs) (r.to + 1) (omega arith) apart.2

le-last_begin-low : (low place : ℕ) (runs : List Run) → 0 < length runs → AreApart low runs → low ≤ last_begin place runs
le-last_begin-low low place [] some apart = absurd (omega arith)
le-last_begin-low low place (r ∷ rs) some apart =
    let le = le-last_begin r.from rs (AreApart-lower (r.to + 1) r.from rs (omega (arith, apart.1)) apart.2) in
    omega (arith, apart.0, le)

le-last_begin-at : (low : ℕ) (chunks : List (List Run)) (j : ℕ) (d : List Run) → AreApart low (joined chunks) → AreFilled chunks → j < length chunks → low ≤ last_begin 0 (get_or chunks j d)
le-last_begin-at low [] j d apart filled inside = absurd (omega arith)
le-last_begin-at low (k ∷ ks) zero d apart filled inside = le-last_begin-low low 0 k filled.0 (AreApart-left low k (joined ks) apart)
le-last_begin-at low (k ∷ ks) (suc j) d apart filled inside = le-last_begin-at low ks j d (AreApart-right low k (joined ks) apart) filled.1 (omega arith)

IsNonDecreasingBy-last_begins : (low : ℕ) (chunks : List (List Run)) → AreApart low (joined chunks) → AreFilled chunks → IsNonDecreasingBy (λ k. last_begin 0 k) chunks
IsNonDecreasingBy-last_begins low [] apart filled i j d le inside = absurd (omega arith)
IsNonDecreasingBy-last_begins low (k ∷ ks) apart filled zero zero d le inside = omega arith
IsNonDecreasingBy-last_begins low (k ∷ ks) apart filled zero (suc j) d le inside =
    let ends = last_begin-le 0 0 k low filled.0 (AreApart-left low k (joined ks) apart) in
    let rest = le-last_begin-at (end_after 0 k + 1) ks j d (AreApart-past low 0 k (joined ks) filled.0 apart) filled.1 (omega arith) in
    omega (arith, ends, rest)
IsNonDecreasingBy-last_begins low (k ∷ ks) apart filled (suc i) zero d le inside = absurd (omega arith)
IsNonDecreasingBy-last_begins low (k ∷ ks) apart filled (suc i) (suc j) d le inside =
    IsNonDecreasingBy-last_begins low ks (AreApart-right low k (joined ks) apart) filled.1 i j d (omega arith) (omega arith)

pub IsPartitionedBy-last_begins : (to : ℕ) (chunks : List (List Run)) → AreApart 0 (joined chunks) → AreFilled chunks → IsPartitionedBy (λ k. ltb (last_begin 0 k) to) chunks
IsPartitionedBy-last_begins to chunks apart filled =
    IsPartitionedBy-ltb (λ k. last_begin 0 k) chunks to (IsNonDecreasingBy-last_begins 0 chunks apart filled)

below-chunks : (low to : ℕ) (chunks : List (List Run)) (c : ℕ) → AreApart low (joined chunks) → AreFilled chunks
    → ((k : ℕ) (d : List Run) → k < c → k < length chunks → last_begin 0 (get_or chunks k d) < to)
    → (c < length chunks → to ≤ last_begin 0 (get_or chunks c []))
    → below to (joined chunks) ≡ length (joined (take c chunks)) + below to (get_or chunks c [])
below-chunks low to [] zero apart filled under past = omega (arith, below-nil to)
below-chunks low to [] (suc c) apart filled under past = omega (arith, below-nil to)
below-chunks low to (k ∷ ks) zero apart filled under past =
    let ends = last_begin-le 0 0 k low filled.0 (AreApart-left low k (joined ks) apart) in
    let far = below-far to (end_after 0 k + 1) (joined ks) (omega (arith, ends, past (omega arith))) (AreApart-past low 0 k (joined ks) filled.0 apart) in
    omega (arith, below-append to k (joined ks), far)
below-chunks low to (k ∷ ks) (suc c) apart filled under past =
    let near = below-near to 0 low k (AreApart-left low k (joined ks) apart) (under 0 [] (omega arith) (omega arith)) in
    let rest = below-chunks low to ks c (AreApart-right low k (joined ks) apart) filled.1 (λ j d h l. under (suc j) d (omega arith) (omega arith)) (λ l. past (omega arith)) in
    omega (arith, below-append to k (joined ks), near, rest, length-append k (joined (take c ks)))

pub count-chunks : (to : ℕ) (chunks : List (List Run)) (c : ℕ) → AreApart 0 (joined chunks) → AreFilled chunks
    → IsPartitionPoint (λ k. ltb (last_begin 0 k) to ≡ true) (λ k. ltb (last_begin 0 k) to ≡ false) chunks c
    → length (joined (take c chunks)) + count_by (λ r. ltb r.from to) (get_or chunks c []) ≡ count_by (λ r. ltb r.from to) (joined chunks)
unfolding below
count-chunks to chunks c apart filled point =
    sym (below-chunks 0 to chunks c apart filled
    (λ k d h l. ltb-true (last_begin 0 (get_or chunks k d)) to (point.0 k d (omega arith) h))
    (λ l. ltb-false (last_begin 0 (get_or chunks c [])) to (point.1 c [] (omega arith) l)))

pub length-joined-take : (chunks : List (List Run)) (c : ℕ) → length (joined (take c chunks)) ≤ length (joined chunks)
length-joined-take chunks zero = omega arith
length-joined-take [] (suc c) = omega arith
length-joined-take (k ∷ ks) (suc c) =
    let rest = length-joined-take ks c in
    omega (arith, rest, length-append k (joined ks), length-append k (joined (take c ks)))

-- ---- no more runs than places

length-apart : (low limit : ℕ) (runs : List Run) → AreApart low runs → AreWithin limit runs → low ≤ limit + 1 → length runs + low ≤ limit + 1
length-apart low limit [] apart within le = omega arith
length-apart low limit (r ∷ rs) apart within le =
    let rest = length-apart (r.to + 1) limit rs apart.2 within.1 (omega (arith, within.0)) in
    omega (arith, rest, apart.0, apart.1)

pub length-kept : (limit : ℕ) (runs : List Run) → AreApart 0 runs → AreWithin limit runs → length runs ≤ limit
length-kept limit [] apart within = omega arith
length-kept limit (r ∷ rs) apart within =
    let rest = length-apart (r.to + 1) limit rs apart.2 within.1 (omega (arith, within.0)) in
    omega (arith, rest, apart.0, apart.1)
