-- Runs in order that do not touch, over plain variables.

use Rattle.std.proofs.Common.{◌≡◌, ℕ, zero, suc, ◌+◌, ◌-◌, ◌<◌, ◌≤◌, true, false, List, [], ◌∷◌, ◌++◌, length, take, drop, get_or, ltb, Some, sym, ap, ◌∙◌, arith}
use Rattle.std.proofs.lemmas.Bool.{ltb-true, ltb-false}
use Rattle.std.proofs.lemmas.List.Sorted.{IsPartitionedBy-ltb}
use Rattle.std.specs.List.{slice_get}
use Rattle.std.specs.List.Sorted.{IsNonDecreasingBy, IsPartitionedBy, IsPartitionPoint}
use Rattle.spans.specs.declared.range.Run.{Run}
use Rattle.spans.specs.Runs.{AreApart, EndBefore, FirstReaches, end_after, last_begin}

-- ---- the last end

pub end_after-last : (place : ℕ) (runs : List Run) (i : ℕ) (r : Run) → i + 1 ≡ length runs → slice_get runs i ≡ Some r → end_after place runs ≡ r.to
end_after-last place [] i r last found = cc
end_after-last place (s ∷ []) zero r last found = cc
end_after-last place (s ∷ (t ∷ rs)) zero r last found = absurd (omega arith)
end_after-last place (s ∷ rs) (suc i) r last found = end_after-last s.to rs i r (omega arith) found

pub le-end_after : (place : ℕ) (runs : List Run) → AreApart (place + 1) runs → place ≤ end_after place runs
le-end_after place [] apart = omega arith
le-end_after place (r ∷ rs) apart = let rest = le-end_after r.to rs apart.2 in omega (arith, apart.0, apart.1, rest)

-- ---- weaker bounds, and parts

pub AreApart-lower : (low lower : ℕ) (runs : List Run) → lower ≤ low → AreApart low runs → AreApart lower runs
AreApart-lower low lower [] le apart = tt
AreApart-lower low lower (r ∷ rs) le apart = (omega (arith, apart.0), apart.1, apart.2)

pub AreApart-left : (low : ℕ) (xs ys : List Run) → AreApart low (xs ++ ys) → AreApart low xs
AreApart-left low [] ys apart = tt
AreApart-left low (x ∷ xs) ys apart = (apart.0, apart.1, AreApart-left (x.to + 1) xs ys apart.2)

pub AreApart-right : (low : ℕ) (xs ys : List Run) → AreApart low (xs ++ ys) → AreApart low ys
AreApart-right low [] ys apart = apart
AreApart-right low (x ∷ xs) ys apart =
    AreApart-lower (x.to + 1) low ys (omega (arith, apart.0, apart.1)) (AreApart-right (x.to + 1) xs ys apart.2)

-- ---- a search for the first run that ends at or after a place

pub le-to : (low : ℕ) (runs : List Run) (j : ℕ) (d : Run) → AreApart low runs → j < length runs → low ≤ (get_or runs j d).to
le-to low [] j d apart below = absurd (omega arith)
le-to low (r ∷ rs) zero d apart below = omega (arith, apart.0, apart.1)
le-to low (r ∷ rs) (suc j) d apart below =
    let rest = le-to (r.to + 1) rs j d apart.2 (omega arith) in
    omega (arith, apart.0, apart.1, rest)

pub IsNonDecreasingBy-apart : (low : ℕ) (runs : List Run) → AreApart low runs → IsNonDecreasingBy (λ r. r.to) runs
IsNonDecreasingBy-apart low [] apart i j d le below = absurd (omega arith)
IsNonDecreasingBy-apart low (r ∷ rs) apart zero zero d le below = omega arith
IsNonDecreasingBy-apart low (r ∷ rs) apart zero (suc j) d le below =
    let rest = le-to (r.to + 1) rs j d apart.2 (omega arith) in
    omega (arith, rest)
IsNonDecreasingBy-apart low (r ∷ rs) apart (suc i) zero d le below = absurd (omega arith)
IsNonDecreasingBy-apart low (r ∷ rs) apart (suc i) (suc j) d le below =
    IsNonDecreasingBy-apart (r.to + 1) rs apart.2 i j d (omega arith) (omega arith)

pub IsPartitionedBy-apart : (place : ℕ) (runs : List Run) → AreApart 0 runs → IsPartitionedBy (λ r. ltb r.to place) runs
IsPartitionedBy-apart place runs apart = IsPartitionedBy-ltb (λ r. r.to) runs place (IsNonDecreasingBy-apart 0 runs apart)

pub EndBefore-take : (place : ℕ) (runs : List Run) (i : ℕ) → i ≤ length runs → ((k : ℕ) (d : Run) → k < i → (get_or runs k d).to < place) → EndBefore place (take i runs)
EndBefore-take place runs zero within all = tt
EndBefore-take place [] (suc i) within all = tt
EndBefore-take place (r ∷ rs) (suc i) within all =
    (all 0 r (omega arith), EndBefore-take place rs i (omega arith) (λ k d h. all (suc k) d (omega arith)))

pub FirstReaches-drop : (place : ℕ) (runs : List Run) (i : ℕ) → ((d : Run) → i < length runs → place ≤ (get_or runs i d).to) → FirstReaches place (drop i runs)
FirstReaches-drop place [] zero at = tt
FirstReaches-drop place (r ∷ rs) zero at = at r (omega arith)
FirstReaches-drop place [] (suc i) at = tt
FirstReaches-drop place (r ∷ rs) (suc i) at = FirstReaches-drop place rs i (λ d h. at d (omega arith))

pub EndBefore-partition : (place : ℕ) (runs : List Run) (i : ℕ) → i ≤ length runs
    → IsPartitionPoint (λ r. ltb r.to place ≡ true) (λ r. ltb r.to place ≡ false) runs i → EndBefore place (take i runs)
EndBefore-partition place runs i within point =
    EndBefore-take place runs i within (λ k d h. ltb-true (get_or runs k d).to place (point.0 k d (omega arith) h))

pub FirstReaches-partition : (place : ℕ) (runs : List Run) (i : ℕ)
    → IsPartitionPoint (λ r. ltb r.to place ≡ true) (λ r. ltb r.to place ≡ false) runs i → FirstReaches place (drop i runs)
FirstReaches-partition place runs i point =
    FirstReaches-drop place runs i (λ d h. ltb-false (get_or runs i d).to place (point.1 i d (omega arith) h))

pub end_after-read : (runs : List Run) (r : Run) → Some r ≡ slice_get runs (length runs - 1) → r.to ≡ end_after 0 runs
end_after-read [] r read = cc
end_after-read (s ∷ rs) r read =
    let e : length (s ∷ rs) - 1 ≡ length rs = omega arith in
    sym (end_after-last 0 (s ∷ rs) (length rs) r (omega arith) (ap (slice_get (s ∷ rs)) (sym e) ∙ sym read))

-- ---- all runs end before a place

pub EndBefore-append : (place : ℕ) (xs ys : List Run) → EndBefore place xs → EndBefore place ys → EndBefore place (xs ++ ys)
EndBefore-append place [] ys hx hy = hy
EndBefore-append place (x ∷ xs) ys hx hy = (hx.0, EndBefore-append place xs ys hx.1 hy)

pub EndBefore-end : (low e place : ℕ) (runs : List Run) → AreApart low runs → end_after e runs < place → EndBefore place runs
EndBefore-end low e place [] apart h = tt
EndBefore-end low e place (r ∷ rs) apart h =
    let le = le-end_after r.to rs apart.2 in
    (omega (arith, le, h), EndBefore-end (r.to + 1) r.to place rs apart.2 h)

pub end_after-EndBefore : (e place : ℕ) (runs : List Run) → 0 < length runs → EndBefore place runs → end_after e runs < place
end_after-EndBefore e place [] some h = absurd (omega arith)
end_after-EndBefore e place (r ∷ []) some h = h.0
end_after-EndBefore e place (r ∷ (s ∷ rs)) some h = end_after-EndBefore r.to place (s ∷ rs) (omega arith) h.1

pub FirstReaches-append : (place : ℕ) (xs ys : List Run) → 0 < length xs → FirstReaches place xs → FirstReaches place (xs ++ ys)
FirstReaches-append place [] ys some h = absurd (omega arith)
FirstReaches-append place (x ∷ xs) ys some h = h

-- ---- ends along chunks

pub AreApart-after : (e : ℕ) (xs ys : List Run) → AreApart (e + 1) (xs ++ ys) → AreApart (end_after e xs + 1) ys
AreApart-after e [] ys apart = apart
AreApart-after e (x ∷ xs) ys apart = AreApart-after x.to xs ys apart.2

pub AreApart-past : (low e : ℕ) (xs ys : List Run) → 0 < length xs → AreApart low (xs ++ ys) → AreApart (end_after e xs + 1) ys
AreApart-past low e [] ys some apart = absurd (omega arith)
AreApart-past low e (x ∷ xs) ys some apart = AreApart-after x.to xs ys apart.2

-- the end of a chunk at or after a place
pub le-end_after-low : (low e : ℕ) (runs : List Run) → 0 < length runs → AreApart low runs → low ≤ end_after e runs
le-end_after-low low e [] some apart = absurd (omega arith)
le-end_after-low low e (r ∷ rs) some apart =
    let le = le-end_after r.to rs apart.2 in omega (arith, apart.0, apart.1, le)

-- ---- the last beginning

pub last_begin-last : (place : ℕ) (runs : List Run) (i : ℕ) (r : Run) → i + 1 ≡ length runs → slice_get runs i ≡ Some r → last_begin place runs ≡ r.from
last_begin-last place [] i r last found = cc
last_begin-last place (s ∷ []) zero r last found = cc
last_begin-last place (s ∷ (t ∷ rs)) zero r last found = absurd (omega arith)
last_begin-last place (s ∷ rs) (suc i) r last found = last_begin-last s.from rs i r (omega arith) found

pub last_begin-read : (runs : List Run) (r : Run) → Some r ≡ slice_get runs (length runs - 1) → r.from ≡ last_begin 0 runs
last_begin-read [] r read = cc
last_begin-read (s ∷ rs) r read =
    let e : length (s ∷ rs) - 1 ≡ length rs = omega arith in
    sym (last_begin-last 0 (s ∷ rs) (length rs) r (omega arith) (ap (slice_get (s ∷ rs)) (sym e) ∙ sym read))

pub le-last_begin : (place : ℕ) (runs : List Run) → AreApart place runs → place ≤ last_begin place runs
le-last_begin place [] apart = omega arith
le-last_begin place (r ∷ rs) apart =
    let rest = le-last_begin r.from rs (AreApart-lower (r.to + 1) r.from rs (omega (arith, apart.1)) apart.2) in
    omega (arith, apart.0, rest)
