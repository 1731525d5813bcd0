-- Runs once a range is covered too, over plain variables.

use Rattle.std.proofs.Common.{◌≡◌, ℕ, ◌+◌, ◌-◌, ◌<◌, ◌≤◌, Bool, true, false, ◌||◌, List, [], ◌∷◌, ◌++◌, leb, ltb, min, max, refl, sym, ap, ◌∙◌, arith, inl, inr}
use Rattle.std.proofs.lemmas.Bool.{cases_lt, and_parts, and_from, or_cases, or_left, or_right, or_from, leb-true, ltb-true, le-leb, lt-ltb, false_from_ne_true, both_ways}
use Rattle.spans.specs.declared.range.Run.{Run}
use Rattle.spans.specs.declared.growth.Growth.{Growth}
use Rattle.spans.specs.Growing.{over, grown_over, left_after, widened, widening}
use Rattle.spans.specs.Places.{is_in}
use Rattle.spans.specs.Runs.{AreApart, AreWithin, EndBefore, FirstReaches, FirstBeginsAfter, BeginsBy, has_place, places_in, Covers, IsApartFrom, HasAll, FirstHasAll}
use Rattle.spans.proofs.Apart.{AreApart-right}
use Rattle.spans.proofs.Growing.{grown_over-yes, grown_over-no, left_after-yes, left_after-no}

-- ---- truth values

pub same_truth : (a b : Bool) → (a ≡ true → b ≡ true) → (b ≡ true → a ≡ true) → a ≡ b
same_truth true true f g = refl
same_truth false false f g = refl
same_truth true false f g = absurd (let h = f refl in cc)
same_truth false true f g = absurd (let h = g refl in cc)

pub is_in-true : (from to k : ℕ) → is_in from to k ≡ true → (from ≤ k) × (k < to)
is_in-true from to k h =
    let p = and_parts (leb from k) (ltb k to) h in
    (leb-true from k p.0, ltb-true k to p.1)

pub is_in-from : (from to k : ℕ) → from ≤ k → k < to → is_in from to k ≡ true
is_in-from from to k low high = and_from (leb from k) (ltb k to) (le-leb from k low) (lt-ltb k to high)

pub is_in-false : (from to k : ℕ) → (from ≤ k → k < to → ⊥) → is_in from to k ≡ false
is_in-false from to k none =
    false_from_ne_true (is_in from to k) (λ h. let p = is_in-true from to k h in none p.0 p.1)

-- two ranges that overlap or touch
pub is_in-join : (a b c d k : ℕ) → c ≤ b → a ≤ d → a < b → c < d → is_in (min a c) (max b d) k ≡ (is_in a b k || is_in c d k)
is_in-join a b c d k cb ad ab cd =
    same_truth (is_in (min a c) (max b d) k) (is_in a b k || is_in c d k)
    (λ h.
    let p = is_in-true (min a c) (max b d) k h in
    elim (cases_lt k a) [
      | inl low ↦ or_right (is_in a b k) (is_in c d k) (is_in-from c d k (omega (arith, p.0)) (omega arith))
      | inr high ↦ elim (cases_lt k b) [
        | inl inside ↦ or_left (is_in a b k) (is_in c d k) (is_in-from a b k high inside)
        | inr past ↦ or_right (is_in a b k) (is_in c d k) (is_in-from c d k (omega arith) (omega (arith, p.1)))
      ]
    ])
    (λ h. elim (or_cases (is_in a b k) (is_in c d k) h) [
      | inl left ↦ let p = is_in-true a b k left in is_in-from (min a c) (max b d) k (omega (arith, p.0)) (omega (arith, p.1))
      | inr right ↦ let p = is_in-true c d k right in is_in-from (min a c) (max b d) k (omega (arith, p.0)) (omega (arith, p.1))
    ])

pub or_assoc : (a b c : Bool) → ((a || b) || c) ≡ (a || (b || c))
or_assoc true b c = refl
or_assoc false b c = refl

or_swap : (a b c : Bool) → ((a || b) || c) ≡ ((a || c) || b)
or_swap true b c = refl
or_swap false true true = refl
or_swap false true false = refl
or_swap false false true = refl
or_swap false false false = refl

-- ---- two parts

pub has_place-append : (xs ys : List Run) (k : ℕ) → has_place (xs ++ ys) k ≡ (has_place xs k || has_place ys k)
has_place-append [] ys k = refl
has_place-append (x ∷ xs) ys k =
    ap (λ b. is_in x.from x.to k || b) (has_place-append xs ys k) ∙ sym (or_assoc (is_in x.from x.to k) (has_place xs k) (has_place ys k))

pub places_in-append : (xs ys : List Run) → places_in (xs ++ ys) ≡ places_in xs + places_in ys
places_in-append [] ys = omega arith
places_in-append (x ∷ xs) ys = let rest = places_in-append xs ys in omega (arith, rest)

pub AreApart-joined : (low from : ℕ) (xs ys zs : List Run) → low ≤ from → AreApart low (xs ++ ys) → EndBefore from xs
    → ((l : ℕ) → l ≤ from → AreApart l ys → AreApart l zs) → AreApart low (xs ++ zs)
AreApart-joined low from [] ys zs le apart ends f = f low le apart
AreApart-joined low from (x ∷ xs) ys zs le apart ends f =
    (apart.0, apart.1, AreApart-joined (x.to + 1) from xs ys zs (omega (arith, ends.0)) apart.2 ends.1 f)

pub AreWithin-joined : (limit : ℕ) (xs ys zs : List Run) → AreWithin limit (xs ++ ys) → (AreWithin limit ys → AreWithin limit zs) → AreWithin limit (xs ++ zs)
AreWithin-joined limit [] ys zs within f = f within
AreWithin-joined limit (x ∷ xs) ys zs within f = (within.0, AreWithin-joined limit xs ys zs within.1 f)

-- what is covered after a front is covered
pub Covers-past : (from to : ℕ) (xs ys zs : List Run) (n : ℕ) → AreApart 0 (xs ++ ys) → EndBefore from xs
    → ((l : ℕ) → l ≤ from → AreApart l ys → AreApart l zs)
    → ((limit : ℕ) → to ≤ limit → AreWithin limit ys → AreWithin limit zs)
    → ((k : ℕ) → has_place zs k ≡ (has_place ys k || is_in from to k))
    → n + places_in ys ≡ places_in zs
    → Covers from to (xs ++ ys) (xs ++ zs) n
Covers-past from to xs ys zs n apart ends above within places count = record {
  apart = AreApart-joined 0 from xs ys zs (omega arith) apart ends above;
  within = λ limit le old. AreWithin-joined limit xs ys zs old (within limit le);
  places = λ k.
      has_place-append xs zs k
      ∙ (ap (λ b. has_place xs k || b) (places k)
      ∙ (sym (or_assoc (has_place xs k) (has_place ys k) (is_in from to k)) ∙ ap (λ b. b || is_in from to k) (sym (has_place-append xs ys k))));
  count = let a = places_in-append xs ys in let b = places_in-append xs zs in omega (arith, a, b, count);
}

-- ---- a run added

or_comm : (a b : Bool) → (a || b) ≡ (b || a)
or_comm true true = refl
or_comm true false = refl
or_comm false true = refl
or_comm false false = refl

pub AreApart-front : (to low : ℕ) (ys : List Run) → AreApart low ys → FirstBeginsAfter to ys → AreApart (to + 1) ys
AreApart-front to low [] apart begins = tt
AreApart-front to low (y ∷ ys) apart begins = (omega (arith, begins), apart.1, apart.2)

pub Covers-added : (from to : ℕ) (xs ys : List Run) → from < to → AreApart 0 (xs ++ ys) → EndBefore from xs → FirstBeginsAfter to ys
    → Covers from to (xs ++ ys) (xs ++ (record { from = from; to = to } ∷ ys)) (to - from)
Covers-added from to xs ys some apart ends begins =
    Covers-past from to xs ys (record { from = from; to = to } ∷ ys) (to - from) apart ends
    (λ l le rest. (le, some, AreApart-front to l ys rest begins))
    (λ limit le within. (le, within))
    (λ k. or_comm (is_in from to k) (has_place ys k))
    refl

-- ---- a run widened

pub left_after-apart : (to : ℕ) (g : Growth) (runs : List Run) → AreApart (g.end + 1) runs → AreApart (max to (grown_over to g runs).end + 1) (left_after to runs)
left_after-apart to g [] apart = tt
left_after-apart to g (r ∷ rs) apart =
    elim (cases_lt to r.from) [
      | inl far ↦
          rw (grown_over-no to g r rs far, left_after-no to r rs far) (omega (arith, far, apart.0), apart.1, apart.2)
      | inr near ↦
          rw (grown_over-yes to g r rs near, left_after-yes to r rs near) (left_after-apart to (over g r) rs apart.2)
    ]

pub left_after-within : (limit to : ℕ) (g : Growth) (runs : List Run) → g.end ≤ limit → AreWithin limit runs
    → ((grown_over to g runs).end ≤ limit) × AreWithin limit (left_after to runs)
left_after-within limit to g [] le within = (le, tt)
left_after-within limit to g (r ∷ rs) le within =
    elim (cases_lt to r.from) [
      | inl far ↦ rw (grown_over-no to g r rs far, left_after-no to r rs far) (le, within)
      | inr near ↦ rw (grown_over-yes to g r rs near, left_after-yes to r rs near) (left_after-within limit to (over g r) rs within.0 within.1)
    ]

pub left_after-places : (lo to : ℕ) (g : Growth) (runs : List Run) (k : ℕ) → lo < g.end → lo < to → AreApart (g.end + 1) runs
    → (is_in lo (max to (grown_over to g runs).end) k || has_place (left_after to runs) k) ≡ (is_in lo (max to g.end) k || has_place runs k)
left_after-places lo to g [] k low some apart = refl
left_after-places lo to g (r ∷ rs) k low some apart =
    elim (cases_lt to r.from) [
      | inl far ↦ rw (grown_over-no to g r rs far, left_after-no to r rs far) refl
      | inr near ↦
          let rest = left_after-places lo to (over g r) rs k (omega (arith, low, apart.0, apart.1)) some apart.2 in
          let a : min lo r.from ≡ lo = omega (arith, low, apart.0) in
          let b : max (max to g.end) r.to ≡ max to r.to = omega (arith, apart.0, apart.1) in
          let join = is_in-join lo (max to g.end) r.from r.to k (omega (arith, near)) (omega (arith, low, apart.0, apart.1)) (omega (arith, low)) apart.1 in
          let same : is_in lo (max to r.to) k ≡ (is_in lo (max to g.end) k || is_in r.from r.to k) = ap (λ n. is_in n (max to r.to) k) (sym a) ∙ (ap (λ n. is_in (min lo r.from) n k) (sym b) ∙ join) in
          rw (grown_over-yes to g r rs near, left_after-yes to r rs near)
          (rest ∙ (ap (λ t. t || has_place rs k) same ∙ or_assoc (is_in lo (max to g.end) k) (is_in r.from r.to k) (has_place rs k)))
    ]

pub left_after-count : (to : ℕ) (g : Growth) (runs : List Run) → AreApart (g.end + 1) runs
    → (grown_over to g runs).fresh + (places_in runs + g.end) ≡ g.fresh + ((grown_over to g runs).end + places_in (left_after to runs))
left_after-count to g [] apart = omega arith
left_after-count to g (r ∷ rs) apart =
    elim (cases_lt to r.from) [
      | inl far ↦ rw (grown_over-no to g r rs far, left_after-no to r rs far) (omega arith)
      | inr near ↦
          let rest = left_after-count to (over g r) rs apart.2 in
          rw (grown_over-yes to g r rs near, left_after-yes to r rs near) (omega (arith, rest, apart.0, apart.1))
    ]

pub Covers-widened : (from to : ℕ) (xs ys : List Run) → from < to → AreApart 0 (xs ++ ys) → EndBefore from xs → FirstReaches from ys → BeginsBy to ys
    → Covers from to (xs ++ ys) (xs ++ widened from to ys) (widening from to ys)
Covers-widened from to xs [] some apart ends reaches begins = absurd begins
Covers-widened from to xs (r ∷ rs) some apart ends reaches begins =
    let there = AreApart-right 0 xs (r ∷ rs) apart in
    let g : Growth = record { end = r.to; fresh = r.from - from } in
    let count = left_after-count to g rs there.2 in
    Covers-past from to xs (r ∷ rs) (widened from to (r ∷ rs)) (widening from to (r ∷ rs)) apart ends
    (λ l le rest. (omega (arith, rest.0), omega arith, left_after-apart to g rs there.2))
    (λ limit le within. let w = left_after-within limit to g rs within.0 within.1 in (omega (arith, w.0), w.1))
    (λ k.
    left_after-places (min from r.from) to g rs k (omega (arith, there.1)) (omega arith) there.2
    ∙ (ap (λ b. b || has_place rs k) (is_in-join from to r.from r.to k begins reaches some there.1)
    ∙ (ap (λ b. b || has_place rs k) (or_comm (is_in from to k) (is_in r.from r.to k)) ∙ or_swap (is_in r.from r.to k) (is_in from to k) (has_place rs k))))
    (omega (arith, count, there.1))

-- ---- a range that no run has, overlaps or touches

pub has_place-ends : (place k : ℕ) (xs : List Run) → EndBefore place xs → place ≤ k + 1 → has_place xs k ≡ false
has_place-ends place k [] ends le = refl
has_place-ends place k (x ∷ xs) ends le =
    or_from (is_in x.from x.to k) (has_place xs k) (is_in-false x.from x.to k (λ low high. omega (arith, ends.0))) (has_place-ends place k xs ends.1 le)

pub has_place-far : (low k : ℕ) (ys : List Run) → AreApart low ys → k < low → has_place ys k ≡ false
has_place-far low k [] apart far = refl
has_place-far low k (y ∷ ys) apart far =
    or_from (is_in y.from y.to k) (has_place ys k) (is_in-false y.from y.to k (λ low' high. omega (arith, apart.0)))
    (has_place-far (y.to + 1) k ys apart.2 (omega (arith, apart.0, apart.1)))

pub IsApartFrom-here : (from to : ℕ) (xs ys : List Run) → from < to → AreApart 0 (xs ++ ys) → EndBefore from xs → FirstBeginsAfter to ys → IsApartFrom from to (xs ++ ys)
IsApartFrom-here from to xs ys some apart ends begins = record {
  some = some;
  none = λ k low high.
      has_place-append xs ys k
      ∙ or_from (has_place xs k) (has_place ys k) (has_place-ends from k xs ends low)
      (has_place-far (to + 1) k ys (AreApart-front to 0 ys (AreApart-right 0 xs ys apart) begins) (omega arith));
}

pub FirstBeginsAfter-not : (to : ℕ) (ys : List Run) → (BeginsBy to ys → ⊥) → FirstBeginsAfter to ys
FirstBeginsAfter-not to [] none = tt
FirstBeginsAfter-not to (y ∷ ys) none =
    elim (cases_lt to y.from) [ inl far ↦ far | inr near ↦ absurd (none near) ]

-- ---- a range that the runs have

pub HasAll-first : (from to : ℕ) (xs ys : List Run) → FirstHasAll from to ys → HasAll from to (xs ++ ys)
HasAll-first from to xs [] first = absurd first
HasAll-first from to xs (r ∷ rs) first = λ k low high.
    has_place-append xs (r ∷ rs) k
    ∙ or_right (has_place xs k) (has_place (r ∷ rs) k)
    (or_left (is_in r.from r.to k) (has_place rs k) (is_in-from r.from r.to k (omega (arith, first.0)) (omega (arith, first.1))))

none-at : (from k : ℕ) (xs ys : List Run) → EndBefore from xs → from ≤ k → has_place ys k ≡ false → has_place (xs ++ ys) k ≡ false
none-at from k xs ys ends le none =
    has_place-append xs ys k ∙ or_from (has_place xs k) (has_place ys k) (has_place-ends from k xs ends (omega arith)) none

pub FirstHasAll-all : (from to : ℕ) (xs ys : List Run) → from < to → AreApart 0 (xs ++ ys) → EndBefore from xs → FirstReaches from ys → HasAll from to (xs ++ ys) → FirstHasAll from to ys
FirstHasAll-all from to xs [] some apart ends reaches all =
    both_ways (has_place (xs ++ []) from) (none-at from from xs [] ends (omega arith) refl) (all from (omega arith) some)
FirstHasAll-all from to xs (r ∷ rs) some apart ends reaches all =
    let there = AreApart-right 0 xs (r ∷ rs) apart in
    let begins : r.from ≤ from =
    elim (cases_lt from r.from) [
      | inl before ↦
          absurd (both_ways (has_place (xs ++ (r ∷ rs)) from)
          (none-at from from xs (r ∷ rs) ends (omega arith)
          (or_from (is_in r.from r.to from) (has_place rs from) (is_in-false r.from r.to from (λ a b. omega arith)) (has_place-far (r.to + 1) from rs there.2 (omega (arith, there.1)))))
          (all from (omega arith) some))
      | inr le ↦ le
    ] in
    let reached : to ≤ r.to =
    elim (cases_lt r.to to) [
      | inl short ↦
          absurd (both_ways (has_place (xs ++ (r ∷ rs)) r.to)
          (none-at from r.to xs (r ∷ rs) ends reaches
          (or_from (is_in r.from r.to r.to) (has_place rs r.to) (is_in-false r.from r.to r.to (λ a b. omega arith)) (has_place-far (r.to + 1) r.to rs there.2 (omega arith))))
          (all r.to reaches short))
      | inr le ↦ le
    ] in
    (begins, reached)
