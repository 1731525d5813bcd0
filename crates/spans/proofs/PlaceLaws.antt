-- The laws of covered places, over plain variables.

use Rattle.std.proofs.Common.{◌≡◌, ℕ, zero, suc, ◌+◌, ◌<◌, ◌≤◌, Bool, true, false, ◌||◌, List, [], ◌∷◌, length, min, max, Some, refl, sym, ap, ◌∙◌, subst, arith, inl, inr, ◌⊎◌}
use Rattle.std.proofs.lemmas.Bool.{cases_lt, cases_eq, eq-eqb, ne_eqb, or_from, or_left, or_right}
use Rattle.spans.proofs.Covering.{or_assoc}
use Rattle.std.specs.List.{slice_get}
use Rattle.spans.specs.declared.range.Run.{Run}
use Rattle.spans.specs.Laws.{NothingIsCovered, CoversTheRange, CountsTheFresh, AllIsEach, IsMaximal, RunsAreMaximal, WholeIsOneRun, CountsThoseBelow}
use Rattle.spans.specs.Places.{is_covered, is_in, grown_by, runs_from, runs_of, runs_below}
use Rattle.spans.specs.Runs.{AreApart, AreWithin, FirstReaches, has_place}
use Rattle.spans.proofs.Apart.{AreApart-lower}
use Rattle.spans.proofs.Counting.{below, below-far, below-yes}
use Rattle.spans.proofs.Covering.{is_in-from, is_in-false, is_in-join, has_place-far, HasAll-first, FirstHasAll-all}
use Rattle.spans.proofs.Places.{places_from-none, is_covered-places, runs_from-places, length-uncovered, is_covered-with_covered, length-with_covered, uncovered_in-fresh, all_covered-true, all_covered-from}

pub nothing_is_covered : NothingIsCovered
unfolding runs_of
nothing_is_covered limit = (
  λ k.
      ap (λ (places : List Bool). is_covered places k) (sym (places_from-none limit)) ∙ is_covered-places limit [] k tt,
  ap (runs_from 0) (sym (places_from-none limit)) ∙ runs_from-places 0 limit 0 [] tt (omega arith),
  length-uncovered limit,
)

pub covers_the_range : CoversTheRange
covers_the_range from to places le within =
    (λ k. is_covered-with_covered from to places k le within, length-with_covered from to places le within)

pub counts_the_fresh : CountsTheFresh
counts_the_fresh from to places le within = uncovered_in-fresh from to places le within

pub all_is_each : AllIsEach
all_is_each from to places within = (all_covered-true from to places within, all_covered-from from to places within)

-- ---- the runs of any places

grown_by-apart : (k : ℕ) (rs : List Run) → AreApart (k + 1) rs → AreApart k (grown_by k rs)
grown_by-apart k [] apart = (omega arith, omega arith, tt)
grown_by-apart k (r ∷ rs) apart =
    elim (cases_eq r.from (k + 1)) [
      | inl same ↦ rw (eq-eqb r.from (k + 1) same) (omega arith, omega (arith, apart.0, apart.1), apart.2)
      | inr other ↦
          let far : k + 1 + 1 ≤ r.from = omega (arith, apart.0, other) in
          rw (ne_eqb r.from (k + 1) other) (omega arith, omega arith, (far, apart.1, apart.2))
    ]

grown_by-has : (k : ℕ) (rs : List Run) (j : ℕ) → AreApart (k + 1) rs → has_place (grown_by k rs) j ≡ (is_in k (k + 1) j || has_place rs j)
grown_by-has k [] j apart = refl
grown_by-has k (r ∷ rs) j apart =
    elim (cases_eq r.from (k + 1)) [
      | inl same ↦
          let join = is_in-join k (k + 1) r.from r.to j (omega (arith, same)) (omega (arith, apart.0, apart.1)) (omega arith) apart.1 in
          let a : min k r.from ≡ k = omega (arith, same) in
          let b : max (k + 1) r.to ≡ r.to = omega (arith, apart.0, apart.1) in
          let merged : is_in k r.to j ≡ (is_in k (k + 1) j || is_in r.from r.to j) =
          ap (λ n. is_in n r.to j) (sym a) ∙ (ap (λ n. is_in (min k r.from) n j) (sym b) ∙ join) in
          rw (eq-eqb r.from (k + 1) same)
          (ap (λ t. t || has_place rs j) merged ∙ or_assoc (is_in k (k + 1) j) (is_in r.from r.to j) (has_place rs j))
      | inr other ↦ rw (ne_eqb r.from (k + 1) other) refl
    ]

grown_by-within : (limit k : ℕ) (rs : List Run) → k + 1 ≤ limit → AreWithin limit rs → AreWithin limit (grown_by k rs)
grown_by-within limit k [] le within = (le, tt)
grown_by-within limit k (r ∷ rs) le within =
    elim (cases_eq r.from (k + 1)) [
      | inl same ↦ rw (eq-eqb r.from (k + 1) same) (within.0, within.1)
      | inr other ↦ rw (ne_eqb r.from (k + 1) other) (le, within)
    ]

pub runs_from-apart : (k : ℕ) (places : List Bool) → AreApart k (runs_from k places)
runs_from-apart k [] = tt
runs_from-apart k (false ∷ places) = AreApart-lower (k + 1) k (runs_from (k + 1) places) (omega arith) (runs_from-apart (k + 1) places)
runs_from-apart k (true ∷ places) = grown_by-apart k (runs_from (k + 1) places) (runs_from-apart (k + 1) places)

pub runs_from-within : (k limit : ℕ) (places : List Bool) → k + length places ≤ limit → AreWithin limit (runs_from k places)
runs_from-within k limit [] le = tt
runs_from-within k limit (false ∷ places) le = runs_from-within (k + 1) limit places (omega arith)
runs_from-within k limit (true ∷ places) le =
    grown_by-within limit k (runs_from (k + 1) places) (omega arith) (runs_from-within (k + 1) limit places (omega arith))

pub runs_from-has : (k j i : ℕ) (places : List Bool) → k + i ≡ j → has_place (runs_from k places) j ≡ is_covered places i
runs_from-has k j i [] is = refl
runs_from-has k j zero (false ∷ places) is = has_place-far (k + 1) j (runs_from (k + 1) places) (runs_from-apart (k + 1) places) (omega arith)
runs_from-has k j (suc i) (false ∷ places) is = runs_from-has (k + 1) j i places (omega arith)
runs_from-has k j zero (true ∷ places) is =
    grown_by-has k (runs_from (k + 1) places) j (runs_from-apart (k + 1) places)
    ∙ or_left (is_in k (k + 1) j) (has_place (runs_from (k + 1) places) j) (is_in-from k (k + 1) j (omega arith) (omega arith))
runs_from-has k j (suc i) (true ∷ places) is =
    grown_by-has k (runs_from (k + 1) places) j (runs_from-apart (k + 1) places)
    ∙ (ap (λ t. t || has_place (runs_from (k + 1) places) j) (is_in-false k (k + 1) j (λ low high. omega arith))
    ∙ runs_from-has (k + 1) j i places (omega arith))

-- ---- one of them

le-found : (low : ℕ) (rs : List Run) (i : ℕ) (r : Run) → AreApart low rs → slice_get rs i ≡ Some r → (low ≤ r.from) × (r.from < r.to)
le-found low [] i r apart found = cc
le-found low (x ∷ xs) zero r apart found =
    let is : x ≡ r = cc in
    subst (λ (y : Run). (low ≤ y.from) × (y.from < y.to)) is (apart.0, apart.1)
le-found low (x ∷ xs) (suc i) r apart found =
    let rest = le-found (x.to + 1) xs i r apart.2 found in
    (omega (arith, rest.0, apart.0, apart.1), rest.1)

within-found : (limit : ℕ) (rs : List Run) (i : ℕ) (r : Run) → AreWithin limit rs → slice_get rs i ≡ Some r → r.to ≤ limit
within-found limit [] i r within found = cc
within-found limit (x ∷ xs) zero r within found =
    let is : x ≡ r = cc in subst (λ (y : Run). y.to ≤ limit) is within.0
within-found limit (x ∷ xs) (suc i) r within found = within-found limit xs i r within.1 found

covered-found : (rs : List Run) (i : ℕ) (r : Run) (k : ℕ) → slice_get rs i ≡ Some r → r.from ≤ k → k < r.to → has_place rs k ≡ true
covered-found [] i r k found low high = cc
covered-found (x ∷ xs) zero r k found low high =
    let is : x ≡ r = cc in
    or_left (is_in x.from x.to k) (has_place xs k) (subst (λ (y : Run). is_in y.from y.to k ≡ true) (sym is) (is_in-from r.from r.to k low high))
covered-found (x ∷ xs) (suc i) r k found low high =
    or_right (is_in x.from x.to k) (has_place xs k) (covered-found xs i r k found low high)

-- a place beside it
beside-found : (low : ℕ) (rs : List Run) (i : ℕ) (r : Run) (k : ℕ) → AreApart low rs → slice_get rs i ≡ Some r → (k + 1 ≡ r.from) ⊎ (k ≡ r.to) → has_place rs k ≡ false
beside-found low [] i r k apart found beside = cc
beside-found low (x ∷ xs) zero r k apart found beside =
    let is : x ≡ r = cc in
    let from : x.from ≡ r.from = ap (λ (y : Run). y.from) is in
    let to : x.to ≡ r.to = ap (λ (y : Run). y.to) is in
    elim beside [
      | inl before ↦
          or_from (is_in x.from x.to k) (has_place xs k) (is_in-false x.from x.to k (λ a b. omega (arith, before, from)))
          (has_place-far (x.to + 1) k xs apart.2 (omega (arith, before, from, apart.1)))
      | inr after ↦
          or_from (is_in x.from x.to k) (has_place xs k) (is_in-false x.from x.to k (λ a b. omega (arith, after, to)))
          (has_place-far (x.to + 1) k xs apart.2 (omega (arith, after, to)))
    ]
beside-found low (x ∷ xs) (suc i) r k apart found beside =
    let far = le-found (x.to + 1) xs i r apart.2 found in
    let after : x.to ≤ k = elim beside [ inl before ↦ omega (arith, before, far.0) | inr after ↦ omega (arith, after, far.0, far.1) ] in
    or_from (is_in x.from x.to k) (has_place xs k) (is_in-false x.from x.to k (λ a b. omega arith))
    (beside-found (x.to + 1) xs i r k apart.2 found beside)

pub runs_of-apart : (places : List Bool) → AreApart 0 (runs_of places)
unfolding runs_of
runs_of-apart places = runs_from-apart 0 places

pub runs_of-within : (places : List Bool) → AreWithin (length places) (runs_of places)
unfolding runs_of
runs_of-within places = runs_from-within 0 (length places) places (omega arith)

pub runs_of-has : (places : List Bool) (k : ℕ) → has_place (runs_of places) k ≡ is_covered places k
unfolding runs_of
runs_of-has places k = runs_from-has 0 k k places (omega arith)

pub IsMaximal-found : (places : List Bool) (i : ℕ) (r : Run) → slice_get (runs_of places) i ≡ Some r → IsMaximal r places
IsMaximal-found places i r found =
    let apart = runs_of-apart places in
    let there = le-found 0 (runs_of places) i r apart found in
    record {
      some = there.1;
      within = within-found (length places) (runs_of places) i r (runs_of-within places) found;
      covered = λ k low high. sym (runs_of-has places k) ∙ covered-found (runs_of places) i r k found low high;
      before = λ k is. sym (runs_of-has places k) ∙ beside-found 0 (runs_of places) i r k apart found (inl is);
      after = sym (runs_of-has places r.to) ∙ beside-found 0 (runs_of places) i r r.to apart found (inr refl);
    }

pub runs_are_maximal : RunsAreMaximal
runs_are_maximal places = (λ i r found. IsMaximal-found places i r found, runs_of-apart places, λ k. runs_of-has places k)

-- ---- whole

reaches-none : (rs : List Run) → FirstReaches 0 rs
reaches-none [] = tt
reaches-none (r ∷ rs) = omega arith

pub whole_is_one_run : WholeIsOneRun
whole_is_one_run to places some within = (
  λ h. FirstHasAll-all 0 to [] (runs_of places) some (runs_of-apart places) tt (reaches-none (runs_of places))
      (λ k low high. runs_of-has places k ∙ all_covered-true 0 to places within h k low high),
  λ h. all_covered-from 0 to places within (λ k low high. sym (runs_of-has places k) ∙ HasAll-first 0 to [] (runs_of places) h k low high),
)

-- ---- those below a place

below-found : (low to : ℕ) (rs : List Run) (i : ℕ) (r : Run) → AreApart low rs → slice_get rs i ≡ Some r → ((i < below to rs) → r.from < to) × (r.from < to → i < below to rs)
below-found low to [] i r apart found = absurd (cc)
below-found low to (x ∷ xs) zero r apart found =
    let is : x ≡ r = cc in
    let from : x.from ≡ r.from = ap (λ (y : Run). y.from) is in
    elim (cases_lt x.from to) [
      | inl under ↦ let e = below-yes to x xs under in (λ h. omega (arith, from), λ h. omega (arith, e))
      | inr past ↦
          let e = below-far to x.from (x ∷ xs) past (omega arith, apart.1, apart.2) in
          (λ h. omega (arith, e), λ h. omega (arith, from))
    ]
below-found low to (x ∷ xs) (suc i) r apart found =
    let there = le-found (x.to + 1) xs i r apart.2 found in
    elim (cases_lt x.from to) [
      | inl under ↦
          let e = below-yes to x xs under in
          let rest = below-found (x.to + 1) to xs i r apart.2 found in
          (λ h. rest.0 (omega (arith, e)), λ h. let j = rest.1 h in omega (arith, e, j))
      | inr past ↦
          let e = below-far to x.from (x ∷ xs) past (omega arith, apart.1, apart.2) in
          (λ h. omega (arith, e), λ h. omega (arith, there.0, apart.1))
    ]

pub counts_those_below : CountsThoseBelow
unfolding runs_below below
counts_those_below to places i r found = below-found 0 to (runs_of places) i r (runs_of-apart places) found
