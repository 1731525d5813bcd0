-- How many runs places have, once one place more is covered.

use Rattle.std.proofs.Common.{◌≡◌, ℕ, zero, suc, ◌+◌, ◌<◌, ◌==◌, Bool, true, false, not, if◌then◌else◌, List, [], ◌∷◌, length, get_or, set, refl, ap, arith}
use Rattle.std.proofs.lemmas.Bool.{eq-eqb, ne_eqb}
use Rattle.spans.specs.declared.range.Run.{Run}
use Rattle.spans.specs.Places.{grown_by, runs_from}

-- 1 for true
abbrev pub one : Bool → ℕ
one b = if b then 1 else 0

-- whether the first place is covered
abbrev pub starts : List Bool → Bool
starts places = get_or places 0 false

-- ---- the first run

-- where it begins
data FirstAt (k : ℕ) (covered : Bool) : List Run → Type 0 where
  none : covered ≡ false → FirstAt k covered []
  here : (r : Run) (rs : List Run) → covered ≡ true → r.from ≡ k → FirstAt k covered (r ∷ rs)
  later : (r : Run) (rs : List Run) → covered ≡ false → k < r.from → FirstAt k covered (r ∷ rs)

grown-first : (k : ℕ) (rs : List Run) → FirstAt k true (grown_by k rs)
grown-first k [] = here (record { from = k; to = k + 1 }) [] refl refl
grown-first k (r ∷ rs) = by (r.from == k + 1)
  where
    by : (t : Bool) → FirstAt k true (if t then record { from = k; to = r.to } ∷ rs else record { from = k; to = k + 1 } ∷ (r ∷ rs))
    by true = here (record { from = k; to = r.to }) rs refl refl
    by false = here (record { from = k; to = k + 1 }) (r ∷ rs) refl refl

first-low : (k : ℕ) (covered : Bool) (rs : List Run) → FirstAt (k + 1) covered rs → FirstAt k false rs
first-low k covered [] (none is) = none refl
first-low k covered (r ∷ rs) (here _ _ is at) = later r rs refl (omega (arith, at))
first-low k covered (r ∷ rs) (later _ _ is at) = later r rs refl (omega (arith, at))

first-at : (k : ℕ) (places : List Bool) → FirstAt k (starts places) (runs_from k places)
first-at k [] = none refl
first-at k (true ∷ places) = grown-first k (runs_from (k + 1) places)
first-at k (false ∷ places) = first-low k (starts places) (runs_from (k + 1) places) (first-at (k + 1) places)

-- ---- one place in front

length-grown : (k : ℕ) (covered : Bool) (rs : List Run) → FirstAt (k + 1) covered rs → length (grown_by k rs) ≡ length rs + one (not covered)
length-grown k covered [] (none is) = rw is refl
length-grown k covered (r ∷ rs) (here _ _ is at) = rw (eq-eqb r.from (k + 1) at, is) (omega arith)
length-grown k covered (r ∷ rs) (later _ _ is at) = rw (ne_eqb r.from (k + 1) (λ same. absurd (omega (arith, same, at))), is) (omega arith)

pub length-runs : (k : ℕ) (places : List Bool) → length (runs_from k (true ∷ places)) ≡ length (runs_from (k + 1) places) + one (not (starts places))
length-runs k places = length-grown k (starts places) (runs_from (k + 1) places) (first-at (k + 1) places)

-- ---- one place more

-- whether the place before one is covered
abbrev pub before : List Bool → ℕ → Bool
before places zero = false
before places (suc n) = get_or places n false

one-other : (b : Bool) → one (not b) + one b ≡ 1
one-other true = refl
one-other false = refl

after-next : (x : Bool) (places : List Bool) (n : ℕ) → get_or (x ∷ places) (suc n + 1) false ≡ get_or places (n + 1) false
after-next x places n =
    let next : suc n + 1 ≡ suc (n + 1) = omega arith in
    ap (λ (i : ℕ). get_or (x ∷ places) i false) next

starts-set : (places : List Bool) (n : ℕ) → starts (set places (suc n) true) ≡ starts places
starts-set [] n = refl
starts-set (x ∷ places) n = refl

starts-first : (places : List Bool) → 0 < length places → starts (set places 0 true) ≡ true
starts-first [] some = absurd (omega arith)
starts-first (x ∷ places) some = refl

before-next : (places : List Bool) (n : ℕ) → before (false ∷ places) (suc n) ≡ before places n
before-next places zero = refl
before-next places (suc n) = refl

-- A place that wasn't covered begins a run unless the place before it is, and joins the run after it, where
-- there is one.
pub runs-more : (k : ℕ) (places : List Bool) (n : ℕ) → n < length places → get_or places n false ≡ false
    → length (runs_from k (set places n true)) + one (get_or places (n + 1) false)
    ≡ length (runs_from k places) + one (not (before places n))
runs-more k [] n within free = absurd (omega arith)
runs-more k (true ∷ places) zero within free = absurd (cc)
runs-more k (false ∷ places) zero within free =
    omega (arith, length-runs k places, one-other (starts places))
runs-more k (false ∷ places) (suc n) within free =
    let rest = runs-more (k + 1) places n (omega arith) free in
    rw (after-next false places n, before-next places n) rest
runs-more k (true ∷ places) (suc zero) within free =
    let rest = runs-more (k + 1) places zero (omega arith) free in
    let more = length-runs k (set places zero true) in
    let less = length-runs k places in
    let first : one (not (starts (set places zero true))) ≡ 0 = rw (starts-first places (omega arith)) refl in
    let second : one (not (starts places)) ≡ 1 = rw free refl in
    rw (after-next true places zero) (omega (arith, rest, more, less, first, second))
runs-more k (true ∷ places) (suc (suc n)) within free =
    let rest = runs-more (k + 1) places (suc n) (omega arith) free in
    let more = length-runs k (set places (suc n) true) in
    let less = length-runs k places in
    let first : one (not (starts (set places (suc n) true))) ≡ one (not (starts places)) = rw (starts-set places n) refl in
    rw (after-next true places (suc n)) (omega (arith, rest, more, less, first))
