-- The places that runs stand for, over plain variables.

use Rattle.std.proofs.Common.{◌≡◌, ℕ, zero, suc, ◌+◌, ◌-◌, ◌<◌, ◌≤◌, Bool, true, false, not, cond, ◌||◌, List, [], ◌∷◌, ◌++◌, length, take, drop, get_or, replicate, refl, sym, ap, ◌∙◌, arith, inl, inr}
use Rattle.std.proofs.lemmas.Bool.{cases_lt, or_left, or_right, or_from, ne_eqb, eq-eqb}
use Rattle.std.proofs.lemmas.List.{length-append, length-replicate, length-take, length-take-le, length-drop, get_or_default, get_or-replicate, get_or_past, get_or_append_left, get_or-append_right, get_or-take, get_or-drop, take-append-drop, drop-drop, ext_get_or}
use Rattle.std.proofs.lemmas.List.Sums.{sum_by-append, sum_by-cons, AllPass-from_list_all, list_all-from_AllPass}
use Rattle.std.specs.List.{count_by, list_all, slice_range}
use Rattle.spans.specs.declared.range.Run.{Run}
use Rattle.spans.specs.Kept.{places_from}
use Rattle.spans.specs.Places.{is_in}
use Rattle.spans.specs.Runs.{AreApart, AreWithin, FirstBeginsAfter, has_place, places_in, Covers, IsApartFrom, HasAll}
use Rattle.spans.specs.Places.{is_covered, uncovered, with_covered, uncovered_in, covered_count, all_covered, AddsRun, grown_by, runs_from, runs_of}
use Rattle.spans.proofs.Covering.{is_in-from, is_in-false, has_place-far, same_truth}

-- ---- how many places there are

pub length-places : (at limit low : ℕ) (runs : List Run) → AreApart low runs → AreWithin limit runs → at ≤ low → at ≤ limit → length (places_from at limit runs) + at ≡ limit
unfolding places_from
length-places at limit low [] apart within le inside = omega (arith, length-replicate (limit - at) false)
length-places at limit low (r ∷ rs) apart within le inside =
    let rest = length-places r.to limit (r.to + 1) rs apart.2 within.1 (omega arith) within.0 in
    let tail = places_from r.to limit rs in
    omega (
      arith,
      rest,
      apart.0,
      apart.1,
      length-append (replicate (r.from - at) false) (replicate (r.to - r.from) true ++ tail),
      length-append (replicate (r.to - r.from) true) tail,
      length-replicate (r.from - at) false,
      length-replicate (r.to - r.from) true,
    )

-- ---- each place

get_or-none : (n j : ℕ) → get_or (replicate n false) j false ≡ false
get_or-none n j =
    elim (cases_lt j n) [
      | inl below ↦ get_or-replicate n j false false below
      | inr past ↦ get_or_past (replicate n false) j false (omega (arith, length-replicate n false))
    ]

pub get_or-places : (at limit low : ℕ) (runs : List Run) (j : ℕ) → AreApart low runs → at ≤ low → get_or (places_from at limit runs) j false ≡ has_place runs (at + j)
unfolding places_from
get_or-places at limit low [] j apart le = get_or-none (limit - at) j
get_or-places at limit low (r ∷ rs) j apart le =
    let tail = places_from r.to limit rs in
    let gap = replicate (r.from - at) false in
    let run = replicate (r.to - r.from) true in
    let gaps = length-replicate (r.from - at) false in
    let runs' = length-replicate (r.to - r.from) true in
    elim (cases_lt (at + j) r.from) [
      | inl low' ↦
          get_or_append_left gap (run ++ tail) false j (omega (arith, gaps))
          ∙ (get_or-none (r.from - at) j
          ∙ sym (or_from (is_in r.from r.to (at + j)) (has_place rs (at + j)) (is_in-false r.from r.to (at + j) (λ a b. omega arith))
          (has_place-far (r.to + 1) (at + j) rs apart.2 (omega (arith, apart.1)))))
      | inr high ↦
          let first = get_or-append_right gap (run ++ tail) (r.from - at) j false gaps (omega (arith, apart.0)) in
          elim (cases_lt (at + j) r.to) [
            | inl inside ↦
                first
                ∙ (get_or_append_left run tail false (j - (r.from - at)) (omega (arith, runs', apart.0, apart.1))
                ∙ (get_or-replicate (r.to - r.from) (j - (r.from - at)) true false (omega (arith, apart.0, apart.1))
                ∙ sym (or_left (is_in r.from r.to (at + j)) (has_place rs (at + j)) (is_in-from r.from r.to (at + j) high inside))))
            | inr past ↦
                let second = get_or-append_right run tail (r.to - r.from) (j - (r.from - at)) false runs' (omega (arith, apart.0, apart.1)) in
                let there : r.to + ((j - (r.from - at)) - (r.to - r.from)) ≡ at + j = omega (arith, apart.0, apart.1) in
                let rest = get_or-places r.to limit (r.to + 1) rs ((j - (r.from - at)) - (r.to - r.from)) apart.2 (omega arith) in
                first ∙ (second ∙ (rest ∙ (ap (has_place rs) there
                ∙ ap (λ b. b || has_place rs (at + j)) (sym (is_in-false r.from r.to (at + j) (λ a b. omega arith))))))
          ]
    ]

pub is_covered-places : (limit : ℕ) (runs : List Run) (k : ℕ) → AreApart 0 runs → is_covered (places_from 0 limit runs) k ≡ has_place runs k
is_covered-places limit runs k apart = get_or-places 0 limit 0 runs k apart (omega arith) ∙ ap (has_place runs) (omega arith)

-- ---- a range covered

or_false : (b : Bool) → b ≡ (b || false)
or_false true = refl
or_false false = refl

pub length-with_covered : (from to : ℕ) (places : List Bool) → from ≤ to → to ≤ length places → length (with_covered from to places) ≡ length places
unfolding with_covered
length-with_covered from to places le within =
    omega (
      arith,
      length-append (take from places) (replicate (to - from) true ++ drop to places),
      length-append (replicate (to - from) true) (drop to places),
      length-take-le from places (omega arith),
      length-drop to places,
      length-replicate (to - from) true,
    )

pub is_covered-with_covered : (from to : ℕ) (places : List Bool) (k : ℕ) → from ≤ to → to ≤ length places
    → is_covered (with_covered from to places) k ≡ (is_covered places k || is_in from to k)
unfolding with_covered
is_covered-with_covered from to places k le within =
    let front = take from places in
    let mid = replicate (to - from) true in
    let rest = drop to places in
    let fronts = length-take-le from places (omega arith) in
    let mids = length-replicate (to - from) true in
    elim (cases_lt k from) [
      | inl low ↦
          get_or_append_left front (mid ++ rest) false k (omega (arith, fronts))
          ∙ (get_or-take from places k false low
          ∙ (or_false (get_or places k false) ∙ ap (λ b. get_or places k false || b) (sym (is_in-false from to k (λ a b. omega arith)))))
      | inr high ↦
          let first = get_or-append_right front (mid ++ rest) from k false fronts high in
          elim (cases_lt k to) [
            | inl inside ↦
                first
                ∙ (get_or_append_left mid rest false (k - from) (omega (arith, mids))
                ∙ (get_or-replicate (to - from) (k - from) true false (omega arith)
                ∙ sym (or_right (get_or places k false) (is_in from to k) (is_in-from from to k high inside))))
            | inr past ↦
                let second = get_or-append_right mid rest (to - from) (k - from) false mids (omega arith) in
                let there : to + ((k - from) - (to - from)) ≡ k = omega arith in
                first ∙ (second ∙ (get_or-drop to places ((k - from) - (to - from)) false ∙ (ap (λ n. get_or places n false) there
                ∙ (or_false (get_or places k false) ∙ ap (λ b. get_or places k false || b) (sym (is_in-false from to k (λ a b. omega arith)))))))
          ]
    ]

pub places_from-covered : (limit from to n : ℕ) (old new : List Run) → from ≤ to → to ≤ limit → AreApart 0 old → AreWithin limit old → Covers from to old new n
    → places_from 0 limit new ≡ with_covered from to (places_from 0 limit old)
places_from-covered limit from to n old new le within apart inside covers =
    let before = places_from 0 limit old in
    let after = places_from 0 limit new in
    let a = length-places 0 limit 0 old apart inside (omega arith) (omega arith) in
    let b = length-places 0 limit 0 new covers.apart (covers.within limit within inside) (omega arith) (omega arith) in
    let c = length-with_covered from to before le (omega (arith, a)) in
    ext_get_or false after (with_covered from to before) (omega (arith, a, b, c))
    (λ k h.
    is_covered-places limit new k covers.apart
    ∙ (covers.places k
    ∙ (ap (λ t. t || is_in from to k) (sym (is_covered-places limit old k apart))
    ∙ sym (is_covered-with_covered from to before k le (omega (arith, a))))))

-- ---- how many places are covered

pub covered_count-append : (xs ys : List Bool) → covered_count (xs ++ ys) ≡ covered_count xs + covered_count ys
unfolding covered_count
covered_count-append xs ys = sum_by-append (λ b. cond b 1 0) xs ys

covered_count-cons : (b : Bool) (xs : List Bool) → covered_count (b ∷ xs) ≡ cond b 1 0 + covered_count xs
unfolding covered_count
covered_count-cons b xs = sum_by-cons (λ x. cond x 1 0) b xs

covered_count-nil : covered_count [] ≡ 0
unfolding covered_count
covered_count-nil = refl

pub covered_count-true : (n : ℕ) → covered_count (replicate n true) ≡ n
covered_count-true zero = covered_count-nil
covered_count-true (suc n) = let rest = covered_count-true n in let e = covered_count-cons true (replicate n true) in omega (arith, rest, e)

pub covered_count-false : (n : ℕ) → covered_count (replicate n false) ≡ 0
covered_count-false zero = covered_count-nil
covered_count-false (suc n) = let rest = covered_count-false n in let e = covered_count-cons false (replicate n false) in omega (arith, rest, e)

pub covered_count-places : (at limit low : ℕ) (runs : List Run) → AreApart low runs → covered_count (places_from at limit runs) ≡ places_in runs
unfolding places_from
covered_count-places at limit low [] apart = covered_count-false (limit - at)
covered_count-places at limit low (r ∷ rs) apart =
    let rest = covered_count-places r.to limit (r.to + 1) rs apart.2 in
    let tail = places_from r.to limit rs in
    omega (
      arith,
      rest,
      covered_count-append (replicate (r.from - at) false) (replicate (r.to - r.from) true ++ tail),
      covered_count-append (replicate (r.to - r.from) true) tail,
      covered_count-false (r.from - at),
      covered_count-true (r.to - r.from),
    )

not_covered : List Bool → ℕ
not_covered places = count_by not places

not_covered-cons : (b : Bool) (xs : List Bool) → not_covered (b ∷ xs) ≡ cond (not b) 1 0 + not_covered xs
unfolding not_covered
not_covered-cons b xs = sum_by-cons (λ x. cond (not x) 1 0) b xs

not_covered-nil : not_covered [] ≡ 0
unfolding not_covered
not_covered-nil = refl

both_counts : (places : List Bool) → not_covered places + covered_count places ≡ length places
both_counts [] = let a = not_covered-nil in let b = covered_count-nil in omega (arith, a, b)
both_counts (true ∷ places) =
    let rest = both_counts places in let a = not_covered-cons true places in let b = covered_count-cons true places in omega (arith, rest, a, b)
both_counts (false ∷ places) =
    let rest = both_counts places in let a = not_covered-cons false places in let b = covered_count-cons false places in omega (arith, rest, a, b)

pub uncovered_in-fresh : (from to : ℕ) (places : List Bool) → from ≤ to → to ≤ length places
    → uncovered_in from to places + covered_count places ≡ covered_count (with_covered from to places)
unfolding uncovered_in with_covered not_covered
uncovered_in-fresh from to places le within =
    let mid = take (to - from) (drop from places) in
    let front = ap covered_count (take-append-drop from places) in
    let e : from + (to - from) ≡ to = omega arith in
    let split = covered_count-append (take from places) (drop from places) in
    let parts = ap covered_count (take-append-drop (to - from) (drop from places)) in
    let halves = covered_count-append mid (drop (to - from) (drop from places)) in
    let back = ap covered_count (drop-drop (to - from) from places ∙ ap (λ n. drop n places) e) in
    let both = both_counts mid in
    omega (
      arith,
      front,
      split,
      parts,
      halves,
      back,
      both,
      length-take-le (to - from) (drop from places) (omega (arith, length-drop from places)),
      covered_count-append (take from places) (replicate (to - from) true ++ drop to places),
      covered_count-append (replicate (to - from) true) (drop to places),
      covered_count-true (to - from),
    )

pub uncovered_in-covers : (limit from to n : ℕ) (old new : List Run) → from ≤ to → to ≤ limit → AreApart 0 old → AreWithin limit old → Covers from to old new n
    → n ≡ uncovered_in from to (places_from 0 limit old)
uncovered_in-covers limit from to n old new le within apart inside covers =
    let before = places_from 0 limit old in
    let a = length-places 0 limit 0 old apart inside (omega arith) (omega arith) in
    let fresh = uncovered_in-fresh from to before le (omega (arith, a)) in
    let was = covered_count-places 0 limit 0 old apart in
    let now = covered_count-places 0 limit 0 new covers.apart in
    let same = ap covered_count (places_from-covered limit from to n old new le within apart inside covers) in
    omega (arith, fresh, was, now, same, covers.count)

-- ---- none, and an empty range

pub places_from-none : (limit : ℕ) → places_from 0 limit [] ≡ uncovered limit
unfolding places_from uncovered
places_from-none limit = ap (λ n. replicate n false) (omega arith)

pub length-uncovered : (limit : ℕ) → length (uncovered limit) ≡ limit
unfolding uncovered
length-uncovered limit = length-replicate limit false

pub with_covered-empty : (from to : ℕ) (places : List Bool) → from ≡ to → with_covered from to places ≡ places
unfolding with_covered
with_covered-empty from to places same =
    let none : from - from ≡ 0 = omega arith in
    ap (λ n. take from places ++ (replicate (n - from) true ++ drop n places)) (sym same)
    ∙ (ap (λ n. take from places ++ (replicate n true ++ drop from places)) none ∙ take-append-drop from places)

pub uncovered_in-empty : (from to : ℕ) (places : List Bool) → from ≡ to → uncovered_in from to places ≡ 0
unfolding uncovered_in not_covered
uncovered_in-empty from to places same =
    let none : to - from ≡ 0 = omega (arith, same) in
    ap (λ n. not_covered (take n (drop from places))) none ∙ not_covered-nil

-- ---- whether all are covered

pub all_covered-true : (from to : ℕ) (places : List Bool) → to ≤ length places → all_covered from to places ≡ true → (k : ℕ) → from ≤ k → k < to → is_covered places k ≡ true
unfolding all_covered
all_covered-true from to places within all k low high =
    let part = slice_range places from to in
    let n : length part ≡ to - from = length-take-le (to - from) (drop from places) (omega (arith, length-drop from places)) in
    let pass = AllPass-from_list_all (λ b. b) part all (k - from) false (omega (arith, n)) in
    let there : from + (k - from) ≡ k = omega arith in
    sym (ap (λ j. get_or places j false) there)
    ∙ (sym (get_or-drop from places (k - from) false)
    ∙ (sym (get_or-take (to - from) (drop from places) (k - from) false (omega arith)) ∙ pass))

pub all_covered-from : (from to : ℕ) (places : List Bool) → to ≤ length places → ((k : ℕ) → from ≤ k → k < to → is_covered places k ≡ true) → all_covered from to places ≡ true
unfolding all_covered
all_covered-from from to places within all =
    let part = slice_range places from to in
    let n = length-take-le (to - from) (drop from places) in
    list_all-from_AllPass (λ b. b) part
    (λ j d h.
    let inside : j < to - from = omega (arith, h, length-take (to - from) (drop from places)) in
    let there : from + j < to = omega arith in
    get_or_default part j d false h
    ∙ (get_or-take (to - from) (drop from places) j false inside ∙ (get_or-drop from places j false ∙ all (from + j) (omega arith) there)))

pub all_covered-has : (limit from to : ℕ) (runs : List Run) (b : Bool) → AreApart 0 runs → AreWithin limit runs → to ≤ limit
    → (b ≡ true → HasAll from to runs) → (HasAll from to runs → b ≡ true) → b ≡ all_covered from to (places_from 0 limit runs)
all_covered-has limit from to runs b apart inside within f g =
    let places = places_from 0 limit runs in
    let a = length-places 0 limit 0 runs apart inside (omega arith) (omega arith) in
    same_truth b (all_covered from to places)
    (λ h. all_covered-from from to places (omega (arith, a)) (λ k low high. is_covered-places limit runs k apart ∙ f h k low high))
    (λ h. g (λ k low high. sym (is_covered-places limit runs k apart) ∙ all_covered-true from to places (omega (arith, a)) h k low high))

pub all_covered-empty : (from to : ℕ) (places : List Bool) → from ≡ to → all_covered from to places ≡ true
unfolding all_covered
all_covered-empty from to places same =
    let none : to - from ≡ 0 = omega (arith, same) in
    ap (λ n. list_all (λ b. b) (take n (drop from places))) none

-- ---- a run added

pub AddsRun-places : (limit from to : ℕ) (runs : List Run) → AreApart 0 runs → IsApartFrom from to runs → AddsRun from to (places_from 0 limit runs)
AddsRun-places limit from to runs apart h = record {
  some = h.some;
  apart = λ k low high. is_covered-places limit runs k apart ∙ h.none k low high;
}

-- ---- the maximal ranges

run_between : ℕ → ℕ → Run
run_between a b = record { from = a; to = b }

runs_from-gap : (k n : ℕ) (places : List Bool) → runs_from k (replicate n false ++ places) ≡ runs_from (k + n) places
runs_from-gap k zero places = ap (λ m. runs_from m places) (omega arith)
runs_from-gap k (suc n) places = runs_from-gap (k + 1) n places ∙ ap (λ m. runs_from m places) (omega arith)

runs_from-none : (k n : ℕ) → runs_from k (replicate n false) ≡ []
runs_from-none k zero = refl
runs_from-none k (suc n) = runs_from-none (k + 1) n

-- a place before runs that begin later is a run
grown_by-alone : (k m : ℕ) (rs : List Run) → k + 1 ≡ m → FirstBeginsAfter m rs → grown_by k rs ≡ run_between k m ∷ rs
unfolding run_between
grown_by-alone k m [] is begins = ap (λ n. run_between k n ∷ []) is
grown_by-alone k m (r ∷ rs) is begins =
    rw (ne_eqb r.from (k + 1) (λ e. omega (arith, e, begins))) (ap (λ n. run_between k n ∷ (r ∷ rs)) is)

-- one before a run that begins after it lengthens it
grown_by-joined : (k m : ℕ) (rs : List Run) → grown_by k (run_between (k + 1) m ∷ rs) ≡ run_between k m ∷ rs
unfolding run_between
grown_by-joined k m rs = rw (eq-eqb (k + 1) (k + 1) refl) refl

runs_from-run : (k n m : ℕ) (places : List Bool) (rs : List Run) → k + suc n ≡ m → runs_from m places ≡ rs → FirstBeginsAfter m rs
    → runs_from k (replicate (suc n) true ++ places) ≡ run_between k m ∷ rs
runs_from-run k zero m places rs is rest begins =
    let e : k + 1 ≡ m = omega arith in
    ap (λ j. grown_by k (runs_from j places)) e ∙ (ap (grown_by k) rest ∙ grown_by-alone k m rs e begins)
runs_from-run k (suc n) m places rs is rest begins =
    ap (grown_by k) (runs_from-run (k + 1) n m places rs (omega arith) rest begins) ∙ grown_by-joined k m rs

FirstBeginsAfter-apart : (place : ℕ) (rs : List Run) → AreApart (place + 1) rs → FirstBeginsAfter place rs
FirstBeginsAfter-apart place [] apart = tt
FirstBeginsAfter-apart place (r ∷ rs) apart = omega (arith, apart.0)

pub runs_from-places : (at limit low : ℕ) (runs : List Run) → AreApart low runs → at ≤ low → runs_from at (places_from at limit runs) ≡ runs
unfolding places_from run_between
runs_from-places at limit low [] apart le = runs_from-none at (limit - at)
runs_from-places at limit low (r ∷ rs) apart le =
    let tail = places_from r.to limit rs in
    let n = r.to - r.from - 1 in
    let some : r.to - r.from ≡ suc n = omega (arith, apart.1) in
    let there : at + (r.from - at) ≡ r.from = omega (arith, apart.0) in
    let rest = runs_from-places r.to limit (r.to + 1) rs apart.2 (omega arith) in
    runs_from-gap at (r.from - at) (replicate (r.to - r.from) true ++ tail)
    ∙ (ap (λ k. runs_from k (replicate (r.to - r.from) true ++ tail)) there
    ∙ (ap (λ k. runs_from r.from (replicate k true ++ tail)) some
    ∙ runs_from-run r.from n r.to tail rs (omega (arith, apart.1)) rest (FirstBeginsAfter-apart r.to rs apart.2)))

pub runs_of-places : (limit : ℕ) (runs : List Run) → AreApart 0 runs → runs_of (places_from 0 limit runs) ≡ runs
unfolding runs_of
runs_of-places limit runs apart = runs_from-places 0 limit 0 runs apart (omega arith)
