-- Numbers that are among others, and how many runs they are.

use Rattle.std.proofs.Common.{◌≡◌, ℕ, zero, suc, ◌+◌, ◌-◌, ◌<◌, ◌≤◌, ◌==◌, Bool, true, false, not, ◌&&◌, ◌||◌, if◌then◌else◌, List, [], ◌∷◌, ◌++◌, length, take, drop, get_or, set, replicate, refl, sym, ap, ◌∙◌, subst, arith, inl, inr, take-append-drop, drop-cons}
use Rattle.std.proofs.lemmas.Bool.{cases_eq, cases_lt, eq-eqb, ne_eqb}
use Rattle.std.proofs.lemmas.List.{get_or_past, get_or_append_left, take_all, nil_from_length, get_or-set_same, get_or-set_other, length-set, length-take-le, set_at, set-get_or}
use Rattle.spans.specs.Places.{is_covered, with_covered, all_covered, runs_of}
use Rattle.spans.proofs.Places.{all_covered-true, all_covered-from}
use Rattle.spans.specs.declared.range.Run.{Run}
use Rattle.spans.specs.Runs.{has_place}
use Rattle.spans.proofs.PlaceLaws.{nothing_is_covered, runs_are_maximal}
use Rattle.session_memory.specs.declared.numbers.TheConstants.{LAST}
use Rattle.session_memory.specs.Numbers.{NumberSet, has, no_numbers, places_with, with_number, runs_in}
use Rattle.session_memory.specs.Counting.{begins_run, runs_with, runs_after}
use Rattle.session_memory.specs.Laws.{IsSet64, HaveNumbers, AddsRun}
use Rattle.session_memory.proofs.RunLemmas.{one, before, runs-more}

-- ---- one place

-- a range of one place is covered exactly where the place is
all_covered-one : (n : ℕ) (places : List Bool) → n + 1 ≤ length places → all_covered n (n + 1) places ≡ is_covered places n
all_covered-one n places within = by (all_covered n (n + 1) places) (is_covered places n) refl refl
  where
    by : (a b : Bool) → all_covered n (n + 1) places ≡ a → is_covered places n ≡ b → a ≡ b
    by true true all there = refl
    by false false all there = refl
    by true false all there = sym (all_covered-true n (n + 1) places within all n (omega arith) (omega arith)) ∙ there
    by false true all there =
        sym all ∙ all_covered-from n (n + 1) places within (λ k from to. subst (λ (m : ℕ). is_covered places m ≡ true) (omega (arith, from, to)) there)

-- covering it sets it
covered-set : (n : ℕ) (places : List Bool) → n < length places → with_covered n (n + 1) places ≡ set places n true
unfolding with_covered
covered-set n places within =
    let size : (n + 1) - n ≡ 1 = omega arith in
    let next : n + 1 ≡ suc n = omega arith in
    let split : places ≡ take n places ++ (get_or places n false ∷ drop (suc n) places) =
    sym (take-append-drop n places) ∙ ap (λ (rest : List Bool). take n places ++ rest) (drop-cons places n false within) in
    let made : set places n true ≡ take n places ++ (true ∷ drop (suc n) places) =
    ap (λ (all : List Bool). set all n true) split
    ∙ set_at (take n places) (get_or places n false) (drop (suc n) places) true n (length-take-le n places (omega arith)) in
    ap (λ (k : ℕ). take n places ++ (replicate k true ++ drop (n + 1) places)) size
    ∙ (ap (λ (k : ℕ). take n places ++ (true ∷ drop k places)) next ∙ sym made)

covered-again : (n : ℕ) (places : List Bool) → n < length places → get_or places n false ≡ true → with_covered n (n + 1) places ≡ places
covered-again n places within there =
    covered-set n places within ∙ (ap (set places n) (sym there) ∙ set-get_or places n false)

pub length-with : (n : ℕ) (places : List Bool) → length places ≡ LAST → n ≤ LAST → length (places_with n places) ≡ LAST
length-with n places limit most =
    elim (cases_eq n LAST) [
      | inl is ↦ rw (eq-eqb n LAST is) limit
      | inr differs ↦ rw (ne_eqb n LAST differs, covered-set n places (omega (arith, limit, differs))) (length-set places n true ∙ limit)
    ]

-- ---- numbers

or-none : (a b : Bool) → (a || (b && false)) ≡ a
or-none true b = refl
or-none false true = refl
or-none false false = refl

-- below the last
pub has-below : (numbers : NumberSet) (n : ℕ) → n < LAST → has numbers n ≡ is_covered numbers.places n
has-below numbers n below = rw (ne_eqb n LAST (λ is. absurd (omega (arith, is, below)))) (or-none (is_covered numbers.places n) numbers.last)

-- what code answers
pub has-code : (numbers : NumberSet) (n : ℕ) (b : Bool) → (n ≡ LAST → ⊥) → n ≤ LAST → IsSet64 numbers
    → b ≡ all_covered n (n + 1) numbers.places → b ≡ has numbers n
has-code numbers n b differs most limit is =
    let below : n < LAST = omega (arith, differs) in
    is ∙ (all_covered-one n numbers.places (omega (arith, limit, below)) ∙ sym (has-below numbers n below))

past : (numbers : NumberSet) (n : ℕ) → IsSet64 numbers → LAST ≤ n → is_covered numbers.places n ≡ false
past numbers n limit after = get_or_past numbers.places n false (omega (arith, limit, after))

-- the last
pub has-last : (numbers : NumberSet) (n : ℕ) → IsSet64 numbers → n ≡ LAST → has numbers n ≡ numbers.last
has-last numbers n limit is = rw (past numbers n limit (omega (arith, is)), eq-eqb n LAST is) (by numbers.last)
  where
    by : (b : Bool) → (false || (b && true)) ≡ b
    by true = refl
    by false = refl

-- none after it
pub has-past : (numbers : NumberSet) (n : ℕ) → IsSet64 numbers → n ≡ LAST → has numbers (n + 1) ≡ false
has-past numbers n limit is =
    rw (past numbers (n + 1) limit (omega (arith, is)), ne_eqb (n + 1) LAST (λ same. absurd (omega (arith, is, same)))) (or-none false numbers.last)

-- ---- no numbers

pub no-runs : runs_in no_numbers ≡ 0
unfolding runs_in
no-runs = rw (nothing_is_covered LAST).1 refl

pub none-among : (k : ℕ) → has no_numbers k ≡ false
none-among k = rw ((nothing_is_covered LAST).0 k) refl

-- ---- a number more

-- begun by the place before it
begun : (numbers : NumberSet) (n : ℕ) → n ≤ LAST → begins_run numbers n ≡ not (before numbers.places n)
begun numbers zero most = refl
begun numbers (suc n) most =
    let differs : (suc n == 0) ≡ false = ne_eqb (suc n) 0 (λ is. absurd (omega (arith, is))) in
    rw (differs, has-below numbers n (omega arith)) refl

abbrev set_of : List Bool → Bool → NumberSet
set_of places last = record { places = places; last = last }

two : (p q : List Bool) (a b : Bool) → p ≡ q → a ≡ b → set_of p a ≡ set_of q b
two p q a b places last = ap (λ (x : List Bool). set_of x a) places ∙ ap (set_of q) last

or-true : (b : Bool) → (b || true) ≡ true
or-true true = refl
or-true false = refl

or-false : (b : Bool) → (b || false) ≡ b
or-false true = refl
or-false false = refl

-- the two parts of a set with one number more
with-parts : (numbers : NumberSet) (n : ℕ) (places : List Bool) (last : Bool) → places_with n numbers.places ≡ places
    → (numbers.last || (n == LAST)) ≡ last → with_number n numbers ≡ set_of places last
unfolding with_number
with-parts numbers n places last first second = two (places_with n numbers.places) places (numbers.last || (n == LAST)) last first second

code-parts : (numbers : NumberSet) (n : ℕ) (b m : Bool) → begins_run numbers n ≡ b → has numbers (n + 1) ≡ m
    → runs_with numbers n ≡ (runs_in numbers + one b) - one m
code-parts numbers n b m begins meets =
    ap (λ (x : Bool). (runs_in numbers + one x) - one (has numbers (n + 1))) begins
    ∙ ap (λ (y : Bool). (runs_in numbers + one b) - one y) meets

run-parts : (places : List Bool) (last c : Bool) → is_covered places (LAST - 1) ≡ c → runs_in (set_of places last) ≡ length (runs_of places) + one (last && not c)
unfolding runs_in
run-parts places last c is = ap (λ (x : Bool). length (runs_of places) + one (last && not x)) is

placed-last : (n : ℕ) (places : List Bool) → n ≡ LAST → places_with n places ≡ places
placed-last n places is = rw (eq-eqb n LAST is) refl

placed-below : (n : ℕ) (places : List Bool) → (n ≡ LAST → ⊥) → n < length places → places_with n places ≡ set places n true
placed-below n places differs within = rw (ne_eqb n LAST differs) (covered-set n places within)

last-stays : (n : ℕ) (last : Bool) → (n ≡ LAST → ⊥) → (last || (n == LAST)) ≡ last
last-stays n last differs = rw (ne_eqb n LAST differs) (or-false last)

-- the last number
new-last : (numbers : NumberSet) (n : ℕ) → IsSet64 numbers → n ≡ LAST → has numbers n ≡ false → runs_with numbers n ≡ runs_in (with_number n numbers)
new-last numbers n limit is free =
    let c = is_covered numbers.places (LAST - 1) in
    let size = length (runs_of numbers.places) in
    let last : numbers.last ≡ false = sym (has-last numbers n limit is) ∙ free in
    let here : runs_in numbers ≡ size + 0 = run-parts numbers.places numbers.last c refl ∙ ap (λ (b : Bool). size + one (b && not c)) last in
    let begins : begins_run numbers n ≡ not c = begun numbers n (omega (arith, is)) ∙ ap (λ (k : ℕ). not (before numbers.places k)) is in
    let made : with_number n numbers ≡ set_of numbers.places true =
    with-parts numbers n numbers.places true (placed-last n numbers.places is) (rw (eq-eqb n LAST is) (or-true numbers.last)) in
    let there : runs_in (with_number n numbers) ≡ size + one (not c) = ap runs_in made ∙ run-parts numbers.places true c refl in
    let code = code-parts numbers n (not c) false begins (has-past numbers n limit is) in
    omega (arith, here, there, code)

-- the one before it
new-before : (numbers : NumberSet) (n : ℕ) → IsSet64 numbers → n + 1 ≡ LAST → has numbers n ≡ false → runs_with numbers n ≡ runs_in (with_number n numbers)
unfolding runs_of
new-before numbers n limit is free =
    let below : n < LAST = omega (arith, is) in
    let within : n < length numbers.places = omega (arith, limit, below) in
    let differs : n ≡ LAST → ⊥ = λ same. absurd (omega (arith, is, same)) in
    let place : LAST - 1 ≡ n = omega (arith, is) in
    let vacant : get_or numbers.places n false ≡ false = sym (has-below numbers n below) ∙ free in
    let c : is_covered numbers.places (LAST - 1) ≡ false = ap (λ (k : ℕ). get_or numbers.places k false) place ∙ vacant in
    let d : is_covered (set numbers.places n true) (LAST - 1) ≡ true =
    ap (λ (k : ℕ). get_or (set numbers.places n true) k false) place ∙ get_or-set_same numbers.places n true false within in
    let here = run-parts numbers.places numbers.last false c in
    let made : with_number n numbers ≡ set_of (set numbers.places n true) numbers.last =
    with-parts numbers n (set numbers.places n true) numbers.last (placed-below n numbers.places differs within) (last-stays n numbers.last differs) in
    let there = ap runs_in made ∙ run-parts (set numbers.places n true) numbers.last true d in
    let code = code-parts numbers n (not (before numbers.places n)) numbers.last (begun numbers n (omega (arith, below))) (has-last numbers (n + 1) limit is) in
    let none : one (get_or numbers.places (n + 1) false) ≡ 0 = rw (past numbers (n + 1) limit (omega (arith, is))) refl in
    let more = runs-more 0 numbers.places n within vacant in
    code ∙ (by numbers.last (one (not (before numbers.places n))) (runs_in numbers) (length (runs_of numbers.places))
    (length (runs_of (set numbers.places n true))) here (omega (arith, more, none)) ∙ sym there)
  where
    by : (last : Bool) (b runs size new : ℕ) → runs ≡ size + one (last && true) → new ≡ size + b → (runs + b) - one last ≡ new + one (last && false)
    by true b runs size new here more = omega arith
    by false b runs size new here more = omega arith

-- any other
new-below : (numbers : NumberSet) (n : ℕ) → IsSet64 numbers → n + 1 < LAST → has numbers n ≡ false → runs_with numbers n ≡ runs_in (with_number n numbers)
unfolding runs_of
new-below numbers n limit low free =
    let below : n < LAST = omega (arith, low) in
    let within : n < length numbers.places = omega (arith, limit, below) in
    let differs : n ≡ LAST → ⊥ = λ same. absurd (omega (arith, low, same)) in
    let vacant : get_or numbers.places n false ≡ false = sym (has-below numbers n below) ∙ free in
    let c = is_covered numbers.places (LAST - 1) in
    let apart : LAST - 1 ≡ n → ⊥ = λ same. absurd (omega (arith, low, same)) in
    let d : is_covered (set numbers.places n true) (LAST - 1) ≡ c = get_or-set_other numbers.places n (LAST - 1) true false apart in
    let here = run-parts numbers.places numbers.last c refl in
    let made : with_number n numbers ≡ set_of (set numbers.places n true) numbers.last =
    with-parts numbers n (set numbers.places n true) numbers.last (placed-below n numbers.places differs within) (last-stays n numbers.last differs) in
    let there = ap runs_in made ∙ run-parts (set numbers.places n true) numbers.last c d in
    let code = code-parts numbers n (not (before numbers.places n)) (get_or numbers.places (n + 1) false) (begun numbers n (omega (arith, below)))
    (has-below numbers (n + 1) low) in
    let more = runs-more 0 numbers.places n within vacant in
    omega (arith, here, there, code, more)

-- one that isn't among them
runs-new : (numbers : NumberSet) (n : ℕ) → IsSet64 numbers → n ≤ LAST → has numbers n ≡ false → runs_with numbers n ≡ runs_in (with_number n numbers)
runs-new numbers n limit most free =
    elim (cases_eq n LAST) [
      | inl is ↦ new-last numbers n limit is free
      | inr differs ↦ elim (cases_eq (n + 1) LAST) [
        | inl is ↦ new-before numbers n limit is free
        | inr other ↦ new-below numbers n limit (omega (arith, most, differs, other)) free
      ]
    ]

-- one that is
runs-same : (numbers : NumberSet) (n : ℕ) → IsSet64 numbers → n ≤ LAST → has numbers n ≡ true → with_number n numbers ≡ numbers
runs-same numbers n limit most there =
    elim (cases_eq n LAST) [
      | inl is ↦
          let last : numbers.last ≡ true = sym (has-last numbers n limit is) ∙ there in
          with-parts numbers n numbers.places numbers.last (placed-last n numbers.places is) (rw (eq-eqb n LAST is) (or-true numbers.last ∙ sym last))
      | inr differs ↦
          let below : n < LAST = omega (arith, most, differs) in
          let covered : get_or numbers.places n false ≡ true = sym (has-below numbers n below) ∙ there in
          let within : n < length numbers.places = omega (arith, limit, below) in
          with-parts numbers n numbers.places numbers.last (rw (ne_eqb n LAST differs) (covered-again n numbers.places within covered)) (last-stays n numbers.last differs)
    ]

pub runs-after : (numbers : NumberSet) (n : ℕ) → IsSet64 numbers → n ≤ LAST → runs_after numbers n ≡ runs_in (with_number n numbers)
runs-after numbers n limit most = by (has numbers n) refl
  where
    by : (t : Bool) → has numbers n ≡ t → (if t then runs_in numbers else runs_with numbers n) ≡ runs_in (with_number n numbers)
    by true there = sym (ap runs_in (runs-same numbers n limit most there))
    by false free = runs-new numbers n limit most free

-- what code keeps
pub added-runs : (numbers : NumberSet) (n : ℕ) (places : List Bool) (last : Bool) (runs : ℕ) → IsSet64 numbers → n ≤ LAST
    → places ≡ places_with n numbers.places → last ≡ (numbers.last || (n == LAST)) → runs ≡ runs_after numbers n
    → runs ≡ runs_in (record { places = places; last = last })
added-runs numbers n places last runs limit most first second is =
    is ∙ (runs-after numbers n limit most ∙ ap runs_in (with-parts numbers n places last (sym first) (sym second)))

pub code-few : (numbers : NumberSet) (n : ℕ) → runs_after numbers n ≤ runs_in numbers + 1
code-few numbers n = by (has numbers n) (begins_run numbers n) (has numbers (n + 1)) (runs_in numbers)
  where
    by : (there begins meets : Bool) (runs : ℕ)
        → (if there then runs else (runs + (if begins then 1 else 0)) - (if meets then 1 else 0)) ≤ runs + 1
    by true begins meets runs = omega arith
    by false true true runs = omega arith
    by false true false runs = omega arith
    by false false true runs = omega arith
    by false false false runs = omega arith

pub runs-few : (numbers : NumberSet) (n : ℕ) → IsSet64 numbers → n ≤ LAST → runs_in (with_number n numbers) ≤ runs_in numbers + 1
runs-few numbers n limit most = subst (λ (r : ℕ). r ≤ runs_in numbers + 1) (runs-after numbers n limit most) (code-few numbers n)

runs-beside : (numbers : NumberSet) (n : ℕ) → IsSet64 numbers → n + 1 ≤ LAST → has numbers n ≡ true → runs_in (with_number (n + 1) numbers) ≤ runs_in numbers
runs-beside numbers n limit most there =
    let next : n + 1 ≡ suc n = omega arith in
    let begins : begins_run numbers (n + 1) ≡ false =
    begun numbers (n + 1) most ∙ (ap (λ (k : ℕ). not (before numbers.places k)) next ∙ ap not (sym (has-below numbers n (omega arith)) ∙ there)) in
    let code = code-parts numbers (n + 1) false (has numbers (n + 1 + 1)) begins refl in
    subst (λ (r : ℕ). r ≤ runs_in numbers) (runs-after numbers (n + 1) limit most)
    (by (has numbers (n + 1)) (has numbers (n + 1 + 1)) (runs_in numbers) (runs_with numbers (n + 1)) code)
  where
    by : (there meets : Bool) (runs with : ℕ) → with ≡ (runs + one false) - one meets → (if there then runs else with) ≤ runs
    by true meets runs with code = omega arith
    by false meets runs with code = omega arith

-- ---- the laws

with-last : (a l e : Bool) → (a || ((l || true) && e)) ≡ ((a || (l && e)) || e)
with-last true l e = refl
with-last false true true = refl
with-last false true false = refl
with-last false false true = refl
with-last false false false = refl

with-other : (a : Bool) → (a || false) ≡ a
with-other true = refl
with-other false = refl

added : (numbers : NumberSet) (n k : ℕ) → IsSet64 numbers → n ≤ LAST → has (with_number n numbers) k ≡ (has numbers k || (k == n))
added numbers n k limit most =
    elim (cases_eq n LAST) [
      | inl is ↦
          let made = with-parts numbers n numbers.places (numbers.last || true) (placed-last n numbers.places is) (rw (eq-eqb n LAST is) refl) in
          ap (λ (s : NumberSet). has s k) made
          ∙ (with-last (is_covered numbers.places k) numbers.last (k == LAST) ∙ ap (λ (m : ℕ). has numbers k || (k == m)) (sym is))
      | inr differs ↦
          let within : n < length numbers.places = omega (arith, limit, most, differs) in
          let made = with-parts numbers n (set numbers.places n true) numbers.last (placed-below n numbers.places differs within) (last-stays n numbers.last differs) in
          ap (λ (s : NumberSet). has s k) made ∙ elim (cases_eq k n) [
            | inl same ↦
                let set : get_or (set numbers.places n true) k false ≡ true =
                ap (λ (i : ℕ). get_or (set numbers.places n true) i false) same ∙ get_or-set_same numbers.places n true false within in
                rw (set, eq-eqb k n same) (sym (or-true (has numbers k)))
            | inr apart ↦
                let other : get_or (set numbers.places n true) k false ≡ get_or numbers.places k false =
                get_or-set_other numbers.places n k true false apart in
                ap (λ (b : Bool). b || (numbers.last && (k == LAST))) other
                ∙ sym (ap (λ (b : Bool). has numbers k || b) (ne_eqb k n apart) ∙ with-other (has numbers k))
          ]
    ]

-- ---- what stays

and-left : (a b : Bool) → (a && b) ≡ true → (a ≡ true) × (b ≡ true)
and-left true b is = (refl, is)
and-left false b is = absurd (cc)

or-right : (a : Bool) → (a || true) ≡ true
or-right = or-true

covered-stays : (places : List Bool) (k n : ℕ) → get_or places n false ≡ true → get_or (with_covered k (k + 1) places) n false ≡ true
unfolding with_covered
covered-stays places k n there =
    elim (cases_lt k (length places)) [
      | inl within ↦ elim (cases_eq n k) [
        | inl same ↦
            ap (λ (p : List Bool). get_or p n false) (covered-set k places within)
            ∙ (ap (λ (i : ℕ). get_or (set places k true) i false) same ∙ get_or-set_same places k true false within)
        | inr apart ↦
            ap (λ (p : List Bool). get_or p n false) (covered-set k places within) ∙ (get_or-set_other places k n true false apart ∙ there)
      ]
      | inr after ↦
          ap (λ (p : List Bool). get_or (p ++ (replicate ((k + 1) - k) true ++ drop (k + 1) places)) n false) (take_all k places after)
          ∙ (get_or_append_left places (replicate ((k + 1) - k) true ++ drop (k + 1) places) false n (inside places n there) ∙ there)
    ]
  where
    inside : (places : List Bool) (n : ℕ) → get_or places n false ≡ true → n < length places
    inside [] n there = let no : false ≡ true = there in absurd (cc)
    inside (x ∷ places) zero there = omega arith
    inside (x ∷ places) (suc n) there = omega (arith, inside places n there)

pub number-stays : (numbers : NumberSet) (k n : ℕ) → has numbers n ≡ true → has (with_number k numbers) n ≡ true
unfolding with_number
number-stays numbers k n there = by (is_covered numbers.places n) refl
  where
    placed : get_or numbers.places n false ≡ true → get_or (places_with k numbers.places) n false ≡ true
    placed covered =
        elim (cases_eq k LAST) [
          | inl is ↦ ap (λ (p : List Bool). get_or p n false) (placed-last k numbers.places is) ∙ covered
          | inr differs ↦ rw (ne_eqb k LAST differs) (covered-stays numbers.places k n covered)
        ]

    by : (t : Bool) → is_covered numbers.places n ≡ t → has (with_number k numbers) n ≡ true
    by true covered = rw (placed covered) refl
    by false vacant =
        let both = and-left numbers.last (n == LAST) (rw vacant at there) in
        rw (both.0, both.1) (or-right (is_covered (places_with k numbers.places) n))

-- where there is no run no number is among them
pub runless : (numbers : NumberSet) (n : ℕ) → runs_in numbers ≡ 0 → has numbers n ≡ false
unfolding runs_in
runless numbers n none =
    let empty : runs_of numbers.places ≡ [] = nil_from_length (runs_of numbers.places) (omega (arith, none)) in
    let vacant : (k : ℕ) → is_covered numbers.places k ≡ false = λ k.
    sym ((runs_are_maximal numbers.places).2 k) ∙ ap (λ (runs : List Run). has_place runs k) empty in
    let last : one (numbers.last && not (is_covered numbers.places (LAST - 1))) ≡ 0 = omega (arith, none) in
    rw (vacant n) (by numbers.last (n == LAST) (rw (vacant (LAST - 1)) at last))
  where
    by : (l e : Bool) → one (l && true) ≡ 0 → (l && e) ≡ false
    by true e is = absurd (omega (arith, is))
    by false e is = refl

pub numbers_have : HaveNumbers
numbers_have = record { none = none-among; no_runs = no-runs; added = added }

pub adds_one_run : AddsRun
adds_one_run = record { one = runs-few; after = runs-beside }
