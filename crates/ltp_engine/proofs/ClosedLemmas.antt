-- Closed numbers.

use Rattle.std.proofs.Common.{◌≡◌, ℕ, ◌+◌, ◌<◌, ◌≤◌, Bool, true, false, ◌&&◌, ◌||◌, List, [], ◌∷◌, length, refl, sym, ◌∙◌, ap, arith, subst, if◌then◌else◌, ◌++◌, ◌^◌, ◌-◌}
use Rattle.std.proofs.Common.{inl, inr}
use Rattle.std.proofs.lemmas.Bool.{ne_eqb, cases_lt}
use Rattle.std.proofs.lemmas.List.{get_or_past, length-append}
use Rattle.spans.specs.Places.{is_covered, all_covered}
use Rattle.spans.proofs.Places.{all_covered-true, all_covered-from}
use Rattle.ltp_engine.specs.declared.closed.TheConstants.{LAST}
use Rattle.ltp_engine.specs.Closed.{ClosedValue, is_among, also_closed, all_closed, begins_run}

-- a range of one place is covered exactly where the place is
pub all_covered-one : (n : ℕ) (places : List Bool) → n + 1 ≤ length places → all_covered n (n + 1) places ≡ is_covered places n
all_covered-one n places within = cases_on (all_covered n (n + 1) places) (is_covered places n) refl refl where
  cases_on : (a b : Bool) → all_covered n (n + 1) places ≡ a → is_covered places n ≡ b → a ≡ b
  cases_on true true all here = refl
  cases_on false false all here = refl
  cases_on true false all here = sym (all_covered-true n (n + 1) places within all n (omega arith) (omega arith)) ∙ here
  cases_on false true all here =
      sym all ∙ all_covered-from n (n + 1) places within (λ k from to. subst (λ m. is_covered places m ≡ true) (omega (arith, from, to)) here)

or_none : (a b : Bool) → (a || (b && false)) ≡ a
or_none true b = refl
or_none false true = refl
or_none false false = refl

-- a number below the last one
pub has-below : (n : ℕ) (c : ClosedValue) (b : Bool) → (n ≡ LAST → ⊥) → n ≤ LAST → length c.places ≡ LAST → b ≡ all_covered n (n + 1) c.places → b ≡ is_among c n
has-below n c b below most limit is = rw (ne_eqb n LAST below, or_none (is_covered c.places n) c.last) (is ∙ all_covered-one n c.places within) where
  within : n + 1 ≤ length c.places
  within = rw limit (next n LAST most below) where
    next : (n m : ℕ) → n ≤ m → (n ≡ m → ⊥) → n + 1 ≤ m
    next n m most below = elim (cases_lt n m) [ inl low ↦ omega (arith, low) | inr high ↦ absurd (below (omega (arith, high, most))) ]

-- no number comes after the last one
pub has-past : (n : ℕ) (c : ClosedValue) → n ≡ LAST → length c.places ≡ LAST → false ≡ is_among c (n + 1)
has-past n c last limit = rw (past, ne_eqb (n + 1) LAST (λ h. absurd (omega (arith, h, last)))) (sym (or_none false c.last)) where
  past : is_covered c.places (n + 1) ≡ false
  past = get_or_past c.places (n + 1) false (omega (arith, last, limit))

-- the last of some numbers, first
pub all_closed-last : (numbers : List ℕ) (n : ℕ) (c : ClosedValue) → all_closed (numbers ++ n ∷ []) c ≡ all_closed numbers (also_closed n c)
unfolding all_closed
all_closed-last [] n c = refl
all_closed-last (m ∷ numbers) n c = ap (λ x. also_closed m x) (all_closed-last numbers n c)

-- at most one run more
pub runs-grow : (n : ℕ) (c : ClosedValue) → (also_closed n c).runs ≤ c.runs + 1
unfolding also_closed
runs-grow n c = by_tests (begins_run c n) (is_among c (n + 1)) c.runs where
  by_tests : (begins meets : Bool) (runs : ℕ) → (runs + (if begins then 1 else 0)) - (if meets then 1 else 0) ≤ runs + 1
  by_tests true true runs = omega arith
  by_tests true false runs = omega arith
  by_tests false true runs = omega arith
  by_tests false false runs = omega arith

pub record ClosingStep (numbers left : List ℕ) (before after_it : ClosedValue) : Type 0 where
  pub closed : all_closed numbers before ≡ all_closed left after_it
  pub runs : after_it.runs + length left < 2 ^ 32

pub closing-step : (numbers left : List ℕ) (n : ℕ) (before after_it : ClosedValue) → numbers ≡ left ++ n ∷ []
    → after_it ≡ also_closed n before → before.runs + length numbers < 2 ^ 32 → ClosingStep numbers left before after_it
closing-step numbers left n before after_it is closes room = record {
  closed = rw (is, closes) (all_closed-last left n before);
  runs =
      let more : length numbers ≡ length left + 1 = ap (λ xs. length xs) is ∙ length-append left (n ∷ []) in
      let grown : after_it.runs ≤ before.runs + 1 = subst (λ x. x.runs ≤ before.runs + 1) (sym closes) (runs-grow n before) in
      omega (arith, more, grown, room);
}

-- when no number is left
pub closing-end : (numbers : List ℕ) (c all : ClosedValue) → numbers ≡ [] → all_closed numbers c ≡ all → c ≡ all
unfolding all_closed
closing-end [] c all is same = same
closing-end (n ∷ numbers) c all is same = absurd (cc)
