-- Keys that are pairs of numbers, and what a map or a set has after one more.

use Rattle.std.proofs.Common.{◌≡◌, ℕ, Bool, true, false, ◌&&◌, ◌||◌, ◌==◌, refl, sym, ◌∙◌, ap, arith, ⊎_elim, cond}
use Rattle.std.proofs.lemmas.Bool.{eq-eqb, cases_lt, eqb-true}
use Rattle.std.proofs.lemmas.Bool.Decides.{nat_tests}
use Rattle.std.specs.Cmp.{nat_cmp_is}
use Rattle.std.specs.declared.cmp.Ordering.{Ordering}
use Rattle.std.specs.declared.cmp.Ordering.TheVariants as orderings
use Rattle.std.specs.Ordering.{nat_cmp, ordering_then, is_eq}
use Rattle.ltp_audit.specs.Pages.{name_cmp, mark_cmp, same_name}

then-is : (x y : Ordering) → is_eq (ordering_then x y) ≡ (is_eq x && is_eq y)
then-is orderings.Less y = refl
then-is orderings.Equal y = refl
then-is orderings.Greater y = refl

cmp-is : (a b : ℕ) → is_eq (nat_cmp a b) ≡ (a == b)
cmp-is a b = ⊎_elim
    (λ less.
    let is : nat_cmp a b ≡ orderings.Less = sym (nat_cmp_is a b orderings.Less less) in
    let apart : (a == b) ≡ false = grind (arith, nat_tests) in rw (is, apart) refl)
    (λ no_less. ⊎_elim
    (λ greater.
    let is : nat_cmp a b ≡ orderings.Greater = sym (nat_cmp_is a b orderings.Greater greater) in
    let apart : (a == b) ≡ false = grind (arith, nat_tests) in rw (is, apart) refl)
    (λ no_greater.
    let same : a ≡ b = omega arith in
    let is : nat_cmp a b ≡ orderings.Equal = sym (nat_cmp_is a b orderings.Equal same) in
    rw (is, eq-eqb a b same) refl)
    (cases_lt b a))
    (cases_lt a b)

pub name_cmp-is : (originator session o n : ℕ)
    → is_eq (name_cmp (originator, session) (o, n)) ≡ same_name originator session o n
name_cmp-is originator session o n = rw (then-is, cmp-is, cmp-is) refl

pub mark_cmp-is : (originator session one o n x : ℕ)
    → is_eq (mark_cmp ((originator, session), one) ((o, n), x))
    ≡ (same_name originator session o n && (one == x))
mark_cmp-is originator session one o n x =
    rw (then-is (name_cmp (originator, session) (o, n)) (nat_cmp one x), name_cmp-is originator session o n, cmp-is one x) refl

pub cond-or : (t b : Bool) → cond t true b ≡ (t || b)
cond-or true b = refl
cond-or false b = refl

pub same_name-is : (originator session o n : ℕ) → same_name originator session o n ≡ true
    → (originator ≡ o) × (session ≡ n)
same_name-is originator session o n same = parts (originator == o) refl (session == n) refl same where
  parts : (a : Bool) → (originator == o) ≡ a → (b : Bool) → (session == n) ≡ b → (a && b) ≡ true
      → (originator ≡ o) × (session ≡ n)
  parts true first true second is = (eqb-true originator o first, eqb-true session n second)
  parts true first false second is = absurd (cc)
  parts false first b second is = absurd (cc)

pub same_name-refl : (o n : ℕ) → same_name o n o n ≡ true
same_name-refl o n = rw (eq-eqb o o refl, eq-eqb n n refl) refl

-- what a set has at a key, once another is added
pub has-added : (new at same old : Bool) → new ≡ cond at true old → at ≡ same → new ≡ (same || old)
has-added new at same old is where_at = is ∙ (ap (λ t. cond t true old) where_at ∙ cond-or same old)
