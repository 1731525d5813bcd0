-- Numbers of sessions that are over go into the memory.

use Rattle.std.proofs.Common.{◌≡◌, ℕ, suc, take, get_or, ◌^◌, ◌+◌, ◌<◌, ◌≤◌, Bool, true, false, List, [], ◌∷◌, ◌++◌, length, ◌==◌, ◌||◌, refl, sym, ◌∙◌, ap, subst, arith, inl, inr, if◌then◌else◌}
use Rattle.std.proofs.lemmas.Bool.{cases_lt}
use Rattle.std.proofs.lemmas.Bool.Decides.{nat_tests}
use Rattle.std.proofs.lemmas.List.{ext_get_or, get_or_past, length-append}
use Rattle.spans.specs.Places.{is_covered}
use Rattle.session_memory.specs.Numbers.{NumberSet, has, with_number, runs_in}
use Rattle.std.proofs.lemmas.List.{take_more}
use Rattle.session_memory.specs.Memory.{Memory, closed, marked_with}
use Rattle.session_memory.specs.Laws.{IsSet64}
use Rattle.session_memory.proofs.NumberLemmas.{length-with, has-below, has-last, runs-few, numbers_have}
use Rattle.ltp_session.specs.Engine.{is_closed}
use Rattle.ltp_engine.specs.Shows.{AreDistinct}
use Rattle.peer_sessions.specs.Sessions.{with_closed}
use Rattle.peer_sessions.specs.Keys.{with_marked}

-- the last number that a session may have
abbrev pub LAST : ℕ
LAST = 18446744073709551615

-- ---- one number

pub set-closed : (n : ℕ) (m : Memory) → IsSet64 m.newer → n ≤ LAST → IsSet64 (closed n m).newer
unfolding with_number
set-closed n m set most = length-with n (m.newer).places set most

pub runs-closed : (n : ℕ) (m : Memory) → IsSet64 m.newer → n ≤ LAST → runs_in (closed n m).newer ≤ runs_in m.newer + 1
runs-closed n m set most = runs-few m.newer n set most

-- ---- the loop

pub closed-last : (numbers : List ℕ) (n : ℕ) (m : Memory) → with_closed (numbers ++ n ∷ []) m ≡ with_closed numbers (closed n m)
unfolding with_closed
closed-last [] n m = refl
closed-last (k ∷ numbers) n m = ap (λ (x : Memory). closed k x) (closed-last numbers n m)

pub record ClosingStep (left : List ℕ) (all after_it : Memory) : Type 0 where
  pub set : IsSet64 after_it.newer
  pub places : runs_in after_it.newer + length left ≤ after_it.most
  pub goes_on : with_closed left after_it ≡ all

pub closing-step : (numbers left : List ℕ) (n : ℕ) (before after_it all : Memory) → numbers ≡ left ++ n ∷ [] → n ≤ LAST → after_it ≡ closed n before
    → IsSet64 before.newer → runs_in before.newer + length numbers ≤ before.most → with_closed numbers before ≡ all → ClosingStep left all after_it
closing-step numbers left n before after_it all is most closes set places goes_on =
    subst (λ (m : Memory). ClosingStep left all m) (sym closes) (record {
      set = set-closed n before set most;
      places =
          let more : length numbers ≡ length left + 1 = ap (λ xs. length xs) is ∙ length-append left (n ∷ []) in
          let few = runs-closed n before set most in
          omega (arith, more, few, places);
      goes_on = sym (closed-last left n before) ∙ (ap (λ ns. with_closed ns before) (sym is) ∙ goes_on);
    })

-- there is a place for the next
pub closing-room : (numbers left : List ℕ) (n : ℕ) (m : Memory) → numbers ≡ left ++ n ∷ [] → runs_in m.newer + length numbers ≤ m.most → runs_in m.newer < m.most
closing-room numbers left n m is places =
    let more : length numbers ≡ length left + 1 = ap (λ xs. length xs) is ∙ length-append left (n ∷ []) in
    omega (arith, more, places)

pub closing-end : (numbers : List ℕ) (m all : Memory) → numbers ≡ [] → with_closed numbers m ≡ all → m ≡ all
unfolding with_closed
closing-end [] m all is same = same
closing-end (n ∷ numbers) m all is same = absurd (cc)

-- ---- what some numbers make of it

-- numbers that a session can have
abbrev pub AreNumbers : List ℕ → Type 0
AreNumbers numbers = (k : ℕ) → is_closed k numbers ≡ true → k ≤ LAST

are-first : (n : ℕ) (numbers : List ℕ) → AreNumbers (n ∷ numbers) → n ≤ LAST
are-first n numbers all = all n (here n) where
  here : (n : ℕ) → ((n == n) || is_closed n numbers) ≡ true
  here n = rw (ne-self n) refl where
    ne-self : (n : ℕ) → (n == n) ≡ true
    ne-self n = grind (arith, nat_tests)

are-rest : (n : ℕ) (numbers : List ℕ) → AreNumbers (n ∷ numbers) → AreNumbers numbers
are-rest n numbers all = λ k holds. all k (by_test (n == k) holds) where
  by_test : (b : Bool) {c : Bool} → c ≡ true → (b || c) ≡ true
  by_test true is = refl
  by_test false is = is

pub record Remembers (numbers : List ℕ) (m : Memory) : Type 0 where
  pub set : IsSet64 (with_closed numbers m).newer
  pub has_each : (k : ℕ) → has (with_closed numbers m).newer k ≡ (has m.newer k || is_closed k numbers)
  pub runs : runs_in (with_closed numbers m).newer ≤ runs_in m.newer + length numbers
  pub most : (with_closed numbers m).most ≡ m.most
  pub keep : (with_closed numbers m).keep_ms ≡ m.keep_ms

pub remembers : (numbers : List ℕ) (m : Memory) → IsSet64 m.newer → AreNumbers numbers → Remembers numbers m
unfolding with_closed
remembers [] m set all = record { set = set; has_each = λ k. sym (or_none (has m.newer k)); runs = omega arith; most = refl; keep = refl } where
  or_none : (b : Bool) → (b || false) ≡ b
  or_none true = refl
  or_none false = refl
remembers (n ∷ numbers) m set all =
    let rest : Remembers numbers m = remembers numbers m set (are-rest n numbers all) in
    let most = are-first n numbers all in
    record {
      set = set-closed n (with_closed numbers m) rest.set most;
      has_each = λ k. (numbers_have.added (with_closed numbers m).newer n k rest.set most) ∙ rw (rest.has_each k) (turn (has m.newer k) (is_closed k numbers) k);
      runs = let few = runs-closed n (with_closed numbers m) rest.set most in omega (arith, few, rest.runs);
      most = rest.most;
      keep = rest.keep;
    } where
      turn : (a b : Bool) (k : ℕ) → ((a || b) || (k == n)) ≡ (a || ((n == k) || b))
      turn a b k = by_all a b (k == n) (n == k) (grind (arith, nat_tests)) where
        by_all : (a b c d : Bool) → c ≡ d → ((a || b) || c) ≡ (a || (d || b))
        by_all true b c d is = refl
        by_all false true true d is = rw (sym is) refl
        by_all false true false d is = rw (sym is) refl
        by_all false false true d is = rw (sym is) refl
        by_all false false false d is = rw (sym is) refl

abbrev set_of : List Bool → Bool → NumberSet
set_of places last = record { places = places; last = last }

-- the same numbers make the same set
same-set : (a b : NumberSet) → IsSet64 a → IsSet64 b → ((k : ℕ) → has a k ≡ has b k) → a ≡ b
same-set a b first second each = by_parts a.places b.places a.last b.last places last where
  last : a.last ≡ b.last
  last = sym (has-last a LAST first refl) ∙ (each LAST ∙ has-last b LAST second refl)

  at : (k : ℕ) → is_covered a.places k ≡ is_covered b.places k
  at k = elim (cases_lt k LAST) [
    | inl low ↦ sym (has-below a k low) ∙ (each k ∙ has-below b k low)
    | inr high ↦ get_or_past a.places k false (subst (λ n. n ≤ k) (sym first) high) ∙ sym (get_or_past b.places k false (subst (λ n. n ≤ k) (sym second) high))
  ]

  places : a.places ≡ b.places
  places = ext_get_or false a.places b.places (first ∙ sym second) (λ k below. at k)

  by_parts : (p q : List Bool) (u v : Bool) → p ≡ q → u ≡ v → set_of p u ≡ set_of q v
  by_parts p q u v one two = rw (one, two) refl

-- the same numbers are the same places
pub same-places : (p q : List Bool) (u v : Bool) → length p ≡ LAST → length q ≡ LAST → ((k : ℕ) → has (set_of p u) k ≡ has (set_of q v) k) → (p ≡ q) × (u ≡ v)
same-places p q u v first second each = (ap (λ (s : NumberSet). s.places) both, ap (λ (s : NumberSet). s.last) both) where
  both : set_of p u ≡ set_of q v
  both = same-set (set_of p u) (set_of q v) first second each

-- the others stay
others : (numbers : List ℕ) (m : Memory) → with_closed numbers m ≡ record m { newer = (with_closed numbers m).newer }
unfolding with_closed
others [] m = refl
others (n ∷ numbers) m = ap (λ (x : Memory). closed n x) (others numbers m)

pub closed-same : (xs ys : List ℕ) (m : Memory) → IsSet64 m.newer → AreNumbers xs → ((k : ℕ) → is_closed k xs ≡ is_closed k ys) → with_closed xs m ≡ with_closed ys m
closed-same xs ys m set all same =
    let first : Remembers xs m = remembers xs m set all in
    let second : Remembers ys m = remembers ys m set (λ k holds. all k (same k ∙ holds)) in
    others xs m ∙ (ap (λ (s : NumberSet). record m { newer = s })
    (same-set (with_closed xs m).newer (with_closed ys m).newer first.set second.set (λ k. first.has_each k ∙ (ap (λ b. has m.newer k || b) (same k) ∙ sym (second.has_each k))))
    ∙ sym (others ys m))

-- ---- how many numbers there are

abbrev without_all : ℕ → List ℕ → List ℕ
without_all n [] = []
without_all n (m ∷ numbers) = if m == n then without_all n numbers else m ∷ without_all n numbers

fewer : (n : ℕ) (ys : List ℕ) → length (without_all n ys) ≤ length ys
fewer n [] = omega arith
fewer n (m ∷ ys) = by_test (m == n) (fewer n ys) where
  by_test : (same : Bool) → length (without_all n ys) ≤ length ys → length (if same then without_all n ys else m ∷ without_all n ys) ≤ suc (length ys)
  by_test true few = omega (arith, few)
  by_test false few = omega (arith, few)

fewer-held : (n : ℕ) (ys : List ℕ) → is_closed n ys ≡ true → length (without_all n ys) + 1 ≤ length ys
fewer-held n [] holds = absurd (cc)
fewer-held n (m ∷ ys) holds = by_test (m == n) holds (λ h. fewer-held n ys h) (fewer n ys) where
  by_test : (same : Bool) → (same || is_closed n ys) ≡ true → (is_closed n ys ≡ true → length (without_all n ys) + 1 ≤ length ys) → length (without_all n ys) ≤ length ys
      → length (if same then without_all n ys else m ∷ without_all n ys) + 1 ≤ suc (length ys)
  by_test true holds rest few = omega (arith, few)
  by_test false holds rest few = let more = rest holds in omega (arith, more)

held-other : (n k : ℕ) (ys : List ℕ) → (n == k) ≡ false → is_closed k ys ≡ true → is_closed k (without_all n ys) ≡ true
held-other n k [] apart holds = absurd (cc)
held-other n k (m ∷ ys) apart holds = by_test (m == n) refl (m == k) refl holds (λ h. held-other n k ys apart h) where
  by_test : (gone : Bool) → (m == n) ≡ gone → (here : Bool) → (m == k) ≡ here → (here || is_closed k ys) ≡ true → (is_closed k ys ≡ true → is_closed k (without_all n ys) ≡ true)
      → is_closed k (if gone then without_all n ys else m ∷ without_all n ys) ≡ true
  by_test true is true at holds rest = absurd (differ m is at apart) where
    differ : (m : ℕ) → (m == n) ≡ true → (m == k) ≡ true → (n == k) ≡ false → ⊥
    differ m one two three = grind (arith, nat_tests)
  by_test true is false at holds rest = rest holds
  by_test false is true at holds rest = rw at refl
  by_test false is false at holds rest = rw at (rest holds)

-- numbers that are among others are no more than they
pub no_more : (xs ys : List ℕ) → AreDistinct xs → ((k : ℕ) → is_closed k xs ≡ true → is_closed k ys ≡ true) → length xs ≤ length ys
no_more [] ys once among = omega arith
no_more (x ∷ xs) ys once among =
    let rest : length xs ≤ length (without_all x ys) = no_more xs (without_all x ys) once.1 (λ k holds. held-other x k ys (other k holds) (among k (later k holds))) in
    let less = fewer-held x ys (among x here) in
    omega (arith, rest, less) where
      here : ((x == x) || is_closed x xs) ≡ true
      here = rw (self x) refl where
        self : (n : ℕ) → (n == n) ≡ true
        self n = grind (arith, nat_tests)

      later : (k : ℕ) → is_closed k xs ≡ true → ((x == k) || is_closed k xs) ≡ true
      later k holds = by_test (x == k) where
        by_test : (b : Bool) → (b || is_closed k xs) ≡ true
        by_test true = refl
        by_test false = holds

      other : (k : ℕ) → is_closed k xs ≡ true → (x == k) ≡ false
      other k holds = by_test (x == k) refl where
        by_test : (b : Bool) → (x == k) ≡ b → b ≡ false
        by_test false is = refl
        by_test true is = absurd (clash (subst (λ n. is_closed n xs ≡ true) (sym (same k is)) holds)) where
          same : (k : ℕ) → (x == k) ≡ true → x ≡ k
          same k is = grind (arith, nat_tests)

          clash : is_closed x xs ≡ true → ⊥
          clash holds = let never = once.0 in differ (sym never ∙ holds) where
            differ : false ≡ true → ⊥
            differ is = cc

-- ---- numbers that are kept for good

marked-last : (numbers : List ℕ) (n : ℕ) (m : Memory) → with_marked (numbers ++ n ∷ []) m ≡ with_marked numbers (marked_with n m)
unfolding with_marked
marked-last [] n m = refl
marked-last (k ∷ numbers) n m = ap (λ (x : Memory). marked_with k x) (marked-last numbers n m)

pub record MarkingStep (numbers : List ℕ) (left : ℕ) (all after_it : Memory) : Type 0 where
  pub set : IsSet64 after_it.marked
  pub places : runs_in after_it.marked + left ≤ 2 ^ 63
  pub goes_on : with_marked (take left numbers) after_it ≡ all

pub marking-step : (numbers : List ℕ) (left n : ℕ) (before after_it all : Memory) → left < length numbers → n ≡ get_or numbers left n → n ≤ LAST → after_it ≡ marked_with n before
    → IsSet64 before.marked → runs_in before.marked + (left + 1) ≤ 2 ^ 63 → with_marked (take (left + 1) numbers) before ≡ all → MarkingStep numbers left all after_it
unfolding with_number
marking-step numbers left n before after_it all below read most marks set places goes_on =
    subst (λ (m : Memory). MarkingStep numbers left all m) (sym marks) (record {
      set = length-with n (before.marked).places set most;
      places = let few = runs-few before.marked n set most in omega (arith, few, places);
      goes_on = sym (marked-last (take left numbers) n before) ∙ (ap (λ ns. with_marked ns before) front ∙ goes_on);
    }) where
      front : take left numbers ++ n ∷ [] ≡ take (left + 1) numbers
      front = ap (λ k. take left numbers ++ k ∷ []) read ∙ sym (take_more numbers left n below)

pub marking-end : (numbers : List ℕ) (m all : Memory) → with_marked (take 0 numbers) m ≡ all → m ≡ all
unfolding with_marked
marking-end numbers m all same = same
