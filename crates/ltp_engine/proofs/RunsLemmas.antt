-- Closing numbers: the list of the definition, and what the code keeps.

use Rattle.std.proofs.Common.{◌≡◌, ℕ, ◌+◌, ◌-◌, ◌<◌, ◌≤◌, Bool, true, false, not, ◌==◌, ◌||◌, pred, List, [], ◌∷◌, ◌++◌, length, zero, suc, Some, is_some, refl, sym, ◌∙◌, ap, arith, subst, cond, if◌then◌else◌}
use Rattle.std.specs.List.{count_by, AllByRecursion}
use Rattle.std.proofs.lemmas.List.Recursion.{is_count_by}
use Rattle.std.proofs.lemmas.Bool.{eqb-true, ne_eqb, eq-eqb}
use Rattle.std.proofs.lemmas.Bool.Decides.{nat_tests}
use Rattle.spans.specs.Places.{with_covered}
use Rattle.spans.proofs.Places.{length-with_covered}
use Rattle.ltp_session.specs.Step.{Change, stays, keeps, ends}
use Rattle.ltp_session.specs.Receiver.{Receiving}
use Rattle.ltp_session.specs.Table.{find, AreAscending, ended, then_ended}
use Rattle.ltp_session.specs.Engine.{is_closed, closed_runs}
use Rattle.ltp_laws.proofs.TableLemmas.{self_eqb}
use Rattle.ltp_engine.specs.declared.closed.TheConstants.{LAST}
use Rattle.ltp_engine.specs.Closed.{ClosedValue, is_among, also_closed, all_closed, runs_with, begins_run}
use Rattle.ltp_engine.specs.Shows.{AreDistinct, ShowsClosed}
use Rattle.ltp_engine.proofs.SoundLemmas.{among-also}

-- how many of some numbers pass a test
abbrev how_many : (ℕ → Bool) → List ℕ → ℕ
how_many p [] = 0
how_many p (x ∷ xs) = cond (p x) (1 + how_many p xs) (how_many p xs)

count-is : (p : ℕ → Bool) (xs : List ℕ) → how_many p xs ≡ count_by p xs
count-is p xs = is_count_by (how_many p) p refl (λ x xs. refl) xs

-- a test that fails at one number more counts one less where that number is there
count-apart : (p q : ℕ → Bool) (k : ℕ) → ((m : ℕ) → (m == k) ≡ false → q m ≡ p m) → p k ≡ true → q k ≡ false → (xs : List ℕ) → AreDistinct xs
    → how_many q xs + cond (is_closed k xs) 1 0 ≡ how_many p xs
count-apart p q k same at_p at_q [] distinct = refl
count-apart p q k same at_p at_q (m ∷ xs) distinct = by_test (m == k) refl (count-apart p q k same at_p at_q xs distinct.1) where
  by_test : (here : Bool) → (m == k) ≡ here → how_many q xs + cond (is_closed k xs) 1 0 ≡ how_many p xs
      → cond (q m) (1 + how_many q xs) (how_many q xs) + cond (here || is_closed k xs) 1 0 ≡ cond (p m) (1 + how_many p xs) (how_many p xs)
  by_test true is rest =
      let number : m ≡ k = eqb-true m k is in
      let none : is_closed k xs ≡ false = subst (λ x. is_closed x xs ≡ false) number distinct.0 in
      let rest_is : how_many q xs + 0 ≡ how_many p xs = subst (λ b. how_many q xs + cond b 1 0 ≡ how_many p xs) none rest in
      let p_here : p m ≡ true = ap p number ∙ at_p in
      let q_here : q m ≡ false = ap q number ∙ at_q in
      rw (p_here, q_here) (omega (arith, rest_is))
  by_test false is rest = rw (same m is) (by_p (p m)) where
    by_p : (b : Bool) → cond b (1 + how_many q xs) (how_many q xs) + cond (is_closed k xs) 1 0 ≡ cond b (1 + how_many p xs) (how_many p xs)
    by_p true = omega (arith, rest)
    by_p false = rest

or-true : (b : Bool) → (b || true) ≡ true
or-true true = refl
or-true false = refl

differ : {b : Bool} → b ≡ true → b ≡ false → ⊥
differ is also = cc

-- a number that isn't closed begins a run, less the one that began after it
closed_runs-more : (n : ℕ) (closed : List ℕ) → is_closed n closed ≡ false → AreDistinct closed
    → closed_runs (n ∷ closed) + cond (is_closed (suc n) closed) 1 0 ≡ closed_runs closed + cond ((n == 0) || not (is_closed (pred n) closed)) 1 0
unfolding closed_runs
closed_runs-more n closed fresh distinct =
    ap (λ k. k + cond (is_closed (suc n) closed) 1 0) (sym (count-is q (n ∷ closed))) ∙ (head_is
    ∙ ap (λ k. k + cond (p n) 1 0) (count-is p closed)) where
      p : ℕ → Bool
      p m = (m == 0) || not (is_closed (pred m) closed)

      q : ℕ → Bool
      q m = (m == 0) || not (is_closed (pred m) (n ∷ closed))

      others : (m : ℕ) → (m == suc n) ≡ false → q m ≡ p m
      others zero apart = refl
      others (suc m) apart = ap (λ b. (suc m == 0) || not (b || is_closed m closed)) (ne_eqb n m (λ e. absurd (differ (eq-eqb (suc m) (suc n) (ap suc (sym e))) apart)))

      head : q n ≡ p n
      head = others n (ne_eqb n (suc n) (λ h. absurd (omega (arith, h))))

      at_p : p (suc n) ≡ true
      at_p = ap (λ b. (suc n == 0) || not b) fresh ∙ or-true (suc n == 0)

      at_q : q (suc n) ≡ false
      at_q = ap (λ b. (suc n == 0) || not (b || is_closed n closed)) (self_eqb n) ∙ ap (λ b. b || false) (ne_eqb (suc n) 0 (λ h. absurd (omega (arith, h))))

      apart_is : how_many q closed + cond (is_closed (suc n) closed) 1 0 ≡ how_many p closed
      apart_is = count-apart p q (suc n) others at_p at_q closed distinct

      by_head : (b : Bool) → cond b (1 + how_many q closed) (how_many q closed) + cond (is_closed (suc n) closed) 1 0 ≡ how_many p closed + cond b 1 0
      by_head true = omega (arith, apart_is)
      by_head false = omega (arith, apart_is)

      head_is : cond (q n) (1 + how_many q closed) (how_many q closed) + cond (is_closed (suc n) closed) 1 0 ≡ how_many p closed + cond (p n) 1 0
      head_is = ap (λ b. cond b (1 + how_many q closed) (how_many q closed) + cond (is_closed (suc n) closed) 1 0) head ∙ by_head (p n)

pub shows-closed : (n : ℕ) (c : ClosedValue) (closed : List ℕ) → n ≤ LAST → length c.places ≡ LAST → is_closed n closed ≡ false
    → ShowsClosed c closed → ShowsClosed (also_closed n c) (n ∷ closed)
unfolding also_closed
shows-closed n c closed most limit fresh shows = record {
  each = λ m. ap (λ b. (n == m) || b) (shows.each m) ∙ sym (among-also n c m most limit);
  runs = runs_are;
  distinct = (fresh, shows.distinct);
} where
  runs_are : closed_runs (n ∷ closed) ≡ runs_with c n
  runs_are = go (subst (λ k. closed_runs (n ∷ closed) + cond (is_closed k closed) 1 0 ≡ closed_runs closed + cond ((n == 0) || not (is_closed (pred n) closed)) 1 0) (next n) (closed_runs-more n closed fresh shows.distinct)) where
    next : (n : ℕ) → suc n ≡ n + 1
    next n = omega arith

    by_tests : (meets begins : Bool) (all runs : ℕ) → all + cond meets 1 0 ≡ runs + cond begins 1 0 → all ≡ (runs + cond begins 1 0) - cond meets 1 0
    by_tests true true all runs is = omega (arith, is)
    by_tests true false all runs is = omega (arith, is)
    by_tests false true all runs is = omega (arith, is)
    by_tests false false all runs is = omega (arith, is)

    go : closed_runs (n ∷ closed) + cond (is_closed (n + 1) closed) 1 0 ≡ closed_runs closed + cond ((n == 0) || not (is_closed (pred n) closed)) 1 0
        → closed_runs (n ∷ closed) ≡ runs_with c n
    go is = by_tests (is_among c (n + 1)) (begins_run c n) (closed_runs (n ∷ closed)) c.runs
        (ap (λ b. closed_runs (n ∷ closed) + cond b 1 0) (sym (shows.each (n + 1))) ∙ (is
        ∙ (ap (λ k. k + cond ((n == 0) || not (is_closed (pred n) closed)) 1 0) shows.runs ∙ ap (λ b. c.runs + cond ((n == 0) || not b) 1 0) (shows.each (pred n)))))

-- ---- some numbers are closed

pub length-also : (n : ℕ) (c : ClosedValue) → n ≤ LAST → length c.places ≡ LAST → length (also_closed n c).places ≡ LAST
unfolding also_closed
length-also n c most limit = by_last (n == LAST) refl where
  by_last : (last : Bool) → (n == LAST) ≡ last → length (if last then c.places else with_covered n (n + 1) c.places) ≡ LAST
  by_last true is = limit
  by_last false is = length-with_covered n (n + 1) c.places (omega arith) (rw limit (next n LAST most is)) ∙ limit where
    next : (a b : ℕ) → a ≤ b → (a == b) ≡ false → a + 1 ≤ b
    next a b most is = grind (arith, nat_tests)

pub record AllShown (numbers closed : List ℕ) (c : ClosedValue) : Type 0 where
  pub shows : ShowsClosed c (numbers ++ closed)
  pub limit : length c.places ≡ LAST

pub shows-all : (numbers closed : List ℕ) (c : ClosedValue) → AllByRecursion (λ n. n ≤ LAST) numbers → length c.places ≡ LAST
    → AreDistinct (numbers ++ closed) → ShowsClosed c closed → AllShown numbers closed (all_closed numbers c)
unfolding all_closed
shows-all [] closed c most limit distinct shows = record { shows = shows; limit = limit }
shows-all (n ∷ numbers) closed c most limit distinct shows =
    let rest = shows-all numbers closed c most.1 limit distinct.1 shows in
    record {
      shows = shows-closed n (all_closed numbers c) (numbers ++ closed) most.0 rest.limit distinct.0 rest.shows;
      limit = length-also n (all_closed numbers c) most.0 rest.limit;
    }

pub among-all : (numbers : List ℕ) (c : ClosedValue) (m : ℕ) → AllByRecursion (λ n. n ≤ LAST) numbers → length c.places ≡ LAST
    → (is_among (all_closed numbers c) m ≡ (is_closed m numbers || is_among c m)) × (length (all_closed numbers c).places ≡ LAST)
unfolding all_closed
among-all [] c m most limit = (refl, limit)
among-all (n ∷ numbers) c m most limit =
    let (rest, size) = among-all numbers c m most.1 limit in (
      among-also n (all_closed numbers c) m most.0 size ∙ (ap (λ b. (n == m) || b) rest ∙ ors (n == m) (is_closed m numbers) (is_among c m)),
      length-also n (all_closed numbers c) most.0 size,
    ) where
      ors : (a b d : Bool) → (a || (b || d)) ≡ ((a || b) || d)
      ors true b d = refl
      ors false b d = refl

-- ---- those that a tick ends

ended-below : (change : Receiving → Change Receiving) (n low : ℕ) (es : List (ℕ × Receiving)) (closed : List ℕ) → n < low → AreAscending low es
    → is_closed n (ended change es ++ closed) ≡ is_closed n closed
unfolding ended
ended-below change n low [] closed below is = refl
ended-below change n low (e ∷ es) closed below is = by_change (change e.1) (ended-below change n (e.0 + 1) es closed (omega (arith, is.0, below)) is.1) where
  by_change : (c : Change Receiving) → is_closed n (ended change es ++ closed) ≡ is_closed n closed
      → is_closed n (then_ended e.0 c (ended change es) ++ closed) ≡ is_closed n closed
  by_change stays rest = rest
  by_change (keeps r) rest = rest
  by_change ends rest = rw (ne_eqb e.0 n (λ h. absurd (omega (arith, h, is.0, below)))) rest

pub distinct-ended : (change : Receiving → Change Receiving) (low : ℕ) (es : List (ℕ × Receiving)) (closed : List ℕ) → AreAscending low es
    → ((m : ℕ) → is_some (find m es) ≡ true → is_closed m closed ≡ false) → AreDistinct closed → AreDistinct (ended change es ++ closed)
unfolding ended find
distinct-ended change low [] closed is open_are distinct = distinct
distinct-ended change low (e ∷ es) closed is open_are distinct = by_change (change e.1) (distinct-ended change (e.0 + 1) es closed is.1 further distinct) where
  further : (m : ℕ) → is_some (find m es) ≡ true → is_closed m closed ≡ false
  further m holds = open_are m (go (e.0 == m)) where
    go : (same : Bool) → is_some (if same then Some e.1 else find m es) ≡ true
    go true = refl
    go false = holds

  here : is_closed e.0 closed ≡ false
  here = open_are e.0 (rw (self_eqb e.0) refl)

  by_change : (c : Change Receiving) → AreDistinct (ended change es ++ closed) → AreDistinct (then_ended e.0 c (ended change es) ++ closed)
  by_change stays rest = rest
  by_change (keeps r) rest = rest
  by_change ends rest = (ended-below change e.0 (e.0 + 1) es closed (omega arith) is.1 ∙ here, rest)

pub ended-least : (change : Receiving → Change Receiving) (es : List (ℕ × Receiving)) → ((m : ℕ) → is_some (find m es) ≡ true → m ≤ LAST)
    → AllByRecursion (λ n. n ≤ LAST) (ended change es)
unfolding ended find
ended-least change [] most = tt
ended-least change (e ∷ es) most = by_change (change e.1) (ended-least change es further) where
  further : (m : ℕ) → is_some (find m es) ≡ true → m ≤ LAST
  further m holds = most m (go (e.0 == m)) where
    go : (same : Bool) → is_some (if same then Some e.1 else find m es) ≡ true
    go true = refl
    go false = holds

  here : e.0 ≤ LAST
  here = most e.0 (rw (self_eqb e.0) refl)

  by_change : (c : Change Receiving) → AllByRecursion (λ n. n ≤ LAST) (ended change es) → AllByRecursion (λ n. n ≤ LAST) (then_ended e.0 c (ended change es))
  by_change stays rest = rest
  by_change (keeps r) rest = rest
  by_change ends rest = (here, rest)
