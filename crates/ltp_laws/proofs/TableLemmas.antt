-- What is found in a table after a change.

use Rattle.std.proofs.Common.{◌≡◌, ◌≢◌, ℕ, ◌+◌, ◌<◌, ◌≤◌, Bool, true, false, ◌==◌, List, []}
use Rattle.std.proofs.Common.{◌∷◌, Option, None, Some, refl, sym, ◌∙◌, arith, nat_lt}
use Rattle.std.proofs.Common.{if◌then◌else◌}
use Rattle.std.proofs.lemmas.Bool.{eqb-true, ne_eqb, eq-eqb}
use Rattle.std.proofs.lemmas.Bool.Decides.{nat_tests}
use Rattle.ltp_session.specs.Step.{Change, stays, keeps, ends, after}
use Rattle.ltp_session.specs.Table.{find, put, without, settled, AreAscending, ticked, then_kept}

pub self_eqb : (n : ℕ) → (n == n) ≡ true
self_eqb n = eq-eqb n n refl

pub find-put : {S : Type 0} (n : ℕ) (s : S) (es : List (ℕ × S)) → find n (put n s es) ≡ Some s
unfolding find put
find-put n s [] = rw self_eqb refl
find-put n s (e ∷ es) = by_test (e.0 == n) refl (nat_lt n e.0) (find-put n s es)
  where
    by_test : (same : Bool) → (e.0 == n) ≡ same → (less : Bool) → find n (put n s es) ≡ Some s
        → find n (if same then (n, s) ∷ es else if less then (n, s) ∷ (e ∷ es) else e ∷ put n s es)
        ≡ Some s
    by_test true is less rest = rw self_eqb refl
    by_test false is true rest = rw self_eqb refl
    by_test false is false rest = rw is rest

pub find-put_other : {S : Type 0} (m n : ℕ) (s : S) (es : List (ℕ × S)) → m ≢ n
    → find m (put n s es) ≡ find m es
unfolding find put
find-put_other m n s [] apart = rw (ne_eqb n m (λ e. apart (sym e))) refl
find-put_other m n s (e ∷ es) apart =
    by_test (e.0 == n) refl (nat_lt n e.0) (find-put_other m n s es apart)
  where
    by_test : (same : Bool) → (e.0 == n) ≡ same → (less : Bool) → find m (put n s es) ≡ find m es
        → find m (if same then (n, s) ∷ es else if less then (n, s) ∷ (e ∷ es) else e ∷ put n s es)
        ≡ find m (e ∷ es)
    by_test true is less rest =
        let here : e.0 ≡ n = eqb-true e.0 n is in
        rw (here, ne_eqb n m (λ e. apart (sym e))) refl
    by_test false is true rest = rw (ne_eqb n m (λ e. apart (sym e))) refl
    by_test false is false rest = rw rest refl

pub find-without : {S : Type 0} (n : ℕ) (es : List (ℕ × S)) → find n (without n es) ≡ None
unfolding find without
find-without n [] = refl
find-without n (e ∷ es) = by_test (e.0 == n) refl (find-without n es)
  where
    by_test : (same : Bool) → (e.0 == n) ≡ same → find n (without n es) ≡ None
        → find n (if same then without n es else e ∷ without n es) ≡ None
    by_test true is rest = rest
    by_test false is rest = rw is rest

pub find-without_other : {S : Type 0} (m n : ℕ) (es : List (ℕ × S)) → m ≢ n
    → find m (without n es) ≡ find m es
unfolding find without
find-without_other m n [] apart = refl
find-without_other m n (e ∷ es) apart = by_test (e.0 == n) refl (find-without_other m n es apart)
  where
    by_test : (same : Bool) → (e.0 == n) ≡ same → find m (without n es) ≡ find m es
        → find m (if same then without n es else e ∷ without n es) ≡ find m (e ∷ es)
    by_test true is rest =
        let here : e.0 ≡ n = eqb-true e.0 n is in
        rw (here, ne_eqb n m (λ e. apart (sym e))) rest
    by_test false is rest = rw rest refl

pub find-settled : {S : Type 0} (n : ℕ) (c : Change S) (es : List (ℕ × S))
    → find n (settled n c es) ≡ after c (find n es)
find-settled n stays es = refl
find-settled n (keeps s) es = find-put n s es
find-settled n ends es = find-without n es

pub find-settled_other : {S : Type 0} (m n : ℕ) (c : Change S) (es : List (ℕ × S)) → m ≢ n
    → find m (settled n c es) ≡ find m es
find-settled_other m n stays es apart = refl
find-settled_other m n (keeps s) es apart = find-put_other m n s es apart
find-settled_other m n ends es apart = find-without_other m n es apart

-- ---- ascending numbers

pub ascending_lower : {S : Type 0} (low lower : ℕ) (es : List (ℕ × S)) → lower ≤ low
    → AreAscending low es → AreAscending lower es
ascending_lower low lower [] at_most is = tt
ascending_lower low lower (e ∷ es) at_most is = (omega arith, is.1)

pub ascending-without : {S : Type 0} (n low : ℕ) (es : List (ℕ × S)) → AreAscending low es
    → AreAscending low (without n es)
unfolding without
ascending-without n low [] is = tt
ascending-without n low (e ∷ es) is = by_test (e.0 == n) (ascending-without n (e.0 + 1) es is.1)
  where
    by_test : (same : Bool) → AreAscending (e.0 + 1) (without n es)
        → AreAscending low (if same then without n es else e ∷ without n es)
    by_test true rest = ascending_lower (e.0 + 1) low (without n es) (omega (arith, is.0)) rest
    by_test false rest = (is.0, rest)

pub ascending-put : {S : Type 0} (n low : ℕ) (s : S) (es : List (ℕ × S)) → low ≤ n
    → AreAscending low es → AreAscending low (put n s es)
unfolding put
ascending-put n low s [] from is = (from, tt)
ascending-put n low s (e ∷ es) from is =
    by_test (e.0 == n) refl (nat_lt n e.0) refl (λ above. ascending-put n (e.0 + 1) s es
    (omega (arith, above)) is.1)
  where
    by_test : (same : Bool) → (e.0 == n) ≡ same → (less : Bool) → nat_lt n e.0 ≡ less
        → (e.0 < n → AreAscending (e.0 + 1) (put n s es))
        → AreAscending low (if same then (n, s) ∷ es else if less then (n, s) ∷ (e ∷ es)
        else e ∷ put n s es)
    by_test true is_same less is_less rest =
        let here : e.0 ≡ n = eqb-true e.0 n is_same in
        (from, rw here at is.1)
    by_test false is_same true is_less rest = (from, (grind (arith, nat_tests), is.1))
    by_test false is_same false is_less rest = (is.0, rest (grind (arith, nat_tests)))

pub ascending-settled : {S : Type 0} (n low : ℕ) (c : Change S) (es : List (ℕ × S)) → low ≤ n
    → AreAscending low es → AreAscending low (settled n c es)
ascending-settled n low stays es from is = is
ascending-settled n low (keeps s) es from is = ascending-put n low s es from is
ascending-settled n low ends es from is = ascending-without n low es is

-- none is found below the first
pub find_below : {S : Type 0} (n low : ℕ) (es : List (ℕ × S)) → n < low → AreAscending low es
    → find n es ≡ None
unfolding find
find_below n low [] below is = refl
find_below n low (e ∷ es) below is =
    let apart : (e.0 == n) ≡ false = ne_eqb e.0 n (λ h. absurd (omega (arith, h, is.0, below))) in
    rw apart (find_below n (e.0 + 1) es (omega (arith, is.0, below)) is.1)

-- ---- ticks

abbrev pub after_tick : {S : Type 0} → (S → Change S) → Option S → Option S
after_tick change None = None
after_tick change (Some s) = after (change s) (Some s)

ascending-then_kept : {S : Type 0} (n low : ℕ) (s : S) (c : Change S) (es : List (ℕ × S)) → low ≤ n
    → AreAscending (n + 1) es → AreAscending low (then_kept (n, s) c es)
ascending-then_kept n low s stays es from is = (from, is)
ascending-then_kept n low s (keeps t) es from is = (from, is)
ascending-then_kept n low s ends es from is = ascending_lower (n + 1) low es (omega arith) is

pub ascending-ticked : {S : Type 0} (change : S → Change S) (low : ℕ) (es : List (ℕ × S))
    → AreAscending low es → AreAscending low (ticked change es)
unfolding ticked
ascending-ticked change low [] is = tt
ascending-ticked change low (e ∷ es) is =
    ascending-then_kept e.0 low e.1 (change e.1) (ticked change es) is.0 (ascending-ticked change
    (e.0 + 1) es is.1)

find-then_kept : {S : Type 0} (n : ℕ) (s : S) (c : Change S) (es : List (ℕ × S))
    → AreAscending (n + 1) es → find n (then_kept (n, s) c es) ≡ after c (Some s)
unfolding find
find-then_kept n s stays es is = rw self_eqb refl
find-then_kept n s (keeps t) es is = rw self_eqb refl
find-then_kept n s ends es is = find_below n (n + 1) es (omega arith) is

find-then_kept_other : {S : Type 0} (m n : ℕ) (s : S) (c : Change S) (es : List (ℕ × S))
    → (n == m) ≡ false → find m (then_kept (n, s) c es) ≡ find m es
unfolding find
find-then_kept_other m n s stays es apart = rw apart refl
find-then_kept_other m n s (keeps t) es apart = rw apart refl
find-then_kept_other m n s ends es apart = refl

pub find-ticked : {S : Type 0} (change : S → Change S) (n low : ℕ) (es : List (ℕ × S))
    → AreAscending low es
    → find n (ticked change es) ≡ after_tick change (find n es)
unfolding find ticked
find-ticked change n low [] is = refl
find-ticked change n low (e ∷ es) is =
    by_test (e.0 == n) refl (find-ticked change n (e.0 + 1) es is.1)
  where
    by_test : (same : Bool) → (e.0 == n) ≡ same → find n (ticked change es) ≡ after_tick
        change (find n es)
        → find n (then_kept e (change e.1) (ticked change es)) ≡ after_tick change
        (if same then Some e.1 else find n es)
    by_test true is_same rest =
        let here : e.0 ≡ n = eqb-true e.0 n is_same in
        rw (← here) (find-then_kept e.0 e.1 (change e.1) (ticked change es)
        (ascending-ticked change (e.0 + 1) es is.1))
    by_test false is_same rest = find-then_kept_other n e.0 e.1 (change e.1) (ticked change es)
        is_same ∙ rest
