-- Room that there was is left: a session that comes takes the place that was kept for it.

use Rattle.std.proofs.Common.{◌≡◌, ℕ, suc, ◌+◌, ◌<◌, ◌≤◌, Bool, true, false, not, ◌==◌, ◌||◌}
use Rattle.std.proofs.Common.{List, [], ◌∷◌, ◌++◌, length, None, Some, refl, ◌∙◌, ap, arith}
use Rattle.std.proofs.Common.{nat_lt, if◌then◌else◌}
use Rattle.std.proofs.lemmas.Bool.{eqb-true, ltb-true}
use Rattle.std.proofs.lemmas.List.Recursion.{is_count_by}
use Rattle.std.specs.List.{count_by}
use Rattle.std.specs.Prelude.{cond, pred}
use Rattle.ltp_session.specs.Engine.{closed_runs, is_closed}
use Rattle.ltp_session.specs.Step.{Change, stays, keeps, ends}
use Rattle.ltp_session.specs.Table.{AreAscending, ended, find, put, then_ended, then_kept, ticked}
use Rattle.ltp_session.specs.Table.{without}
use Rattle.ltp_laws.proofs.TableLemmas.{find_below}

-- ---- counting

-- how many pass a test
abbrev pub how_many : {X : Type 0} → (X → Bool) → List X → ℕ
how_many p [] = 0
how_many p (x ∷ xs) = cond (p x) (1 + how_many p xs) (how_many p xs)

pub count-is : {X : Type 0} (p : X → Bool) (xs : List X) → how_many p xs ≡ count_by p xs
count-is p xs = is_count_by (how_many p) p refl (λ x xs. refl) xs

-- whatever counts afterwards counted before
pub many-most : {X : Type 0} (p q : X → Bool) (xs : List X) → ((x : X) → p x ≡ true → q x ≡ true)
    → how_many p xs ≤ how_many q xs
many-most p q [] most = omega arith
many-most p q (x ∷ xs) most = by_tests (p x) refl (q x) refl (many-most p q xs most)
  where
    by_tests : (a : Bool) → p x ≡ a → (b : Bool) → q x ≡ b → how_many p xs ≤ how_many q xs
        → cond a (1 + how_many p xs) (how_many p xs) ≤ cond b (1 + how_many q xs) (how_many q xs)
    by_tests false is_a false is_b rest = rest
    by_tests false is_a true is_b rest = omega (arith, rest)
    by_tests true is_a true is_b rest = omega (arith, rest)
    by_tests true is_a false is_b rest = absurd (let h = most x is_a in cc)

-- ---- tables

-- one that is kept counts no more
pub many-less : {S : Type 0} (p q : ℕ → Bool) (n : ℕ) (es : List (ℕ × S)) (s : S)
    → ((m : ℕ) → p m ≡ true → q m ≡ true) → p n ≡ false → q n ≡ true → find n es ≡ Some s
    → how_many (λ e. p e.0) es < how_many (λ e. q e.0) es
unfolding find
many-less p q n [] s most not_p is_q kept = absurd (cc)
many-less p q n (e ∷ es) s most not_p is_q kept =
    by_test (e.0 == n) refl (many-less p q n es s most not_p is_q)
    (many-most (λ e. p e.0) (λ e. q e.0) es (λ e is. most e.0 is)) kept
  where
    by_rest : (a : Bool) → p e.0 ≡ a → (b : Bool) → q e.0 ≡ b
        → how_many (λ e. p e.0) es < how_many (λ e. q e.0) es
        → cond a (1 + how_many (λ e. p e.0) es) (how_many (λ e. p e.0) es)
        < cond b (1 + how_many (λ e. q e.0) es) (how_many (λ e. q e.0) es)
    by_rest false is_a false is_b rest = rest
    by_rest false is_a true is_b rest = omega (arith, rest)
    by_rest true is_a true is_b rest = omega (arith, rest)
    by_rest true is_a false is_b rest = absurd (let h = most e.0 is_a in cc)

    by_test : (same : Bool) → (e.0 == n) ≡ same
        → (find n es ≡ Some s → how_many (λ e. p e.0) es < how_many (λ e. q e.0) es)
        → how_many (λ e. p e.0) es ≤ how_many (λ e. q e.0) es
        → (if same then Some e.1 else find n es) ≡ Some s
        → cond (p e.0) (1 + how_many (λ e. p e.0) es) (how_many (λ e. p e.0) es)
        < cond (q e.0) (1 + how_many (λ e. q e.0) es) (how_many (λ e. q e.0) es)
    by_test true is_same rest all kept =
        let here : e.0 ≡ n = eqb-true e.0 n is_same in
        let no : p e.0 ≡ false = ap p here ∙ not_p in
        let yes : q e.0 ≡ true = ap q here ∙ is_q in
        rw (no, yes) (omega (arith, all))
    by_test false is_same rest all kept = by_rest (p e.0) refl (q e.0) refl (rest kept)

-- a new state of one that is kept changes no number
pub many-put : {S : Type 0} (p : ℕ → Bool) (n low : ℕ) (s s' : S) (es : List (ℕ × S))
    → AreAscending low es → find n es ≡ Some s
    → how_many (λ e. p e.0) (put n s' es) ≡ how_many (λ e. p e.0) es
unfolding find put
many-put p n low s s' [] ascending kept = absurd (cc)
many-put p n low s s' (e ∷ es) ascending kept =
    by_test (e.0 == n) refl (nat_lt n e.0) refl (many-put p n (e.0 + 1) s s' es ascending.1) kept
  where
    by_test : (same : Bool) → (e.0 == n) ≡ same → (less : Bool) → nat_lt n e.0 ≡ less
        → (find n es ≡ Some s → how_many (λ e. p e.0) (put n s' es) ≡ how_many (λ e. p e.0) es)
        → (if same then Some e.1 else find n es) ≡ Some s
        → how_many (λ e. p e.0) (if same then (n, s') ∷ es else if less then (n, s') ∷ (e ∷ es)
        else e ∷ put n s' es)
        ≡ cond (p e.0) (1 + how_many (λ e. p e.0) es) (how_many (λ e. p e.0) es)
    by_test true is_same less is_less rest kept = rw (eqb-true e.0 n is_same) refl
    by_test false is_same true is_less rest kept = absurd (
        let none : find n es ≡ None = find_below n (e.0 + 1) es
        (omega (arith, ltb-true n e.0 is_less)) ascending.1 in
        cc)
    by_test false is_same false is_less rest kept =
        ap (λ k. cond (p e.0) (1 + k) k) (rest kept)

pub length-put : {S : Type 0} (n low : ℕ) (s s' : S) (es : List (ℕ × S)) → AreAscending low es
    → find n es ≡ Some s → length (put n s' es) ≡ length es
unfolding find put
length-put n low s s' [] ascending kept = absurd (cc)
length-put n low s s' (e ∷ es) ascending kept =
    by_test (e.0 == n) (nat_lt n e.0) refl (length-put n (e.0 + 1) s s' es ascending.1) kept
  where
    by_test : (same less : Bool) → nat_lt n e.0 ≡ less
        → (find n es ≡ Some s → length (put n s' es) ≡ length es)
        → (if same then Some e.1 else find n es) ≡ Some s
        → length (if same then (n, s') ∷ es else if less then (n, s') ∷ (e ∷ es)
        else e ∷ put n s' es) ≡ suc (length es)
    by_test true less is_less rest kept = refl
    by_test false true is_less rest kept = absurd (
        let none : find n es ≡ None = find_below n (e.0 + 1) es
        (omega (arith, ltb-true n e.0 is_less)) ascending.1 in
        cc)
    by_test false false is_less rest kept = ap suc (rest kept)

pub length-put_new : {S : Type 0} (n : ℕ) (s : S) (es : List (ℕ × S))
    → length (put n s es) ≤ length es + 1
unfolding put
length-put_new n s [] = omega arith
length-put_new n s (e ∷ es) = by_test (e.0 == n) (nat_lt n e.0) (length-put_new n s es)
  where
    by_test : (same less : Bool) → length (put n s es) ≤ length es + 1
        → length (if same then (n, s) ∷ es else if less then (n, s) ∷ (e ∷ es) else e ∷ put n s
        es)
        ≤ suc (length es) + 1
    by_test true less rest = omega arith
    by_test false true rest = omega arith
    by_test false false rest = omega (arith, rest)

pub many-without : {S : Type 0} (p : ℕ → Bool) (n : ℕ) (es : List (ℕ × S))
    → how_many (λ e. p e.0) (without n es) ≤ how_many (λ e. p e.0) es
unfolding without
many-without p n [] = omega arith
many-without p n (e ∷ es) = by_test (e.0 == n) (p e.0) refl (many-without p n es)
  where
    by_test : (same b : Bool) → p e.0 ≡ b → how_many (λ e. p e.0) (without n es) ≤ how_many
        (λ e. p e.0) es
        → how_many (λ e. p e.0) (if same then without n es else e ∷ without n es)
        ≤ cond (p e.0) (1 + how_many (λ e. p e.0) es) (how_many (λ e. p e.0) es)
    by_test true true is rest = rw is (omega (arith, rest))
    by_test true false is rest = rw is rest
    by_test false true is rest = rw is (omega (arith, rest))
    by_test false false is rest = rw is rest

pub length-without : {S : Type 0} (n : ℕ) (es : List (ℕ × S)) → length (without n es) ≤ length es
unfolding without
length-without n [] = omega arith
length-without n (e ∷ es) = by_test (e.0 == n) (length-without n es)
  where
    by_test : (same : Bool) → length (without n es) ≤ length es
        → length (if same then without n es else e ∷ without n es) ≤ suc (length es)
    by_test true rest = omega (arith, rest)
    by_test false rest = omega (arith, rest)

pub length-without_kept : {S : Type 0} (n : ℕ) (es : List (ℕ × S)) (s : S) → find n es ≡ Some s
    → length (without n es) < length es
unfolding find without
length-without_kept n [] s kept = absurd (cc)
length-without_kept n (e ∷ es) s kept =
    by_test (e.0 == n) (length-without n es) (length-without_kept n es s) kept
  where
    by_test : (same : Bool) → length (without n es) ≤ length es
        → (find n es ≡ Some s → length (without n es) < length es)
        → (if same then Some e.1 else find n es) ≡ Some s
        → length (if same then without n es else e ∷ without n es) < suc (length es)
    by_test true most rest kept = omega (arith, most)
    by_test false most rest kept = omega (arith, rest kept)

-- ---- a tick

pub many-ticked : {S : Type 0} (p : ℕ → Bool) (change : S → Change S) (es : List (ℕ × S))
    → how_many (λ e. p e.0) (ticked change es) ≤ how_many (λ e. p e.0) es
unfolding ticked
many-ticked p change [] = omega arith
many-ticked p change (e ∷ es) = by_change (change e.1) (p e.0) refl (many-ticked p change es)
  where
    by_change : (c : Change _) (b : Bool) → p e.0 ≡ b
        → how_many (λ e. p e.0) (ticked change es) ≤ how_many (λ e. p e.0) es
        → how_many (λ e. p e.0) (then_kept e c (ticked change es))
        ≤ cond (p e.0) (1 + how_many (λ e. p e.0) es) (how_many (λ e. p e.0) es)
    by_change stays true is rest = rw is (omega (arith, rest))
    by_change stays false is rest = rw is rest
    by_change (keeps s) true is rest = rw is (omega (arith, rest))
    by_change (keeps s) false is rest = rw is rest
    by_change ends true is rest = rw is (omega (arith, rest))
    by_change ends false is rest = rw is rest

pub length-ticked : {S : Type 0} (change : S → Change S) (es : List (ℕ × S))
    → length (ticked change es) + length (ended change es) ≡ length es
unfolding ticked ended
length-ticked change [] = refl
length-ticked change (e ∷ es) = by_change (change e.1) (length-ticked change es)
  where
    by_change : (c : Change _) → length (ticked change es) + length (ended change es) ≡ length es
        → length (then_kept e c (ticked change es)) + length (then_ended e.0 c (ended change es))
        ≡ suc (length es)
    by_change stays rest = omega (arith, rest)
    by_change (keeps s) rest = omega (arith, rest)
    by_change ends rest = omega (arith, rest)

-- ---- closed numbers

begins_run : List ℕ → ℕ → Bool
begins_run closed n = (n == 0) || not (is_closed (pred n) closed)

pub runs-more : (n : ℕ) (closed : List ℕ) → closed_runs (n ∷ closed) ≤ closed_runs closed + 1
unfolding closed_runs begins_run
runs-more n closed =
    omega (
      arith,
      count-is (begins_run (n ∷ closed)) (n ∷ closed),
      count-is (begins_run closed) closed,
      many-most (begins_run (n ∷ closed)) (begins_run closed) closed still,
      first (begins_run (n ∷ closed) n),
    )
  where
    still : (m : ℕ) → begins_run (n ∷ closed) m ≡ true → begins_run closed m ≡ true
    still m is = by_tests (m == 0) (n == pred m) (is_closed (pred m) closed) is
      where
        by_tests : (a b c : Bool) → (a || not (b || c)) ≡ true → (a || not c) ≡ true
        by_tests true b c is = refl
        by_tests false true c is = absurd (cc)
        by_tests false false c is = is

    first : (b : Bool) → cond b (1 + how_many (begins_run (n ∷ closed)) closed)
        (how_many (begins_run (n ∷ closed)) closed)
        ≤ 1 + how_many (begins_run (n ∷ closed)) closed
    first true = omega arith
    first false = omega arith

pub runs-append : (ns closed : List ℕ) → closed_runs (ns ++ closed) ≤ length ns + closed_runs
    closed
runs-append [] closed = omega arith
runs-append (n ∷ ns) closed = omega (arith, runs-more n (ns ++ closed), runs-append ns closed)
