-- A list without the first of its elements that passes a test.
use Rattle.std.proofs.Common.{◌≡◌, ℕ, suc, ◌+◌, Bool, true, false, nat_lt, if◌then◌else◌, List, [], ◌∷◌, length, remove, refl, ap, arith}
use Rattle.std.proofs.lemmas.Bool.{lt-ltb, le-ltb, ltb-true, ltb-false}
use Rattle.std.specs.List.{position_or_len}
use Rattle.journal_file.specs.Keeping.{without_first}

-- the same by recursion
unfoldable pub drop_first : {A : Type 0} → (A → Bool) → List A → List A
drop_first test [] = []
drop_first test (x ∷ xs) = if test x then xs else x ∷ drop_first test xs

module _ {A : Type 0} where
  abbrev without_at : ℕ → List A → List A
  without_at k xs = if nat_lt k (length xs) then remove xs k else xs

  shifted : (k : ℕ) (x : A) (xs ys : List A) → without_at k xs ≡ ys → without_at (1 + k) (x ∷ xs) ≡ x ∷ ys
  shifted k x xs ys is = rw one (by (nat_lt k (length xs)) refl is)
    where
      one : 1 + k ≡ suc k
      one = omega arith

      by : (t : Bool) → nat_lt k (length xs) ≡ t → (if t then remove xs k else xs) ≡ ys → without_at (suc k) (x ∷ xs) ≡ x ∷ ys
      by true low rest =
          let inside : nat_lt (suc k) (suc (length xs)) ≡ true = lt-ltb (suc k) (suc (length xs)) (omega (arith, ltb-true k (length xs) low)) in
          rw inside (ap (λ (l : List A). x ∷ l) rest)
      by false high rest =
          let outside : nat_lt (suc k) (suc (length xs)) ≡ false = le-ltb (suc k) (suc (length xs)) (omega (arith, ltb-false k (length xs) high)) in
          rw outside (ap (λ (l : List A). x ∷ l) rest)

  pub drop_first-is : (test : A → Bool) (xs : List A) → without_first test xs ≡ drop_first test xs
  unfolding drop_first
  drop_first-is test [] = refl
  drop_first-is test (x ∷ xs) = by (test x) refl (drop_first-is test xs)
    where
      by : (t : Bool) → test x ≡ t → without_first test xs ≡ drop_first test xs → without_first test (x ∷ xs) ≡ (if t then xs else x ∷ drop_first test xs)
      by true is rest = let inside : nat_lt 0 (suc (length xs)) ≡ true = lt-ltb 0 (suc (length xs)) (omega arith) in rw (is, inside) refl
      by false is rest = rw is (shifted (position_or_len test xs) x xs (drop_first test xs) rest)
