-- Which ids are pending, before a record and after it.
use Rattle.std.proofs.Common.{◌≡◌, ℕ, suc, ◌+◌, ◌≤◌, ◌==◌, ◌||◌, Bool, true, false, nat_lt, if◌then◌else◌, List, [], ◌∷◌, ◌++◌, length, refl, sym, ap, ◌∙◌, arith}
use Rattle.std.proofs.lemmas.Bool.{lt-ltb, le-ltb, ltb-true, ltb-false, eqb-true}
use Rattle.std.specs.List.{list_any, position_or_len}
use Rattle.journal_file.specs.declared.kept.Pending.{Pending}
use Rattle.journal_file.specs.Keeping.{has_id, is_pending, without_first}
use Rattle.journal_file.specs.Legal.{AreUpTo}
use Rattle.journal_file.proofs.DropLemmas.{drop_first, drop_first-is}

module _ {A : Type 0} (test : A → Bool) where
  abbrev is_placed : ℕ → List A → Bool
  is_placed k xs = nat_lt k (length xs)

  shifted : (k : ℕ) (xs : List A) (x : A) → is_placed (1 + k) (x ∷ xs) ≡ is_placed k xs
  shifted k xs x = by (nat_lt k (length xs)) refl
    where
      by : (t : Bool) → nat_lt k (length xs) ≡ t → nat_lt (1 + k) (suc (length xs)) ≡ t
      by true low = lt-ltb (1 + k) (suc (length xs)) (omega (arith, ltb-true k (length xs) low))
      by false high = le-ltb (1 + k) (suc (length xs)) (omega (arith, ltb-false k (length xs) high))

  -- one passes where the first that does has a place
  placed-any : (xs : List A) → is_placed (position_or_len test xs) xs ≡ list_any test xs
  placed-any [] = refl
  placed-any (x ∷ xs) = by (test x) refl (placed-any xs)
    where
      by : (t : Bool) → test x ≡ t → is_placed (position_or_len test xs) xs ≡ list_any test xs
          → is_placed (position_or_len test (x ∷ xs)) (x ∷ xs) ≡ (t || list_any test xs)
      by true is rest = let first : nat_lt 0 (suc (length xs)) ≡ true = lt-ltb 0 (suc (length xs)) (omega arith) in rw (is, first) refl
      by false is rest = rw is (shifted (position_or_len test xs) xs x ∙ rest)

pub pending-any : (id : ℕ) (ps : List Pending) → is_pending id ps ≡ list_any (has_id id) ps
pending-any id ps = placed-any (has_id id) ps

abbrev either : Bool → Bool → Bool
either a b = a || b

either-right : (a : Bool) → either a true ≡ true
either-right true = refl
either-right false = refl

-- ---- an id that is pending was given

any-up-to : (n id : ℕ) (ps : List Pending) → AreUpTo n ps → list_any (has_id id) ps ≡ true → id ≤ n
any-up-to n id [] up any = absurd (cc)
any-up-to n id (p ∷ ps) (low, up) any = by (p.id == id) refl any (λ more. any-up-to n id ps up more)
  where
    by : (t : Bool) → (p.id == id) ≡ t → either t (list_any (has_id id) ps) ≡ true → (list_any (has_id id) ps ≡ true → id ≤ n) → id ≤ n
    by true is any rest = omega (arith, low, eqb-true p.id id is)
    by false is any rest = rest any

pub pending-up-to : (n id : ℕ) (ps : List Pending) → AreUpTo n ps → is_pending id ps ≡ true → id ≤ n
pending-up-to n id ps up pending = any-up-to n id ps up (sym (pending-any id ps) ∙ pending)

-- ---- after another ends

any-drop : (j id : ℕ) (ps : List Pending) → (id == j) ≡ false → list_any (has_id j) ps ≡ true → list_any (has_id j) (drop_first (has_id id) ps) ≡ true
unfolding drop_first
any-drop j id [] other any = any
any-drop j id (p ∷ ps) other any = by (p.id == id) refl (p.id == j) refl any (λ more. any-drop j id ps other more)
  where
    by : (t : Bool) → (p.id == id) ≡ t → (u : Bool) → (p.id == j) ≡ u → either u (list_any (has_id j) ps) ≡ true
        → (list_any (has_id j) ps ≡ true → list_any (has_id j) (drop_first (has_id id) ps) ≡ true)
        → list_any (has_id j) (if t then ps else p ∷ drop_first (has_id id) ps) ≡ true
    by true same true is any rest = let no : true ≡ false = sym is ∙ ap (λ (n : ℕ). n == j) (eqb-true p.id id same) ∙ other in absurd (cc)
    by true same false is any rest = any
    by false apart true is any rest = rw is refl
    by false apart false is any rest = rw is (rest any)

pub pending-other : (j id : ℕ) (ps : List Pending) → (id == j) ≡ false → is_pending j ps ≡ true → is_pending j (without_first (has_id id) ps) ≡ true
pending-other j id ps other pending =
    pending-any j (without_first (has_id id) ps)
    ∙ ap (λ (l : List Pending). list_any (has_id j) l) (drop_first-is (has_id id) ps)
    ∙ any-drop j id ps other (sym (pending-any j ps) ∙ pending)

-- ---- after one more begins

any-push : (j : ℕ) (p : Pending) (ps : List Pending) → list_any (has_id j) ps ≡ true → list_any (has_id j) (ps ++ p ∷ []) ≡ true
any-push j p [] any = absurd (cc)
any-push j p (q ∷ ps) any = by (q.id == j) any (λ more. any-push j p ps more)
  where
    by : (t : Bool) → either t (list_any (has_id j) ps) ≡ true → (list_any (has_id j) ps ≡ true → list_any (has_id j) (ps ++ p ∷ []) ≡ true)
        → either t (list_any (has_id j) (ps ++ p ∷ [])) ≡ true
    by true any rest = refl
    by false any rest = rest any

pub pending-push : (j : ℕ) (p : Pending) (ps : List Pending) → is_pending j ps ≡ true → is_pending j (ps ++ p ∷ []) ≡ true
pending-push j p ps pending = pending-any j (ps ++ p ∷ []) ∙ any-push j p ps (sym (pending-any j ps) ∙ pending)
