-- Sessions in the order in which they were touched, and in ascending order of their numbers.

use Rattle.std.proofs.Common.{◌≡◌, ◌≢◌, ℕ, ◌+◌, ◌-◌, ◌<◌, ◌≤◌, Bool, true, false, ◌==◌, ◌||◌, nat_eq, nat_lt, nat_le, List, [], ◌∷◌, ◌++◌, length, suc, cond, remove, position, slice_get, Option, None, Some, is_some, min, refl, sym, ◌∙◌, ap, arith, subst, if◌then◌else◌, IsPermutation}
use Rattle.std.specs.List.{AllByRecursion, IsDistinct, list_any}
use Rattle.std.specs.List.Sorted.{IsSorted, IsNonDecreasing}
use Rattle.std.specs.Map.{lookup, lookup_key, set_value, remove_entry, keys_of}
use Rattle.std.specs.Option.{option_map}
use Rattle.std.proofs.lemmas.Option.{slice_get-map}
use Rattle.std.specs.Ordering.{nat_cmp}
use Rattle.std.specs.BTreeMap.{is_at}
use Rattle.std.proofs.Common.{get_or}
use Rattle.std.proofs.lemmas.Bool.{eqb-true, ne_eqb, eq-eqb}
use Rattle.std.proofs.lemmas.Bool.Decides.{nat_tests}
use Rattle.std.proofs.lemmas.Cmp.{nat_eq_equiv}
use Rattle.std.proofs.lemmas.List.{map-append, append-nil}
use Rattle.std.proofs.lemmas.List.Sorted.{IsNonDecreasingBy-from_sort, list_any-IsPermutation}
use Rattle.std.proofs.lemmas.Map.{lookup-set_value, lookup-remove_entry}
use Rattle.indexmap.specs.IndexMap.{move_index}
use Rattle.indexmap.proofs.MapLemmas.{Found-position, some_index, remove_entry-first, distinct_permutation}
use Rattle.indexmap.proofs.RemoveLemmas.{moved_last}
use Rattle.ltp_session.specs.Step.{Change, stays, keeps, ends}
use Rattle.ltp_session.specs.Receiver.{Receiving}
use Rattle.ltp_session.specs.Table.{find, put, without, AreAscending}
use Rattle.ltp_session.specs.Engine.{untouched, untouched_all, earlier, least_deadline}
use Rattle.ltp_laws.proofs.TableLemmas.{self_eqb, find_below, find-put, find-put_other, find-without, find-without_other, ascending-put, ascending-without}
use Rattle.ltp_engine.specs.Tables.{by_number, is_ended}
use Rattle.ltp_engine.specs.Inbound.{with_touched, then_last, numbers_after}
use Rattle.ltp_engine.proofs.TableLemmas.{at-number, earlier_assoc}

differ : {b : Bool} → b ≡ true → b ≡ false → ⊥
differ is also = cc

same-both : (a b : ℕ) → (a == b) ≡ (b == a)
same-both a b = by_test (b == a) refl where
  by_test : (same : Bool) → (b == a) ≡ same → (a == b) ≡ same
  by_test true is = eq-eqb a b (sym (eqb-true b a is))
  by_test false is = ne_eqb a b (λ h. differ (eq-eqb b a (sym h)) is)

-- ---- what is kept of a number

pub find-lookup : {S : Type 0} (n : ℕ) (t : List (ℕ × S)) → find n t ≡ lookup (nat_eq n) t
unfolding find
find-lookup n [] = refl
find-lookup {S = S} n (e ∷ t) = rw (same-both e.0 n) (by_test (n == e.0) (find-lookup n t)) where
  by_test : (same : Bool) → find n t ≡ lookup (nat_eq n) t → (if same then Some e.1 else find n t) ≡ cond same (Some e.1) (lookup (nat_eq n) t)
  by_test true rest = refl
  by_test false rest = rest

-- a query by order finds what one by equality finds
pub looked-up : {X : Type 0} (n : ℕ) (es : List (ℕ × X)) → lookup (is_at (nat_cmp n)) es ≡ lookup (nat_eq n) es
looked-up n [] = refl
looked-up {X = X} n (e ∷ es) = rw (at-number n e.0, same-both e.0 n) (by_test (n == e.0) (looked-up n es)) where
  by_test : (same : Bool) → lookup (is_at (nat_cmp n)) es ≡ lookup (nat_eq n) es
      → cond same (Some e.1) (lookup (is_at (nat_cmp n)) es) ≡ cond same (Some e.1) (lookup (nat_eq n) es)
  by_test true rest = refl
  by_test false rest = rest

pub found-first : {S : Type 0} (k : ℕ) (s : S) (t : List (ℕ × S)) → find k ((k, s) ∷ t) ≡ Some s
unfolding find
found-first k s t = rw (self_eqb k) refl

find-none : {S : Type 0} (k : ℕ) → find {S = S} k [] ≡ None
unfolding find
find-none k = refl

find-past : {S : Type 0} (n k : ℕ) (s : S) (t : List (ℕ × S)) → n ≢ k → find n ((k, s) ∷ t) ≡ find n t
unfolding find
find-past n k s t apart = rw (ne_eqb k n (λ h. apart (sym h))) refl

find-put_at : {S : Type 0} (n m : ℕ) (s : S) (t : List (ℕ × S)) → find m (put n s t) ≡ (if n == m then Some s else find m t)
find-put_at {S = S} n m s t = by_test (n == m) refl where
  by_test : (same : Bool) → (n == m) ≡ same → find m (put n s t) ≡ (if same then Some s else find m t)
  by_test true is = subst (λ k. find k (put n s t) ≡ Some s) (eqb-true n m is) (find-put n s t)
  by_test false is = find-put_other m n s t (λ h. differ (eq-eqb n m (sym h)) is)

find-without_at : {S : Type 0} (n m : ℕ) (t : List (ℕ × S)) → find m (without n t) ≡ (if n == m then None else find m t)
find-without_at {S = S} n m t = by_test (n == m) refl where
  by_test : (same : Bool) → (n == m) ≡ same → find m (without n t) ≡ (if same then None else find m t)
  by_test true is = subst (λ k. find k (without n t) ≡ None) (eqb-true n m is) (find-without n t)
  by_test false is = find-without_other m n t (λ h. differ (eq-eqb n m (sym h)) is)

find-removed : {S : Type 0} (n m : ℕ) (t : List (ℕ × S)) → IsDistinct nat_eq (keys_of t)
    → find m (remove_entry (nat_eq n) t) ≡ (if n == m then None else find m t)
find-removed n m t distinct =
    find-lookup m (remove_entry (nat_eq n) t) ∙ (lookup-remove_entry nat_eq_equiv (nat_eq n) (nat_eq_equiv.congr n) m t distinct
    ∙ ap (λ k. cond (nat_eq n m) None k) (sym (find-lookup m t)))

find-set : {S : Type 0} (n m : ℕ) (s r : S) (t : List (ℕ × S)) → find n t ≡ Some r
    → find m (set_value (nat_eq n) t s) ≡ (if n == m then Some s else find m t)
find-set n m s r t found =
    find-lookup m (set_value (nat_eq n) t s) ∙ (lookup-set_value nat_eq_equiv (nat_eq n) (nat_eq_equiv.congr n) m s t
    (ap (λ k. is_some k) (sym (find-lookup n t) ∙ found)) ∙ ap (λ k. cond (nat_eq n m) (Some s) k) (sym (find-lookup m t)))

pub find-set_here : {S : Type 0} (n : ℕ) (s r : S) (t : List (ℕ × S)) → find n t ≡ Some r → find n (set_value (nat_eq n) t s) ≡ Some s
find-set_here n s r t found = find-set n n s r t found ∙ rw (self_eqb n) refl

find-last : {S : Type 0} (n m : ℕ) (s : S) (t : List (ℕ × S)) → find n t ≡ None
    → find m (t ++ (n, s) ∷ []) ≡ (if n == m then Some s else find m t)
unfolding find
find-last n m s [] absent = refl
find-last {S = S} n m s (e ∷ t) absent = by_tests (e.0 == n) refl (e.0 == m) refl (n == m) refl absent (λ h. find-last n m s t h) where
  by_tests : (first : Bool) → (e.0 == n) ≡ first → (second : Bool) → (e.0 == m) ≡ second → (same : Bool) → (n == m) ≡ same
      → (if first then Some e.1 else find n t) ≡ None → (find n t ≡ None → find m (t ++ (n, s) ∷ []) ≡ (if n == m then Some s else find m t))
      → (if second then Some e.1 else find m (t ++ (n, s) ∷ [])) ≡ (if same then Some s else (if second then Some e.1 else find m t))
  by_tests true is_first second is_second same is_same absent rest = absurd (cc)
  by_tests false is_first true is_second true is_same absent rest =
      absurd (differ (eq-eqb e.0 n (eqb-true e.0 m is_second ∙ sym (eqb-true n m is_same))) is_first)
  by_tests false is_first true is_second false is_same absent rest = refl
  by_tests false is_first false is_second true is_same absent rest = rest absent ∙ rw is_same refl
  by_tests false is_first false is_second false is_same absent rest = rest absent ∙ rw is_same refl

-- ---- ascending tables that keep the same are the same

none-some : {S : Type 0} {o : Option S} {s : S} → o ≡ Some s → o ≡ None → ⊥
none-some is also = cc

pub same-table : {S : Type 0} (low : ℕ) (a b : List (ℕ × S)) → AreAscending low a → AreAscending low b → ((n : ℕ) → find n a ≡ find n b) → a ≡ b
same-table low [] [] up_a up_b same = refl
same-table low [] ((k, s) ∷ b) up_a up_b same = absurd (none-some (same k ∙ found-first k s b) (find-none k))
same-table low ((k, s) ∷ a) [] up_a up_b same = absurd (none-some (sym (same k) ∙ found-first k s a) (find-none k))
same-table {S = S} low ((k, s) ∷ a) ((m, r) ∷ b) up_a up_b same =
    by_order (nat_lt k m) refl (nat_lt m k) refl (λ up rest. same-table (k + 1) a b up_a.1 up rest) where
      by_order : (less : Bool) → nat_lt k m ≡ less → (more : Bool) → nat_lt m k ≡ more
          → (AreAscending (k + 1) b → ((n : ℕ) → find n a ≡ find n b) → a ≡ b) → (k, s) ∷ a ≡ (m, r) ∷ b
      by_order true is more is_more rest =
          let below : k < m = grind (arith, nat_tests) in
          absurd (none-some (sym (same k) ∙ found-first k s a) (find_below k m ((m, r) ∷ b) below (omega arith, up_b.1)))
      by_order false is true is_more rest =
          let below : m < k = grind (arith, nat_tests) in
          absurd (none-some (same m ∙ found-first m r b) (find_below m k ((k, s) ∷ a) below (omega arith, up_a.1)))
      by_order false is false is_more rest =
          let number : k ≡ m = grind (arith, nat_tests) in
          let up : AreAscending (k + 1) b = subst (λ n. AreAscending (n + 1) b) (sym number) up_b.1 in
          let state : Some s ≡ Some r = sym (found-first k s a) ∙ (same k ∙ (ap (λ n. find n ((m, r) ∷ b)) number ∙ found-first m r b)) in
          let tails : a ≡ b = rest up (λ n. after_it n number up) in
          cc where
            after_it : (n : ℕ) → k ≡ m → AreAscending (k + 1) b → find n a ≡ find n b
            after_it n number up = by_low (nat_le n k) refl where
              by_low : (low : Bool) → nat_le n k ≡ low → find n a ≡ find n b
              by_low true is =
                  let below : n < k + 1 = grind (arith, nat_tests) in
                  find_below n (k + 1) a below up_a.1 ∙ sym (find_below n (k + 1) b below up)
              by_low false is =
                  let above : n ≢ k = λ h. absurd (grind (arith, nat_tests)) in
                  sym (find-past n k s a above) ∙ (same n ∙ find-past n m r b (λ h. above (h ∙ sym number)))

-- ---- in ascending order

pub ascending-by_number : {S : Type 0} (t : List (ℕ × S)) → AreAscending 0 (by_number t)
unfolding by_number
ascending-by_number [] = tt
ascending-by_number (e ∷ t) = ascending-put e.0 0 e.1 (by_number t) (omega arith) (ascending-by_number t)

pub find-by_number : {S : Type 0} (n : ℕ) (t : List (ℕ × S)) → find n (by_number t) ≡ find n t
unfolding by_number
find-by_number n [] = refl
find-by_number {S = S} n ((k, s) ∷ t) = find-put_at k n s (by_number t) ∙ by_test (k == n) refl (find-by_number n t) where
  by_test : (same : Bool) → (k == n) ≡ same → find n (by_number t) ≡ find n t → (if same then Some s else find n (by_number t)) ≡ find n ((k, s) ∷ t)
  by_test true is rest = sym (subst (λ m. find m ((k, s) ∷ t) ≡ Some s) (eqb-true k n is) (found-first k s t))
  by_test false is rest = rest ∙ sym (find-past n k s t (λ h. differ (eq-eqb k n (sym h)) is))

by_number-is : {S : Type 0} (t u : List (ℕ × S)) → AreAscending 0 u → ((n : ℕ) → find n t ≡ find n u) → by_number t ≡ u
by_number-is t u up same = same-table 0 (by_number t) u (ascending-by_number t) up (λ n. find-by_number n t ∙ same n)

pub by_number-removed : {S : Type 0} (n : ℕ) (t : List (ℕ × S)) → IsDistinct nat_eq (keys_of t)
    → by_number (remove_entry (nat_eq n) t) ≡ without n (by_number t)
by_number-removed n t distinct =
    by_number-is (remove_entry (nat_eq n) t) (without n (by_number t)) (ascending-without n 0 (by_number t) (ascending-by_number t))
    (λ m. find-removed n m t distinct ∙ sym (find-without_at n m (by_number t) ∙ ap (λ k. if n == m then None else k) (find-by_number m t)))

pub by_number-set : {S : Type 0} (n : ℕ) (s r : S) (t : List (ℕ × S)) → find n t ≡ Some r
    → by_number (set_value (nat_eq n) t s) ≡ put n s (by_number t)
by_number-set n s r t found =
    by_number-is (set_value (nat_eq n) t s) (put n s (by_number t)) (ascending-put n 0 s (by_number t) (omega arith) (ascending-by_number t))
    (λ m. find-set n m s r t found ∙ sym (find-put_at n m s (by_number t) ∙ ap (λ k. if n == m then Some s else k) (find-by_number m t)))

pub by_number-last : {S : Type 0} (n : ℕ) (s : S) (t : List (ℕ × S)) → IsDistinct nat_eq (keys_of t)
    → by_number (remove_entry (nat_eq n) t ++ (n, s) ∷ []) ≡ put n s (by_number t)
by_number-last {S = S} n s t distinct =
    by_number-is (remove_entry (nat_eq n) t ++ (n, s) ∷ []) (put n s (by_number t)) (ascending-put n 0 s (by_number t) (omega arith) (ascending-by_number t))
    (λ m. find-last n m s (remove_entry (nat_eq n) t) gone ∙ (ap (λ k. if n == m then Some s else k) (find-removed n m t distinct)
    ∙ (by_test (n == m) (find m t) ∙ sym (find-put_at n m s (by_number t) ∙ ap (λ k. if n == m then Some s else k) (find-by_number m t))))) where
      gone : find n (remove_entry (nat_eq n) t) ≡ None
      gone = find-removed n n t distinct ∙ rw (self_eqb n) refl

      by_test : (same : Bool) (o : Option S) → (if same then Some s else (if same then None else o)) ≡ (if same then Some s else o)
      by_test true o = refl
      by_test false o = refl

-- ---- the numbers in order

untouched-absent : (n : ℕ) (ks : List ℕ) → AllByRecursion (λ k. nat_eq n k ≡ false) ks → untouched n ks ≡ ks
unfolding untouched
untouched-absent n [] absent = refl
untouched-absent n (k ∷ ks) absent = let rest = untouched-absent n ks absent.1 in rw (same-both k n, absent.0, rest) refl

pub keys-removed : {S : Type 0} (n : ℕ) (t : List (ℕ × S)) → IsDistinct nat_eq (keys_of t) → keys_of (remove_entry (nat_eq n) t) ≡ untouched n (keys_of t)
unfolding untouched IsDistinct
keys-removed n [] distinct = refl
keys-removed {S = S} n (e ∷ t) distinct = rw (same-both e.0 n) (by_test (n == e.0) refl (keys-removed n t distinct.1)) where
  by_test : (same : Bool) → (n == e.0) ≡ same → keys_of (remove_entry (nat_eq n) t) ≡ untouched n (keys_of t)
      → keys_of (cond same t (e ∷ remove_entry (nat_eq n) t)) ≡ (if same then untouched n (keys_of t) else e.0 ∷ untouched n (keys_of t))
  by_test true is rest = sym (untouched-absent n (keys_of t) (subst (λ k. AllByRecursion (λ m. nat_eq k m ≡ false) (keys_of t)) (sym (eqb-true n e.0 is)) distinct.0))
  by_test false is rest = ap (λ ks. e.0 ∷ ks) rest

pub keys-last : {S : Type 0} (n : ℕ) (s : S) (t : List (ℕ × S)) → IsDistinct nat_eq (keys_of t)
    → keys_of (remove_entry (nat_eq n) t ++ (n, s) ∷ []) ≡ untouched n (keys_of t) ++ n ∷ []
keys-last {S = S} n s t distinct =
    map-append (λ (e : ℕ × S). e.0) (remove_entry (nat_eq n) t) ((n, s) ∷ []) ∙ ap (λ ks. ks ++ n ∷ []) (keys-removed n t distinct)

pub removed-absent : {S : Type 0} (n : ℕ) (t : List (ℕ × S)) → find n t ≡ None → remove_entry (nat_eq n) t ≡ t
unfolding find
removed-absent n [] absent = refl
removed-absent {S = S} n (e ∷ t) absent = by_test (n == e.0) refl (subst (λ b. (if b then Some e.1 else find n t) ≡ None) (same-both e.0 n) absent) (λ h. removed-absent n t h) where
  by_test : (same : Bool) → (n == e.0) ≡ same → (if same then Some e.1 else find n t) ≡ None → (find n t ≡ None → remove_entry (nat_eq n) t ≡ t)
      → cond same t (e ∷ remove_entry (nat_eq n) t) ≡ e ∷ t
  by_test true is absent rest = absurd (cc)
  by_test false is absent rest = ap (λ es. e ∷ es) (rest absent)

-- a session is removed for good
pub remove-set : {X : Type 0} (n : ℕ) (w : X) (es : List (ℕ × X)) → remove_entry (nat_eq n) (set_value (nat_eq n) es w) ≡ remove_entry (nat_eq n) es
remove-set n w [] = refl
remove-set {X = X} n w (e ∷ es) = by_test (n == e.0) refl (remove-set n w es) where
  by_test : (same : Bool) → (n == e.0) ≡ same → remove_entry (nat_eq n) (set_value (nat_eq n) es w) ≡ remove_entry (nat_eq n) es
      → remove_entry (nat_eq n) (cond same ((e.0, w) ∷ es) (e ∷ set_value (nat_eq n) es w)) ≡ cond same es (e ∷ remove_entry (nat_eq n) es)
  by_test true is rest = rw is refl
  by_test false is rest = rw (is, rest) refl

-- the sessions that have a place in the order are those that are kept
pub order-of : {S : Type 0} (n : ℕ) (t : List (ℕ × S)) → list_any (λ m. m == n) (keys_of t) ≡ is_some (find n t)
unfolding find
order-of n [] = refl
order-of {S = S} n (e ∷ t) = by_test (e.0 == n) (order-of n t) where
  by_test : (same : Bool) → list_any (λ m. m == n) (keys_of t) ≡ is_some (find n t)
      → (same || list_any (λ m. m == n) (keys_of t)) ≡ is_some (if same then Some e.1 else find n t)
  by_test true rest = refl
  by_test false rest = rest

-- ---- how many there are

absent-first : {S : Type 0} (n : ℕ) (t : List (ℕ × S)) → AllByRecursion (λ k. nat_eq n k ≡ false) (keys_of t) → find n t ≡ None
unfolding find
absent-first n [] apart = refl
absent-first n (e ∷ t) apart = let rest = absent-first n t apart.1 in rw (same-both e.0 n, apart.0) rest

length-put_new : {S : Type 0} (n : ℕ) (s : S) (t : List (ℕ × S)) → find n t ≡ None → length (put n s t) ≡ suc (length t)
unfolding find put
length-put_new n s [] absent = refl
length-put_new {S = S} n s (e ∷ t) absent = by_tests (e.0 == n) (nat_lt n e.0) absent (λ h. length-put_new n s t h) where
  by_tests : (same less : Bool) → (if same then Some e.1 else find n t) ≡ None → (find n t ≡ None → length (put n s t) ≡ suc (length t))
      → length (if same then (n, s) ∷ t else if less then (n, s) ∷ (e ∷ t) else e ∷ put n s t) ≡ suc (length (e ∷ t))
  by_tests true less absent rest = absurd (cc)
  by_tests false true absent rest = refl
  by_tests false false absent rest = ap suc (rest absent)

absent-ordered : {S : Type 0} (e : ℕ × S) (t : List (ℕ × S)) → IsDistinct nat_eq (keys_of (e ∷ t)) → find e.0 (by_number t) ≡ None
unfolding IsDistinct
absent-ordered e t distinct = find-by_number e.0 t ∙ absent-first e.0 t distinct.0

pub length-by_number : {S : Type 0} (t : List (ℕ × S)) → IsDistinct nat_eq (keys_of t) → length (by_number t) ≡ length t
unfolding by_number IsDistinct
length-by_number [] distinct = refl
length-by_number (e ∷ t) distinct =
    let rest : length (by_number t) ≡ length t = length-by_number t distinct.1 in
    length-put_new e.0 e.1 (by_number t) (absent-ordered e t distinct) ∙ ap suc rest

-- ---- deadlines

earlier_both : (a b : Option ℕ) → earlier a b ≡ earlier b a
earlier_both None None = refl
earlier_both None (Some b) = refl
earlier_both (Some a) None = refl
earlier_both (Some a) (Some b) = ap (λ n. Some n) (min_both a b) where
  min_both : (a b : ℕ) → min a b ≡ min b a
  min_both a b = grind arith

least-put : {S : Type 0} (deadline : S → Option ℕ) (n : ℕ) (s : S) (t : List (ℕ × S)) → find n t ≡ None
    → least_deadline deadline (put n s t) ≡ earlier (deadline s) (least_deadline deadline t)
unfolding find put least_deadline
least-put deadline n s [] absent = refl
least-put {S = S} deadline n s (e ∷ t) absent = by_tests (e.0 == n) (nat_lt n e.0) absent (λ h. least-put deadline n s t h) where
  by_tests : (same less : Bool) → (if same then Some e.1 else find n t) ≡ None
      → (find n t ≡ None → least_deadline deadline (put n s t) ≡ earlier (deadline s) (least_deadline deadline t))
      → least_deadline deadline (if same then (n, s) ∷ t else if less then (n, s) ∷ (e ∷ t) else e ∷ put n s t)
      ≡ earlier (deadline s) (earlier (deadline e.1) (least_deadline deadline t))
  by_tests true less absent rest = absurd (cc)
  by_tests false true absent rest = refl
  by_tests false false absent rest =
      ap (λ d. earlier (deadline e.1) d) (rest absent) ∙ (earlier_assoc (deadline e.1) (deadline s) (least_deadline deadline t)
      ∙ (ap (λ d. earlier d (least_deadline deadline t)) (earlier_both (deadline e.1) (deadline s))
      ∙ sym (earlier_assoc (deadline s) (deadline e.1) (least_deadline deadline t))))

-- the least deadline is the same in any order
pub least-by_number : {S : Type 0} (deadline : S → Option ℕ) (t : List (ℕ × S)) → IsDistinct nat_eq (keys_of t)
    → least_deadline deadline (by_number t) ≡ least_deadline deadline t
unfolding by_number least_deadline IsDistinct
least-by_number deadline [] distinct = refl
least-by_number deadline (e ∷ t) distinct =
    let rest : least_deadline deadline (by_number t) ≡ least_deadline deadline t = least-by_number deadline t distinct.1 in
    least-put deadline e.0 e.1 (by_number t) (absent-ordered e t distinct) ∙ ap (λ d. earlier (deadline e.1) d) rest

-- ---- the numbers, sorted

abbrev units : List ℕ → List (ℕ × Unit {0})
units [] = []
units (x ∷ xs) = (x, tt) ∷ units xs

keys-units : (xs : List ℕ) → keys_of (units xs) ≡ xs
keys-units [] = refl
keys-units (x ∷ xs) = ap (λ ks. x ∷ ks) (keys-units xs)

find-units : (n : ℕ) (xs : List ℕ) → find n (units xs) ≡ (if list_any (λ m. m == n) xs then Some tt else None)
unfolding find
find-units n [] = refl
find-units n (x ∷ xs) = by_test (x == n) (find-units n xs) where
  by_test : (same : Bool) → find n (units xs) ≡ (if list_any (λ m. m == n) xs then Some tt else None)
      → (if same then Some tt else find n (units xs)) ≡ (if same || list_any (λ m. m == n) xs then Some tt else None)
  by_test true rest = refl
  by_test false rest = rest

ascending-units : {S : Type 0} (low : ℕ) (t : List (ℕ × S)) → AreAscending low t → AreAscending low (units (keys_of t))
ascending-units low [] up = tt
ascending-units low (e ∷ t) up = (up.0, ascending-units (e.0 + 1) t up.1)

all-above : (low : ℕ) (xs : List ℕ) → AllByRecursion (λ x. nat_eq low x ≡ false) xs → ((j d : ℕ) → j < length xs → low ≤ get_or xs j d)
    → AllByRecursion (λ x. low + 1 ≤ x) xs
all-above low [] apart above = tt
all-above low (x ∷ xs) apart above =
    (more low x apart.0 (above 0 x (omega arith)), all-above low xs apart.1 (λ j d within. above (suc j) d (omega arith))) where
      more : (low x : ℕ) → nat_eq low x ≡ false → low ≤ x → low + 1 ≤ x
      more low x apart le = grind (arith, nat_tests)

ascending-sorted_numbers : (low : ℕ) (xs : List ℕ) → AllByRecursion (λ x. low ≤ x) xs → IsNonDecreasing xs → IsDistinct nat_eq xs → AreAscending low (units xs)
unfolding IsDistinct
ascending-sorted_numbers low [] above up distinct = tt
ascending-sorted_numbers low (x ∷ xs) above up distinct = (
  above.0,
  ascending-sorted_numbers (x + 1) xs (all-above x xs distinct.0 (λ j d within. up 0 (suc j) d (omega arith) (omega arith)))
      (λ i j d le within. up (suc i) (suc j) d (omega arith) (omega arith)) distinct.1,
)

all-zero : (xs : List ℕ) → AllByRecursion (λ x. 0 ≤ x) xs
all-zero [] = tt
all-zero (x ∷ xs) = (omega arith, all-zero xs)

pub numbers-sorted : {S : Type 0} (t : List (ℕ × S)) (xs : List ℕ) → IsDistinct nat_eq (keys_of t) → IsPermutation (keys_of t) xs → IsSorted nat_cmp xs
    → xs ≡ keys_of (by_number t)
numbers-sorted {S = S} t xs distinct moves sorted =
    sym (keys-units xs) ∙ (ap (λ es. keys_of es) same ∙ keys-units (keys_of (by_number t))) where
      same : units xs ≡ units (keys_of (by_number t))
      same = same-table 0 (units xs) (units (keys_of (by_number t)))
          (ascending-sorted_numbers 0 xs (all-zero xs) (IsNonDecreasingBy-from_sort (λ x. x) xs sorted) (distinct_permutation nat_eq_equiv (keys_of t) xs moves distinct))
          (ascending-units 0 (by_number t) (ascending-by_number t))
          (λ n. find-units n xs ∙ (ap (λ b. if b then Some tt else None)
          (sym (list_any-IsPermutation (λ m. m == n) (keys_of t) xs moves) ∙ (order-of n t ∙ (ap (λ o. is_some o) (sym (find-by_number n t)) ∙ sym (order-of n (by_number t)))))
          ∙ sym (find-units n (keys_of (by_number t)))))

-- ---- touching

key-is : {X : Type 0} (n k : ℕ) (es : List (ℕ × X)) → lookup_key (nat_eq n) es ≡ Some k → n ≡ k
key-is n k [] found = absurd (cc)
key-is {X = X} n k (e ∷ es) found = by_test (n == e.0) refl found (λ h. key-is n k es h) where
  by_test : (same : Bool) → (n == e.0) ≡ same → cond same (Some e.0) (lookup_key (nat_eq n) es) ≡ Some k
      → (lookup_key (nat_eq n) es ≡ Some k → n ≡ k) → n ≡ k
  by_test true is found rest = let number : n ≡ e.0 = eqb-true n e.0 is in cc
  by_test false is found rest = rest found

-- the session at an index, moved to the end
pub touched-at : {X : Type 0} (n i to : ℕ) (es : List (ℕ × X)) → position (nat_eq n) (keys_of es) ≡ Some i → to + 1 ≡ length es
    → move_index es i to ≡ with_touched n es
touched-at {X = X} n i to es index last = by_entry (slice_get es i) refl where
  there : is_some (lookup (nat_eq n) es) ≡ true
  there = sym (some_index (nat_eq n) es) ∙ ap (λ o. is_some o) index

  value_at : (o : Option (ℕ × X)) → slice_get es i ≡ o → lookup (nat_eq n) es ≡ option_map (λ e. e.1) o
  value_at o is = (Found-position (nat_eq n) es i index).value ∙ (slice_get-map (λ (e : ℕ × X). e.1) es i ∙ ap (λ x. option_map (λ e. e.1) x) is)

  by_entry : (o : Option (ℕ × X)) → slice_get es i ≡ o → move_index es i to ≡ with_touched n es
  by_entry None is = absurd (differ there (ap (λ o. is_some o) (value_at None is)))
  by_entry (Some e) is =
      let number : n ≡ e.0 = key-is n e.0 es ((Found-position (nat_eq n) es i index).key ∙ (slice_get-map (λ (d : ℕ × X). d.0) es i ∙ ap (λ x. option_map (λ d. d.0) x) is)) in
      let place : to ≡ length es - 1 = omega (arith, last) in
      ap (λ k. move_index es i k) place ∙ (moved_last es i e is
      ∙ (ap (λ xs. xs ++ e ∷ []) (sym (remove_entry-first (nat_eq n) es i (Found-position (nat_eq n) es i index).first))
      ∙ (ap (λ k. remove_entry (nat_eq n) es ++ (k, e.1) ∷ []) (sym number) ∙ ap (λ o. then_last n o es) (sym (value_at (Some e) is)))))

-- ---- sessions end in turn

untouched-both : (a b : ℕ) (ks : List ℕ) → untouched a (untouched b ks) ≡ untouched b (untouched a ks)
unfolding untouched
untouched-both a b [] = refl
untouched-both a b (k ∷ ks) = by_tests (k == a) refl (k == b) refl (untouched-both a b ks) where
  by_tests : (first : Bool) → (k == a) ≡ first → (second : Bool) → (k == b) ≡ second → untouched a (untouched b ks) ≡ untouched b (untouched a ks)
      → untouched a (if second then untouched b ks else k ∷ untouched b ks) ≡ untouched b (if first then untouched a ks else k ∷ untouched a ks)
  by_tests true is_first true is_second rest = rest
  by_tests true is_first false is_second rest = rw is_first rest
  by_tests false is_first true is_second rest = rw is_second rest
  by_tests false is_first false is_second rest = rw (is_first, is_second, rest) refl

untouched-then : (n : ℕ) (over ks : List ℕ) → untouched n (untouched_all over ks) ≡ untouched_all (over ++ n ∷ []) ks
untouched-then n [] ks = refl
untouched-then n (m ∷ over) ks = untouched-both n m (untouched_all over ks) ∙ ap (λ x. untouched m x) (untouched-then n over ks)

pub numbers-step : (n : ℕ) (change : Change Receiving) (over : Bool) (ended now after_it all : List ℕ) → now ≡ untouched_all ended all
    → after_it ≡ numbers_after n change now → over ≡ is_ended change → after_it ≡ untouched_all (ended ++ (if over then n ∷ [] else [])) all
numbers-step n stays over ended now after_it all was is is_over = rw (is_over, append-nil ended) (is ∙ was)
numbers-step n (keeps r) over ended now after_it all was is is_over = rw (is_over, append-nil ended) (is ∙ was)
numbers-step n ends over ended now after_it all was is is_over = rw is_over (is ∙ (ap (λ x. untouched n x) was ∙ untouched-then n ended all))

-- ---- the session that is longest untouched

pub first-removed : {X : Type 0} (es : List (ℕ × X)) (e : ℕ × X) → slice_get es 0 ≡ Some e → remove es 0 ≡ remove_entry (nat_eq e.0) es
first-removed [] e is = absurd (cc)
first-removed ((k, x) ∷ es) e is = let first : e ≡ (k, x) = cc in rw (first, self_eqb k) refl
