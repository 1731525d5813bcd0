-- Sessions in a map, and the table of their states.

use Rattle.std.proofs.Common.{◌≡◌, ℕ, ◌+◌, ◌<◌, ◌≤◌, Bool, true, false, not, ◌==◌, nat_lt, List, [], ◌∷◌, ◌++◌, map, Option, None, Some, is_some, refl, sym, ◌∙◌, ap, arith, subst, cond, Less, Equal, Greater, if◌then◌else◌}
use Rattle.std.specs.List.{AllByRecursion}
use Rattle.std.specs.Option.{option_map}
use Rattle.std.specs.Ordering.{is_eq, nat_cmp}
use Rattle.std.specs.BTreeMap.{is_at, insert_entry}
use Rattle.std.specs.Ordering.{match_ordering}
use Rattle.std.specs.Map.{lookup, set_value, remove_entry, keys_of, values_of}
use Rattle.std.specs.List.Sorted.{IsStrictlySortedBy}
use Rattle.std.proofs.Common.{suc, ◌^◌, length, min, append_assoc, append-nil}
use Rattle.std.proofs.lemmas.List.{map-append}
use Rattle.std.proofs.lemmas.Bool.{eqb-true, ne_eqb, eq-eqb}
use Rattle.std.proofs.lemmas.Bool.Decides.{nat_tests}
use Rattle.ltp_segment.specs.declared.session.Step.{Step}
use Rattle.ltp_segment.specs.Policy.{PolicyValue}
use Rattle.ltp_session.specs.Step.{Change, stays, keeps, ends, after, StepValue}
use Rattle.ltp_session.specs.Table.{find, put, without, settled, AreAscending, ticked, ended, then_kept, then_ended}
use Rattle.ltp_session.specs.Engine.{tick_segments, tick_remarks, list_of, earlier, least_deadline}
use Rattle.ltp_segment.specs.declared.session.Note.{Note}
use Rattle.ltp_segment.specs.Spelling.{segment_octets}
use Rattle.ltp_session.specs.Views.{headed_all}
use Rattle.ltp_session.specs.Views.{SessionValue, changed, answer_of}
use Rattle.ltp_segment.specs.Values.{SegmentValue}
use Rattle.ltp_engine.specs.declared.effects.Effects.{Effects}
use Rattle.ltp_engine.specs.Ticks.{with_ticks}
use Rattle.ltp_engine.specs.Effects.{with_sent}
use Rattle.ltp_engine.specs.Tables.{is_ended, table_of, live, live_entry, live_all, AreLive, Does, swept}
use Rattle.ltp_laws.proofs.TableLemmas.{self_eqb, find_below}

-- a query for a number finds the entries of that number
pub at-number : (n k : ℕ) → is_eq (nat_cmp n k) ≡ (k == n)
at-number n k = by_test (nat_lt n k) refl (n == k) refl where
  by_test : (less : Bool) → nat_lt n k ≡ less → (same : Bool) → (n == k) ≡ same → is_eq (cond less Less (cond same Equal Greater)) ≡ (k == n)
  by_test true is_less same is_same = sym (ne_eqb k n (λ e. absurd (grind (arith, nat_tests))))
  by_test false is_less true is_same = sym (eq-eqb k n (sym (eqb-true n k is_same)))
  by_test false is_less false is_same = sym (ne_eqb k n (λ e. absurd (grind (arith, nat_tests))))

pub table_of-live_all : {S : Type 0} (o : ℕ) (p : PolicyValue) (t : List (ℕ × S)) → table_of (live_all o p t) ≡ t
table_of-live_all o p [] = refl
table_of-live_all o p (e ∷ t) = ap (λ rest. e ∷ rest) (table_of-live_all o p t)

-- ---- ascending numbers

sorted-above : {S : Type 0} (o : ℕ) (p : PolicyValue) (low : ℕ) (t : List (ℕ × S))
    → AllByRecursion (λ k. nat_cmp low k ≡ Less) (keys_of (live_all o p t)) → AllByRecursion (λ k. low + 1 ≤ k) (keys_of (live_all o p t))
sorted-above o p low [] all = tt
sorted-above o p low (e ∷ t) all = (from_less (nat_lt low e.0) refl (low == e.0) all.0, sorted-above o p low t all.1) where
  from_less : (less : Bool) → nat_lt low e.0 ≡ less → (same : Bool) → cond less Less (cond same Equal Greater) ≡ Less → low + 1 ≤ e.0
  from_less true is same all = grind (arith, nat_tests)
  from_less false is true all = absurd (cc)
  from_less false is false all = absurd (cc)

ascending-from : {S : Type 0} (o : ℕ) (p : PolicyValue) (low : ℕ) (t : List (ℕ × S)) → AllByRecursion (λ k. low ≤ k) (keys_of (live_all o p t))
    → IsStrictlySortedBy nat_cmp (keys_of (live_all o p t)) → AreAscending low t
unfolding IsStrictlySortedBy
ascending-from o p low [] above sorted = tt
ascending-from o p low (e ∷ t) above sorted = (above.0, ascending-from o p (e.0 + 1) t (sorted-above o p e.0 t sorted.0) sorted.1)

all_above : (ks : List ℕ) → AllByRecursion (λ k. 0 ≤ k) ks
all_above [] = tt
all_above (k ∷ ks) = (omega arith, all_above ks)

pub ascending-sorted : {S : Type 0} (o : ℕ) (p : PolicyValue) (t : List (ℕ × S)) → IsStrictlySortedBy nat_cmp (keys_of (live_all o p t)) → AreAscending 0 t
ascending-sorted o p t sorted = ascending-from o p 0 t (all_above (keys_of (live_all o p t))) sorted

-- ---- what a map holds at a number

pub lookup-live_all : {S : Type 0} (o : ℕ) (p : PolicyValue) (n : ℕ) (t : List (ℕ × S)) → lookup (is_at (nat_cmp n)) (live_all o p t) ≡ option_map (live o p n) (find n t)
unfolding find
lookup-live_all o p n [] = refl
lookup-live_all o p n (e ∷ t) = rw (at-number n e.0) (by_test (e.0 == n) refl (lookup-live_all o p n t)) where
  by_test : (same : Bool) → (e.0 == n) ≡ same → lookup (is_at (nat_cmp n)) (live_all o p t) ≡ option_map (live o p n) (find n t)
      → cond same (Some (live o p e.0 e.1)) (lookup (is_at (nat_cmp n)) (live_all o p t)) ≡ option_map (live o p n) (if same then Some e.1 else find n t)
  by_test true is rest = ap (λ k. Some (live o p k e.1)) (eqb-true e.0 n is)
  by_test false is rest = rest

-- ---- changes

set-same : {S : Type 0} (o : ℕ) (p : PolicyValue) (n : ℕ) (s : S) (t : List (ℕ × S)) → find n t ≡ Some s
    → set_value (is_at (nat_cmp n)) (live_all o p t) (live o p n s) ≡ live_all o p t
unfolding find
set-same o p n s [] found = refl
set-same o p n s (e ∷ t) found = rw (at-number n e.0) (by_test (e.0 == n) refl found (λ h. set-same o p n s t h)) where
  by_test : (same : Bool) → (e.0 == n) ≡ same → (if same then Some e.1 else find n t) ≡ Some s
      → (find n t ≡ Some s → set_value (is_at (nat_cmp n)) (live_all o p t) (live o p n s) ≡ live_all o p t)
      → cond same ((e.0, live o p n s) ∷ live_all o p t) (live_entry o p e ∷ set_value (is_at (nat_cmp n)) (live_all o p t) (live o p n s)) ≡ live_entry o p e ∷ live_all o p t
  by_test true is found rest =
      let state : e.1 ≡ s = cc in
      let number : e.0 ≡ n = eqb-true e.0 n is in
      rw (sym state, number) refl
  by_test false is found rest = rw (rest found) refl

set-put : {S : Type 0} (o : ℕ) (p : PolicyValue) (n low : ℕ) (s r : S) (t : List (ℕ × S)) → find n t ≡ Some s → AreAscending low t
    → set_value (is_at (nat_cmp n)) (live_all o p t) (live o p n r) ≡ live_all o p (put n r t)
unfolding find put
set-put o p n low s r [] found up = absurd (cc)
set-put o p n low s r (e ∷ t) found up =
    rw (at-number n e.0) (by_test (e.0 == n) refl (nat_lt n e.0) refl found (λ h. set-put o p n (e.0 + 1) s r t h up.1)) where
      by_test : (same : Bool) → (e.0 == n) ≡ same → (less : Bool) → nat_lt n e.0 ≡ less → (if same then Some e.1 else find n t) ≡ Some s
          → (find n t ≡ Some s → set_value (is_at (nat_cmp n)) (live_all o p t) (live o p n r) ≡ live_all o p (put n r t))
          → cond same ((e.0, live o p n r) ∷ live_all o p t) (live_entry o p e ∷ set_value (is_at (nat_cmp n)) (live_all o p t) (live o p n r))
          ≡ live_all o p (if same then (n, r) ∷ t else if less then (n, r) ∷ (e ∷ t) else e ∷ put n r t)
      by_test true is less is_less found rest =
          let number : e.0 ≡ n = eqb-true e.0 n is in
          rw number refl
      by_test false is true is_less found rest =
          let none : find n t ≡ None = find_below n (e.0 + 1) t (grind (arith, nat_tests)) up.1 in
          absurd (cc)
      by_test false is false is_less found rest = rw (rest found) refl

without_below : {S : Type 0} (n low : ℕ) (t : List (ℕ × S)) → n < low → AreAscending low t → without n t ≡ t
unfolding without
without_below n low [] below up = refl
without_below n low (e ∷ t) below up =
    rw (ne_eqb e.0 n (λ h. absurd (omega (arith, h, up.0, below)))) (ap (λ rest. e ∷ rest) (without_below n (e.0 + 1) t (omega (arith, up.0, below)) up.1))

remove-without : {S : Type 0} (o : ℕ) (p : PolicyValue) (n low : ℕ) (v : SessionValue S) (t : List (ℕ × S)) → AreAscending low t
    → remove_entry (is_at (nat_cmp n)) (set_value (is_at (nat_cmp n)) (live_all o p t) v) ≡ live_all o p (without n t)
unfolding without
remove-without o p n low v [] up = refl
remove-without o p n low v (e ∷ t) up =
    rw (at-number n e.0) (by_test (e.0 == n) refl (remove-without o p n (e.0 + 1) v t up.1)) where
      by_test : (same : Bool) → (e.0 == n) ≡ same
          → remove_entry (is_at (nat_cmp n)) (set_value (is_at (nat_cmp n)) (live_all o p t) v) ≡ live_all o p (without n t)
          → remove_entry (is_at (nat_cmp n)) (cond same ((e.0, v) ∷ live_all o p t) (live_entry o p e ∷ set_value (is_at (nat_cmp n)) (live_all o p t) v))
          ≡ live_all o p (if same then without n t else e ∷ without n t)
      by_test true is rest =
          let gone : without n t ≡ t = without_below n (e.0 + 1) t (grind (arith, nat_tests)) up.1 in
          rw (at-number n e.0, is, gone) refl
      by_test false is rest = rw (at-number n e.0, is, rest) refl

-- a session changes, and is taken out where it is over
swept-changed : {S : Type 0} (o : ℕ) (p : PolicyValue) (n : ℕ) (s : S) (change : Change S) (t : List (ℕ × S)) → find n t ≡ Some s → AreAscending 0 t
    → swept n (not (is_some (after change (Some s)))) (set_value (is_at (nat_cmp n)) (live_all o p t) (changed (live o p n s) change)) ≡ live_all o p (settled n change t)
swept-changed o p n s stays t found up = set-same o p n s t found
swept-changed o p n s (keeps r) t found up = set-put o p n 0 s r t found up
swept-changed o p n s ends t found up = remove-without o p n 0 (changed (live o p n s) ends) t up

-- ---- a session of a map did a step

pub record Found {S : Type 0} (o : ℕ) (p : PolicyValue) (n : ℕ) (old : List (ℕ × SessionValue S)) (v : SessionValue S) : Type 0 where
  pub state : S
  pub is : v ≡ live o p n state
  pub found : find n (table_of old) ≡ Some state

pub found-live : {S : Type 0} (o : ℕ) (p : PolicyValue) (n : ℕ) (old : List (ℕ × SessionValue S)) (v : SessionValue S)
    → AreLive o p old → lookup (is_at (nat_cmp n)) old ≡ Some v → Found o p n old v
found-live {S = S} o p n old v are_live holds = by_kept (find n (table_of old)) refl where
  looked : lookup (is_at (nat_cmp n)) (live_all o p (table_of old)) ≡ Some v
  looked = subst (λ es. lookup (is_at (nat_cmp n)) es ≡ Some v) are_live holds

  by_kept : (kept : Option S) → find n (table_of old) ≡ kept → Found o p n old v
  by_kept None none = absurd (contradicts none) where
    contradicts : find n (table_of old) ≡ None → ⊥
    contradicts none = let h : option_map (live o p n) (find n (table_of old)) ≡ Some v = sym (lookup-live_all o p n (table_of old)) ∙ looked in cc
  by_kept (Some s) found = record {
    state = s;
    is = let h : option_map (live o p n) (find n (table_of old)) ≡ Some v = sym (lookup-live_all o p n (table_of old)) ∙ looked in cc;
    found = found;
  }

pub absent-live : {S : Type 0} (o : ℕ) (p : PolicyValue) (n : ℕ) (old : List (ℕ × SessionValue S))
    → AreLive o p old → lookup (is_at (nat_cmp n)) old ≡ None → find n (table_of old) ≡ None
absent-live {S = S} o p n old are_live holds = by_kept (find n (table_of old)) refl where
  looked : lookup (is_at (nat_cmp n)) (live_all o p (table_of old)) ≡ None
  looked = subst (λ es. lookup (is_at (nat_cmp n)) es ≡ None) are_live holds

  by_kept : (kept : Option S) → find n (table_of old) ≡ kept → find n (table_of old) ≡ None
  by_kept None none = none
  by_kept (Some s) found = absurd (contradicts found) where
    contradicts : find n (table_of old) ≡ Some s → ⊥
    contradicts found = let h : option_map (live o p n) (find n (table_of old)) ≡ None = sym (lookup-live_all o p n (table_of old)) ∙ looked in cc

pub whole-live : {S : Type 0} (o : ℕ) (p : PolicyValue) (n : ℕ) (old : List (ℕ × SessionValue S)) (v : SessionValue S)
    → AreLive o p old → lookup (is_at (nat_cmp n)) old ≡ Some v → v.spent ≡ false
whole-live o p n old v are_live holds = let f = found-live o p n old v are_live holds in rw f.is refl

pub does-kept : {S : Type 0} (o : ℕ) (p : PolicyValue) (n : ℕ) (f : PolicyValue → Option S → StepValue S) (old mid new : List (ℕ × SessionValue S))
    (v w : SessionValue S) (over : Bool) (told : Step) → AreLive o p old → lookup (is_at (nat_cmp n)) old ≡ Some v → IsStrictlySortedBy nat_cmp (keys_of old)
    → w ≡ changed v (f v.policy v.kept).next → told ≡ answer_of v.name (f v.policy v.kept) → over ≡ not (is_some w.kept)
    → mid ≡ set_value (is_at (nat_cmp n)) old w → new ≡ swept n over mid
    → Does o p n (f p (find n (table_of old))) old new told
does-kept {S = S} o p n f old mid new v w over told are_live holds sorted moved answered is_over written swept_is =
    let found = found-live o p n old v are_live holds in
    go found.state found.is found.found where
      go : (s : S) → v ≡ live o p n s → find n (table_of old) ≡ Some s → Does o p n (f p (find n (table_of old))) old new told
      go s is at =
          let up : AreAscending 0 (table_of old) = ascending-sorted o p (table_of old) (subst (λ es. IsStrictlySortedBy nat_cmp (keys_of es)) are_live sorted) in
          let to : w ≡ changed (live o p n s) (f p (Some s)).next = subst (λ x. w ≡ changed x (f x.policy x.kept).next) is moved in
          let said : told ≡ answer_of (record { originator = o; number = n }) (f p (Some s)) = subst (λ x. told ≡ answer_of x.name (f x.policy x.kept)) is answered in
          let ended : over ≡ not (is_some (after (f p (Some s)).next (Some s))) = subst (λ x. over ≡ not (is_some x.kept)) to is_over in
          let here : mid ≡ set_value (is_at (nat_cmp n)) (live_all o p (table_of old)) (changed (live o p n s) (f p (Some s)).next) =
          subst (λ es. mid ≡ set_value (is_at (nat_cmp n)) es (changed (live o p n s) (f p (Some s)).next)) are_live (subst (λ x. mid ≡ set_value (is_at (nat_cmp n)) old x) to written) in
          rw at (record {
            next = swept_is ∙ (ap (λ b. swept n b mid) ended ∙ (ap (λ es. swept n (not (is_some (after (f p (Some s)).next (Some s)))) es) here ∙ swept-changed o p n s (f p (Some s)).next (table_of old) at up));
            says = said;
          })

pub does-absent : {S : Type 0} (o : ℕ) (p : PolicyValue) (n : ℕ) (f : PolicyValue → Option S → StepValue S) (old new : List (ℕ × SessionValue S))
    (told : Step) → AreLive o p old → lookup (is_at (nat_cmp n)) old ≡ None → (f p None).next ≡ stays
    → new ≡ old → told ≡ answer_of (record { originator = o; number = n }) (f p None)
    → Does o p n (f p (find n (table_of old))) old new told
does-absent o p n f old new told are_live holds unmoved same answered =
    rw (absent-live o p n old are_live holds) (record { next = rw unmoved (same ∙ are_live); says = answered })

-- a session is put in
pub insert-live_all : {S : Type 0} (o : ℕ) (p : PolicyValue) (n : ℕ) (s : S) (t : List (ℕ × S)) → insert_entry nat_cmp (live_all o p t) n (live o p n s) ≡ live_all o p (put n s t)
unfolding put
insert-live_all o p n s [] = refl
insert-live_all o p n s (e ∷ t) = by_test (nat_lt n e.0) refl (n == e.0) refl (insert-live_all o p n s t) where
  by_test : (less : Bool) → nat_lt n e.0 ≡ less → (same : Bool) → (n == e.0) ≡ same
      → insert_entry nat_cmp (live_all o p t) n (live o p n s) ≡ live_all o p (put n s t)
      → match_ordering (cond less Less (cond same Equal Greater)) ((n, live o p n s) ∷ (live_entry o p e ∷ live_all o p t)) ((e.0, live o p n s) ∷ live_all o p t) (live_entry o p e ∷ insert_entry nat_cmp (live_all o p t) n (live o p n s))
      ≡ live_all o p (if e.0 == n then (n, s) ∷ t else if less then (n, s) ∷ (e ∷ t) else e ∷ put n s t)
  by_test true is_less same is_same rest = rw (ne_eqb e.0 n (λ h. absurd (grind (arith, nat_tests)))) refl
  by_test false is_less true is_same rest = let h : e.0 ≡ n = sym (eqb-true n e.0 is_same) in rw (eq-eqb e.0 n h, h) refl
  by_test false is_less false is_same rest = rw (ne_eqb e.0 n (λ h. absurd (grind (arith, nat_tests)))) (ap (λ es. live_entry o p e ∷ es) rest)

-- ---- whether a session is over after a step

over-ended : {S : Type 0} (s : S) (change : Change S) → not (is_some (after change (Some s))) ≡ is_ended change
over-ended s stays = refl
over-ended s (keeps r) = refl
over-ended s ends = refl

pub ended-absent : {S : Type 0} (o : ℕ) (p : PolicyValue) (n : ℕ) (f : PolicyValue → Option S → StepValue S) (old : List (ℕ × SessionValue S))
    → AreLive o p old → lookup (is_at (nat_cmp n)) old ≡ None → (f p None).next ≡ stays → false ≡ is_ended (f p (find n (table_of old))).next
ended-absent o p n f old are_live holds unmoved = rw (absent-live o p n old are_live holds, unmoved) refl

pub ended-kept : {S : Type 0} (o : ℕ) (p : PolicyValue) (n : ℕ) (f : PolicyValue → Option S → StepValue S) (old : List (ℕ × SessionValue S))
    (v w : SessionValue S) (over : Bool) → AreLive o p old → lookup (is_at (nat_cmp n)) old ≡ Some v
    → w ≡ changed v (f v.policy v.kept).next → over ≡ not (is_some w.kept) → over ≡ is_ended (f p (find n (table_of old))).next
ended-kept {S = S} o p n f old v w over are_live holds moved is_over =
    let found = found-live o p n old v are_live holds in
    go found.state found.is found.found where
      go : (s : S) → v ≡ live o p n s → find n (table_of old) ≡ Some s → over ≡ is_ended (f p (find n (table_of old))).next
      go s is at =
          let to : w ≡ changed (live o p n s) (f p (Some s)).next = subst (λ x. w ≡ changed x (f x.policy x.kept).next) is moved in
          let ended : over ≡ not (is_some (after (f p (Some s)).next (Some s))) = subst (λ x. over ≡ not (is_some x.kept)) to is_over in
          rw at (ended ∙ over-ended s (f p (Some s)).next)

pub keys_of-live_all : {S : Type 0} (o : ℕ) (p : PolicyValue) (t : List (ℕ × S)) → keys_of (live_all o p t) ≡ keys_of t
keys_of-live_all o p [] = refl
keys_of-live_all o p (e ∷ t) = ap (λ ks. e.0 ∷ ks) (keys_of-live_all o p t)

-- ---- all sessions tick

pub empty-list : {X : Type 0} (xs : List X) → length xs ≡ 0 → xs ≡ []
empty-list [] is = refl
empty-list (x ∷ xs) is = absurd (omega (arith, is))

with_ticks-is : (e told : Effects) (segments : List SegmentValue) (remarks : List Note) → told.ups ≡ e.ups → told.greens ≡ e.greens
    → told.out ≡ e.out ++ map segment_octets segments → told.notes ≡ e.notes ++ remarks → told ≡ with_ticks e segments remarks
with_ticks-is e told segments remarks ups greens out notes = rw (sym ups, sym greens, sym out, sym notes) refl

-- the sessions whose turn is past, and those whose turn is to come, of a table that ticks
pub record SoFar {S : Type 0} (o : ℕ) (tick : S → StepValue S) (all : List (ℕ × S)) (begun : Effects) (numbers : List ℕ) (table : List (ℕ × S))
    (told : Effects) (over : List ℕ) : Type 0 where
  pub past : List (ℕ × S)
  pub left : List (ℕ × S)
  pub numbers_are : numbers ≡ keys_of left
  pub table_is : table ≡ past ++ left
  pub goes_on : ticked (λ s. (tick s).next) all ≡ past ++ ticked (λ s. (tick s).next) left
  pub sends : begun.out ++ map segment_octets (tick_segments tick o all) ≡ told.out ++ map segment_octets (tick_segments tick o left)
  pub notes : begun.notes ++ tick_remarks tick all ≡ told.notes ++ tick_remarks tick left
  pub ups : told.ups ≡ begun.ups
  pub greens : told.greens ≡ begun.greens
  pub ends : ended (λ s. (tick s).next) all ≡ over ++ ended (λ s. (tick s).next) left

pub so_far-start : {S : Type 0} (o : ℕ) (tick : S → StepValue S) (table : List (ℕ × S)) (begun : Effects) (numbers over : List ℕ) → numbers ≡ keys_of table → over ≡ []
    → SoFar o tick table begun numbers table begun over
so_far-start o tick table begun numbers over are none = record {
  past = [];
  left = table;
  numbers_are = are;
  table_is = refl;
  goes_on = refl;
  sends = refl;
  notes = refl;
  ups = refl;
  greens = refl;
  ends = rw none refl;
}

above_all : {S : Type 0} (n low : ℕ) (s : S) (past left : List (ℕ × S)) → AreAscending low (past ++ (n, s) ∷ left) → low ≤ n
above_all n low s [] left up = up.0
above_all n low s (e ∷ past) left up = let above : e.0 + 1 ≤ n = above_all n (e.0 + 1) s past left up.1 in omega (arith, above, up.0)

put-past : {S : Type 0} (n low : ℕ) (s r : S) (past left : List (ℕ × S)) → AreAscending low (past ++ (n, s) ∷ left)
    → put n r (past ++ (n, s) ∷ left) ≡ past ++ (n, r) ∷ left
unfolding put
put-past n low s r [] left up = rw self_eqb refl
put-past n low s r (e ∷ past) left up =
    let above : e.0 + 1 ≤ n = above_all n (e.0 + 1) s past left up.1 in
    let apart : (e.0 == n) ≡ false = ne_eqb e.0 n (λ h. absurd (omega (arith, h, above))) in
    let after_it : nat_lt n e.0 ≡ false = not_below n e.0 above in
    rw (apart, after_it) (ap (λ t. e ∷ t) (put-past n (e.0 + 1) s r past left up.1)) where
      not_below : (n k : ℕ) → k + 1 ≤ n → nat_lt n k ≡ false
      not_below n k above = grind (arith, nat_tests)

without-past : {S : Type 0} (n low : ℕ) (s : S) (past left : List (ℕ × S)) → AreAscending low (past ++ (n, s) ∷ left)
    → without n (past ++ (n, s) ∷ left) ≡ past ++ left
unfolding without
without-past n low s [] left up = rw self_eqb (without_below n (n + 1) left (omega arith) up.1)
without-past n low s (e ∷ past) left up =
    let above : e.0 + 1 ≤ n = above_all n (e.0 + 1) s past left up.1 in
    let apart : (e.0 == n) ≡ false = ne_eqb e.0 n (λ h. absurd (omega (arith, h, above))) in
    rw apart (ap (λ t. e ∷ t) (without-past n (e.0 + 1) s past left up.1))

-- the session whose turn it is
find-past : {S : Type 0} (n low : ℕ) (s : S) (past left : List (ℕ × S)) → AreAscending low (past ++ (n, s) ∷ left) → find n (past ++ (n, s) ∷ left) ≡ Some s
unfolding find
find-past n low s [] left up = rw self_eqb refl
find-past n low s (e ∷ past) left up = rw (ne_eqb e.0 n (λ h. absurd (apart h))) (find-past n (e.0 + 1) s past left up.1) where
  apart : e.0 ≡ n → ⊥
  apart h = let above : e.0 + 1 ≤ n = above_all n (e.0 + 1) s past left up.1 in absurd (omega (arith, h, above))

settled-past : {S : Type 0} (n low : ℕ) (s : S) (change : Change S) (past left : List (ℕ × S)) → AreAscending low (past ++ (n, s) ∷ left)
    → settled n change (past ++ (n, s) ∷ left) ≡ past ++ then_kept (n, s) change left
settled-past n low s stays past left up = refl
settled-past n low s (keeps r) past left up = put-past n low s r past left up
settled-past n low s ends past left up = without-past n low s past left up

split-kept : {S : Type 0} (n : ℕ) (s : S) (change : Change S) (left : List (ℕ × S)) → then_kept (n, s) change left ≡ then_kept (n, s) change [] ++ left
split-kept n s stays left = refl
split-kept n s (keeps r) left = refl
split-kept n s ends left = refl

split-ended : {S : Type 0} (n : ℕ) (change : Change S) (numbers : List ℕ) → then_ended n change numbers ≡ (if is_ended change then n ∷ [] else []) ++ numbers
split-ended n stays numbers = refl
split-ended n (keeps r) numbers = refl
split-ended n ends numbers = refl

-- one more ticks
pub so_far-step : {S : Type 0} (o : ℕ) (tick : S → StepValue S) (f : Option S → StepValue S) (all : List (ℕ × S)) (begun : Effects) (n : ℕ) (turns numbers : List ℕ)
    (table moved : List (ℕ × S)) (told next : Effects) (over : List ℕ) (step : Step) → ((s : S) → f (Some s) ≡ tick s)
    → SoFar o tick all begun turns table told over → turns ≡ n ∷ numbers
    → AreAscending 0 table → moved ≡ settled n (f (find n table)).next table
    → step ≡ answer_of (record { originator = o; number = n }) (f (find n table)) → next ≡ with_sent told step.out step.note
    → SoFar o tick all begun numbers moved next (over ++ (if is_ended (f (find n table)).next then n ∷ [] else []))
unfolding ticked tick_segments tick_remarks ended
so_far-step {S = S} o tick f all begun n turns numbers table moved told next over step same so_far turn ascends moved_is says next_is =
    by_left so_far.past so_far.left (sym turn ∙ so_far.numbers_are) so_far.table_is so_far.goes_on so_far.sends so_far.notes so_far.ends where
      change : S → Change S
      change s = (tick s).next

      at_turn : (past left : List (ℕ × S)) (s : S) → numbers ≡ keys_of left → table ≡ past ++ (n, s) ∷ left
          → ticked change all ≡ past ++ ticked change ((n, s) ∷ left)
          → begun.out ++ map segment_octets (tick_segments tick o all) ≡ told.out ++ map segment_octets (tick_segments tick o ((n, s) ∷ left))
          → begun.notes ++ tick_remarks tick all ≡ told.notes ++ tick_remarks tick ((n, s) ∷ left)
          → ended change all ≡ over ++ ended change ((n, s) ∷ left)
          → SoFar o tick all begun numbers moved next (over ++ (if is_ended (f (find n table)).next then n ∷ [] else []))
      at_turn past left s numbers_are table_is goes_on sends notes ends_are =
          let up : AreAscending 0 (past ++ (n, s) ∷ left) = subst (λ t. AreAscending 0 t) table_is ascends in
          let found : find n table ≡ Some s = ap (λ t. find n t) table_is ∙ find-past n 0 s past left up in
          let does : f (find n table) ≡ tick s = ap f found ∙ same s in
          let said : step ≡ answer_of (record { originator = o; number = n }) (tick s) = says ∙ ap (λ x. answer_of (record { originator = o; number = n }) x) does in
          subst (λ e. SoFar o tick all begun numbers moved e (over ++ (if is_ended (f (find n table)).next then n ∷ [] else []))) (sym next_is) (record {
            past = past ++ then_kept (n, s) (tick s).next [];
            left = left;
            numbers_are = numbers_are;
            table_is = moved_is ∙ (ap (λ x. settled n x.next table) does ∙ (ap (λ t. settled n (tick s).next t) table_is
                ∙ (settled-past n 0 s (tick s).next past left up ∙ (ap (λ t. past ++ t) (split-kept n s (tick s).next left)
                ∙ sym (append_assoc past (then_kept (n, s) (tick s).next []) left)))));
            goes_on = goes_on ∙ (ap (λ t. past ++ t) (split-kept n s (tick s).next (ticked change left))
                ∙ sym (append_assoc past (then_kept (n, s) (tick s).next []) (ticked change left)));
            sends = sends ∙ (ap (λ x. told.out ++ x) (map-append segment_octets (headed_all (record { originator = o; number = n }) (tick s).out) (tick_segments tick o left)
                ∙ ap (λ x. x.out ++ map segment_octets (tick_segments tick o left)) (sym said))
                ∙ sym (append_assoc told.out step.out (map segment_octets (tick_segments tick o left))));
            notes = notes ∙ (ap (λ x. told.notes ++ (list_of x.note ++ tick_remarks tick left)) (sym said)
                ∙ sym (append_assoc told.notes (list_of step.note) (tick_remarks tick left)));
            ups = so_far.ups;
            greens = so_far.greens;
            ends = ends_are ∙ (ap (λ x. over ++ x) (split-ended n (tick s).next (ended change left)
                ∙ ap (λ x. (if is_ended x.next then n ∷ [] else []) ++ ended change left) (sym does))
                ∙ sym (append_assoc over (if is_ended (f (find n table)).next then n ∷ [] else []) (ended change left)));
          })

      by_left : (past left : List (ℕ × S)) → n ∷ numbers ≡ keys_of left → table ≡ past ++ left
          → ticked change all ≡ past ++ ticked change left
          → begun.out ++ map segment_octets (tick_segments tick o all) ≡ told.out ++ map segment_octets (tick_segments tick o left)
          → begun.notes ++ tick_remarks tick all ≡ told.notes ++ tick_remarks tick left
          → ended change all ≡ over ++ ended change left
          → SoFar o tick all begun numbers moved next (over ++ (if is_ended (f (find n table)).next then n ∷ [] else []))
      by_left past [] numbers_are table_is goes_on sends notes ends_are = absurd (cc)
      by_left past ((m, s) ∷ left) numbers_are table_is goes_on sends notes ends_are =
          let here : m ≡ n = cc in
          let rest : numbers ≡ keys_of left = cc in
          at_turn past left s rest (subst (λ k. table ≡ past ++ (k, s) ∷ left) here table_is)
          (subst (λ k. ticked change all ≡ past ++ ticked change ((k, s) ∷ left)) here goes_on)
          (subst (λ k. begun.out ++ map segment_octets (tick_segments tick o all) ≡ told.out ++ map segment_octets (tick_segments tick o ((k, s) ∷ left))) here sends)
          (subst (λ k. begun.notes ++ tick_remarks tick all ≡ told.notes ++ tick_remarks tick ((k, s) ∷ left)) here notes)
          (subst (λ k. ended change all ≡ over ++ ended change ((k, s) ∷ left)) here ends_are)

-- when no session is left
pub record Ticked {S : Type 0} (o : ℕ) (tick : S → StepValue S) (all : List (ℕ × S)) (begun : Effects) (table : List (ℕ × S)) (told : Effects) (over : List ℕ) : Type 0 where
  pub table_is : table ≡ ticked (λ s. (tick s).next) all
  pub told_is : told ≡ with_ticks begun (tick_segments tick o all) (tick_remarks tick all)
  pub ends : over ≡ ended (λ s. (tick s).next) all

pub so_far-end : {S : Type 0} (o : ℕ) (tick : S → StepValue S) (all : List (ℕ × S)) (begun : Effects) (numbers : List ℕ) (table : List (ℕ × S)) (told : Effects) (over : List ℕ)
    → SoFar o tick all begun numbers table told over → length numbers ≡ 0 → Ticked o tick all begun table told over
unfolding ticked tick_segments tick_remarks ended
so_far-end {S = S} o tick all begun numbers table told over so_far none =
    by_left so_far.left (sym (empty-list numbers none) ∙ so_far.numbers_are) so_far.table_is so_far.goes_on so_far.sends so_far.notes so_far.ends where
      by_left : (left : List (ℕ × S)) → [] ≡ keys_of left → table ≡ so_far.past ++ left
          → ticked (λ s. (tick s).next) all ≡ so_far.past ++ ticked (λ s. (tick s).next) left
          → begun.out ++ map segment_octets (tick_segments tick o all) ≡ told.out ++ map segment_octets (tick_segments tick o left)
          → begun.notes ++ tick_remarks tick all ≡ told.notes ++ tick_remarks tick left
          → ended (λ s. (tick s).next) all ≡ over ++ ended (λ s. (tick s).next) left → Ticked o tick all begun table told over
      by_left [] are table_is goes_on sends notes ends_are = record {
        table_is = table_is ∙ sym goes_on;
        told_is = with_ticks-is begun told (tick_segments tick o all) (tick_remarks tick all) so_far.ups so_far.greens
            (sym (append-nil told.out) ∙ sym sends) (sym (append-nil told.notes) ∙ sym notes);
        ends = sym (append-nil over) ∙ sym ends_are;
      }
      by_left (e ∷ left) are table_is goes_on sends notes ends_are = absurd (cc)

-- a table's sessions are live
pub live-table : {S : Type 0} (o : ℕ) (p : PolicyValue) (entries : List (ℕ × SessionValue S)) (t : List (ℕ × S)) → entries ≡ live_all o p t → AreLive o p entries
live-table o p entries t is = is ∙ ap (λ x. live_all o p x) (sym (ap (λ es. table_of es) is ∙ table_of-live_all o p t))

pub live-numbers : {S : Type 0} (o : ℕ) (p : PolicyValue) (entries : List (ℕ × SessionValue S)) (numbers : List ℕ) → AreLive o p entries → numbers ≡ keys_of entries
    → numbers ≡ keys_of (table_of entries)
live-numbers o p entries numbers are_live is = is ∙ (ap (λ es. keys_of es) are_live ∙ keys_of-live_all o p (table_of entries))

pub live-settled : {S : Type 0} (o : ℕ) (p : PolicyValue) (n : ℕ) (step : StepValue S) (old new : List (ℕ × SessionValue S)) (told : Step) → Does o p n step old new told
    → AreLive o p new × (table_of new ≡ settled n step.next (table_of old))
live-settled o p n step old new told does =
    (live-table o p new (settled n step.next (table_of old)) does.next, ap (λ es. table_of es) does.next ∙ table_of-live_all o p (settled n step.next (table_of old)))

pub live-sorted : {S : Type 0} (o : ℕ) (p : PolicyValue) (entries : List (ℕ × SessionValue S)) → AreLive o p entries → IsStrictlySortedBy nat_cmp (keys_of entries)
    → AreAscending 0 (table_of entries)
live-sorted o p entries are_live sorted = ascending-sorted o p (table_of entries) (subst (λ es. IsStrictlySortedBy nat_cmp (keys_of es)) are_live sorted)

-- ---- the least deadline

pub earlier_assoc : (a b c : Option ℕ) → earlier a (earlier b c) ≡ earlier (earlier a b) c
earlier_assoc None b c = refl
earlier_assoc (Some a) None c = refl
earlier_assoc (Some a) (Some b) None = refl
earlier_assoc (Some a) (Some b) (Some c) = ap (λ n. Some n) (min_assoc a b c) where
  min_assoc : (a b c : ℕ) → min a (min b c) ≡ min (min a b) c
  min_assoc a b c = grind arith

-- the least so far, and the sessions that are left
pub record LeastSoFar {S : Type 0} (o : ℕ) (p : PolicyValue) (deadline : S → Option ℕ) (all : List (ℕ × S)) (left : List (SessionValue S)) (least : Option ℕ) : Type 0 where
  pub rest : List (ℕ × S)
  pub left_is : left ≡ values_of (live_all o p rest)
  pub goes_on : least_deadline deadline all ≡ earlier least (least_deadline deadline rest)

pub least-start : {S : Type 0} (o : ℕ) (p : PolicyValue) (deadline : S → Option ℕ) (entries : List (ℕ × SessionValue S)) (left : List (SessionValue S))
    → AreLive o p entries → left ≡ values_of entries → LeastSoFar o p deadline (table_of entries) left None
least-start o p deadline entries left are_live is =
    record { rest = table_of entries; left_is = is ∙ ap (λ es. values_of es) are_live; goes_on = refl }

pub record LeastStep {S : Type 0} (o : ℕ) (p : PolicyValue) (deadline : S → Option ℕ) (all : List (ℕ × S)) (v : SessionValue S) (left : List (SessionValue S)) (least : Option ℕ) : Type 0 where
  pub state : S
  pub kept : v.kept ≡ Some state
  pub whole : v.spent ≡ false
  pub next : LeastSoFar o p deadline all left (earlier least (deadline state))

pub least-step : {S : Type 0} (o : ℕ) (p : PolicyValue) (deadline : S → Option ℕ) (all : List (ℕ × S)) (v : SessionValue S) (left : List (SessionValue S)) (least : Option ℕ)
    → LeastSoFar o p deadline all (v ∷ left) least → LeastStep o p deadline all v left least
unfolding least_deadline
least-step {S = S} o p deadline all v left least so_far = by_rest so_far.rest so_far.left_is so_far.goes_on where
  by_rest : (rest : List (ℕ × S)) → v ∷ left ≡ values_of (live_all o p rest) → least_deadline deadline all ≡ earlier least (least_deadline deadline rest)
      → LeastStep o p deadline all v left least
  by_rest [] is goes_on = absurd (cc)
  by_rest (e ∷ rest) is goes_on =
      let here : v ≡ live o p e.0 e.1 = cc in
      let after_it : left ≡ values_of (live_all o p rest) = cc in
      record {
        state = e.1;
        kept = ap (λ x. x.kept) here;
        whole = ap (λ x. x.spent) here;
        next = record { rest = rest; left_is = after_it; goes_on = goes_on ∙ earlier_assoc least (deadline e.1) (least_deadline deadline rest) };
      }

pub least-end : {S : Type 0} (o : ℕ) (p : PolicyValue) (deadline : S → Option ℕ) (all : List (ℕ × S)) (least : Option ℕ)
    → LeastSoFar o p deadline all [] least → least ≡ least_deadline deadline all
unfolding least_deadline
least-end {S = S} o p deadline all least so_far = by_rest so_far.rest so_far.left_is so_far.goes_on where
  by_rest : (rest : List (ℕ × S)) → [] ≡ values_of (live_all o p rest) → least_deadline deadline all ≡ earlier least (least_deadline deadline rest)
      → least ≡ least_deadline deadline all
  by_rest [] is goes_on = sym (goes_on ∙ last least) where
    last : (o : Option ℕ) → earlier o None ≡ o
    last None = refl
    last (Some n) = refl
  by_rest (e ∷ rest) is goes_on = absurd (cc)

-- ---- there is room to close those that are over

length-then_ended : {S : Type 0} (n : ℕ) (change : Change S) (numbers : List ℕ) (m : ℕ) → length numbers ≤ m → length (then_ended n change numbers) ≤ suc m
length-then_ended n stays numbers m few = omega (arith, few)
length-then_ended n (keeps s) numbers m few = omega (arith, few)
length-then_ended n ends numbers m few = omega (arith, few)

length-ended : {S : Type 0} (change : S → Change S) (t : List (ℕ × S)) → length (ended change t) ≤ length t
unfolding ended
length-ended change [] = omega arith
length-ended change (e ∷ t) = let few : length (ended change t) ≤ length t = length-ended change t in length-then_ended e.0 (change e.1) (ended change t) (length t) few

pub room-ended : {S : Type 0} (change : S → Change S) (table : List (ℕ × S)) (over : List ℕ) (runs now_runs : ℕ)
    → over ≡ ended change table → now_runs ≡ runs → runs + length table < 2 ^ 32 → now_runs + length over < 2 ^ 32
room-ended change table over runs now_runs is same room =
    let few : length (ended change table) ≤ length table = length-ended change table in
    let much : length over ≡ length (ended change table) = ap (λ ns. length ns) is in
    omega (arith, few, much, same, room)
