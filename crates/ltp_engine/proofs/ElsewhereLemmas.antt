-- Closed numbers that are kept outside an engine.

use Rattle.std.proofs.Common.{◌≡◌, ◌≢◌, ℕ, suc, zero, ◌+◌, ◌-◌, ◌<◌, ◌≤◌, Bool, true, false, nat_eq, nat_le, List, [], ◌∷◌, ◌++◌, length, Option, None, Some, is_some, ◌==◌, ◌&&◌, ◌||◌, refl, sym, ◌∙◌, ap, subst, arith, inl, inr}
use Rattle.std.specs.List.{AllByRecursion, IsDistinct, flat_map, range_with_len}
use Rattle.std.specs.Map.{keys_of, lookup, remove_entry}
use Rattle.std.specs.Prelude.{slice_get}
use Rattle.std.proofs.lemmas.List.Folds.{list_any-append}
use Rattle.std.proofs.lemmas.Bool.{ne_eqb, cases_lt}
use Rattle.std.proofs.lemmas.Bool.Decides.{nat_tests}
use Rattle.std.proofs.lemmas.List.{get_or_past, append_assoc, append-nil}
use Rattle.spans.specs.declared.range.Run.{Run}
use Rattle.spans.specs.Places.{is_covered, is_in, runs_of}
use Rattle.spans.specs.Runs.{AreApart, has_place}
use Rattle.spans.proofs.PlaceLaws.{runs_of-has, runs_of-apart, nothing_is_covered}
use Rattle.spans.proofs.Covering.{is_in-true, is_in-false, has_place-far}
use Rattle.spans.proofs.Places.{length-uncovered}
use Rattle.ltp_segment.specs.Policy.{PolicyValue}
use Rattle.ltp_session.specs.Step.{ends}
use Rattle.ltp_session.specs.Receiver.{Receiving}
use Rattle.ltp_session.specs.Sender.{Sending}
use Rattle.ltp_session.specs.Table.{find, without}
use Rattle.ltp_session.specs.Engine.{Party, is_closed, longest_untouched}
use Rattle.ltp_session.specs.Views.{SessionValue}
use Rattle.ltp_engine.specs.declared.closed.TheConstants.{LAST}
use Rattle.ltp_engine.specs.declared.inbound.Inbound.{Inbound}
use Rattle.ltp_engine.specs.Closed.{ClosedValue, is_among, also_closed, none_closed}
use Rattle.ltp_engine.specs.Values.{InboundValue}
use Rattle.ltp_engine.specs.Shows.{AreDistinct}
use Rattle.ltp_engine.specs.Sessions.{is_receiving, IsTouchOrder}
use Rattle.ltp_engine.specs.Bounds.{IsInboundSound, ReceivesAtMost}
use Rattle.ltp_engine.specs.Tables.{AreLive, table_of}
use Rattle.ltp_engine.specs.Inbound.{inbound_of, Keeps, settled_in, evicted_in}
use Rattle.ltp_engine.specs.Ties.{made_of, AreWhole}
use Rattle.ltp_engine.specs.Elsewhere.{released, reopened, numbers_in, last_number, closed_numbers}
use Rattle.ltp_laws.proofs.TableLemmas.{self_eqb, find-without, find-without_other, ascending-without}
use Rattle.ltp_engine.proofs.KeepLemmas.{length-without}
use Rattle.ltp_engine.proofs.TableLemmas.{found-live}
use Rattle.ltp_engine.proofs.OrderLemmas.{looked-up, find-by_number, order-of}
use Rattle.ltp_engine.proofs.KeptLemmas.{told-unreceived}
use Rattle.ltp_engine.proofs.ChangeLemmas.{live-of}
use Rattle.ltp_engine.proofs.BlockLemmas.{all-settled}
use Rattle.ltp_engine.proofs.InboundLemmas.{ended-live, room-made}

-- ---- what stays so

still-without : (n m : ℕ) (t : List (ℕ × Receiving)) → is_some (find m (without n t)) ≡ true → is_some (find m t) ≡ true
still-without n m t holds = ap (λ x. is_some x) (sym (find-without_other m n t apart)) ∙ holds where
  apart : m ≢ n
  apart e = differ (ap (λ x. is_some x) (subst (λ k. find k (without n t) ≡ None) (sym e) (find-without n t))) holds where
    differ : {b : Bool} → b ≡ false → b ≡ true → ⊥
    differ is also = cc

pub sound-released : (p : Party) (i : InboundValue) (n : ℕ) → IsInboundSound p i → IsInboundSound p (released n i)
sound-released p i n sound = record {
  receivers = omega (arith, fewer, sound.receivers);
  history = omega (arith, fewer, sound.history);
  unclosed = λ m holds. sound.unclosed m (still-without n m i.receivers holds);
  range = λ m holds. sound.range m (still-without n m i.receivers holds);
  limit = sound.limit;
  ascending = ascending-without n 0 i.receivers sound.ascending;
} where
  fewer : length (without n i.receivers) ≤ length i.receivers
  fewer = length-without n i.receivers

pub sound-reopened : (p : Party) (i : InboundValue) → IsInboundSound p i → IsInboundSound p (reopened i)
sound-reopened p i sound = record {
  receivers = sound.receivers;
  history = omega (arith, sound.history);
  unclosed = λ m holds. rw ((nothing_is_covered LAST).0 m) refl;
  range = sound.range;
  limit = length-uncovered LAST;
  ascending = sound.ascending;
}

pub whole-with : (p : Party) (next : ℕ) (senders : List (ℕ × SessionValue Sending)) (old new : Inbound) (v : InboundValue) → AreWhole p next senders old
    → Keeps p.peer p.policy new v → IsInboundSound p v → AllByRecursion (ReceivesAtMost p.most) v.receivers → AreWhole p next senders new
whole-with p next senders old new v whole keep sound all = record {
  own = whole.own;
  others = keep.live;
  sound = record {
    some = (whole.sound).some;
    countable = (whole.sound).countable;
    begun = (whole.sound).begun;
    numbers = (whole.sound).numbers;
    senders = (whole.sound).senders;
    ascending = (whole.sound).ascending;
    inbound = subst (IsInboundSound p) (sym keep.is) sound;
    sent = (whole.sound).sent;
    received = subst (λ i. AllByRecursion (ReceivesAtMost p.most) i.receivers) (sym keep.is) all;
  };
}

pub value-with : (p : Party) (next : ℕ) (senders : List (ℕ × SessionValue Sending)) (old new : Inbound) (v : InboundValue) → Keeps p.peer p.policy new v
    → made_of false p next senders new ≡ record (made_of false p next senders old) { inbound = v }
value-with p next senders old new v keep = rw keep.is refl

-- ---- what is told of the sessions

-- a map holds a number exactly where its session is kept
pub held-kept : (o : ℕ) (p : PolicyValue) (n : ℕ) (i : Inbound) (b : Bool) → AreLive o p i.receivers.entries → b ≡ is_some (lookup (nat_eq n) i.receivers.entries)
    → b ≡ is_receiving n (inbound_of i).receivers
held-kept o p n i b are_live is = is ∙ by_held (lookup (nat_eq n) i.receivers.entries) refl where
  by_held : (held : Option (SessionValue Receiving)) → lookup (nat_eq n) i.receivers.entries ≡ held → is_some held ≡ is_receiving n (inbound_of i).receivers
  by_held None none = told-unreceived o p n i.receivers.entries (λ kept. is_some kept) are_live none
  by_held (Some v) some =
      let found = found-live o p n i.receivers.entries v are_live (looked-up n i.receivers.entries ∙ some) in
      sym (ap (λ kept. is_some kept) (find-by_number n (table_of i.receivers.entries) ∙ found.found))

pub first-none : (i : Inbound) → None ≡ slice_get i.receivers.entries 0 → None ≡ longest_untouched (inbound_of i).touched (inbound_of i).receivers
first-none i none = by_entries i.receivers.entries none where
  by_entries : (es : List (ℕ × SessionValue Receiving)) → None ≡ slice_get es 0 → None ≡ longest_untouched (keys_of es) (inbound_of i).receivers
  by_entries [] none = refl
  by_entries (e ∷ es) none = absurd (cc)

-- where one has to go, it is the first
evicted-first : (i : InboundValue) → evicted_in 0 i ≡ longest_untouched i.touched i.receivers
unfolding evicted_in
evicted-first i = rw (many (length i.receivers)) refl where
  many : (n : ℕ) → nat_le 0 n ≡ true
  many n = grind (arith, nat_tests)

pub first-some : (o : ℕ) (p : PolicyValue) (i : Inbound) (e : ℕ × SessionValue Receiving) → AreLive o p i.receivers.entries → IsDistinct nat_eq (keys_of i.receivers.entries)
    → Some e ≡ slice_get i.receivers.entries 0 → Some e.0 ≡ longest_untouched (inbound_of i).touched (inbound_of i).receivers
first-some o p i e are_live distinct first = room-made 0 o p i (length i.receivers.entries) e are_live distinct refl (omega arith) (sym first) ∙ evicted-first (inbound_of i)

distinct-numbers : (ns : List ℕ) → IsDistinct nat_eq ns → AreDistinct ns
unfolding IsDistinct
distinct-numbers [] distinct = tt
distinct-numbers (n ∷ ns) distinct = (apart ns distinct.0, distinct-numbers ns distinct.1) where
  apart : (ms : List ℕ) → AllByRecursion (λ k. nat_eq n k ≡ false) ms → is_closed n ms ≡ false
  apart [] all = refl
  apart (m ∷ ms) all = rw (flipped m all.0) (apart ms all.1) where
    flipped : (m : ℕ) → nat_eq n m ≡ false → (m == n) ≡ false
    flipped m is = grind (arith, nat_tests)

pub touch-order : (o : ℕ) (p : PolicyValue) (i : Inbound) → AreLive o p i.receivers.entries → IsDistinct nat_eq (keys_of i.receivers.entries)
    → IsTouchOrder (inbound_of i).touched (inbound_of i).receivers
touch-order o p i are_live distinct = record {
  once = distinct-numbers (keys_of i.receivers.entries) distinct;
  kept = λ n. ap (λ ks. is_closed n ks) (live-of o p i.receivers.entries (table_of i.receivers.entries) are_live).numbers
      ∙ (order-of n (table_of i.receivers.entries) ∙ ap (λ kept. is_some kept) (sym (find-by_number n (table_of i.receivers.entries))));
}

-- ---- a session is let go

pub released-live : (o : ℕ) (p : PolicyValue) (n : ℕ) (old new : Inbound) → AreLive o p old.receivers.entries → IsDistinct nat_eq (keys_of old.receivers.entries)
    → new.receivers.entries ≡ remove_entry (nat_eq n) old.receivers.entries → new.closed ≡ old.closed → Keeps o p new (released n (inbound_of old))
released-live o p n old new are_live distinct removed same =
    let closing : Inbound = record new { closed = also_closed n old.closed } in
    let keep : Keeps o p closing (settled_in (inbound_of old) n ends) = ended-live o p n old closing are_live distinct removed refl in
    record {
      live = keep.live;
      is = rw same (ap (λ (v : InboundValue). record v { closed = old.closed }) keep.is);
    }

pub whole-released : (p : Party) (next n : ℕ) (senders : List (ℕ × SessionValue Sending)) (old new : Inbound) → AreWhole p next senders old
    → Keeps p.peer p.policy new (released n (inbound_of old)) → AreWhole p next senders new
whole-released p next n senders old new whole keep =
    whole-with p next senders old new (released n (inbound_of old)) whole keep (sound-released p (inbound_of old) n (whole.sound).inbound)
    (all-settled (ReceivesAtMost p.most) n ends (inbound_of old).receivers (whole.sound).received tt)

-- ---- no number is closed

pub reopened-live : (o : ℕ) (p : PolicyValue) (old new : Inbound) → AreLive o p old.receivers.entries → new.receivers.entries ≡ old.receivers.entries
    → new.closed ≡ none_closed → Keeps o p new (reopened (inbound_of old))
reopened-live o p old new are_live same none = record { live = subst (AreLive o p) (sym same) are_live; is = rw (same, none) refl }

pub whole-reopened : (p : Party) (next : ℕ) (senders : List (ℕ × SessionValue Sending)) (old new : Inbound) → AreWhole p next senders old
    → Keeps p.peer p.policy new (reopened (inbound_of old)) → AreWhole p next senders new
whole-reopened p next senders old new whole keep =
    whole-with p next senders old new (reopened (inbound_of old)) whole keep (sound-reopened p (inbound_of old) (whole.sound).inbound) (whole.sound).received

-- ---- the closed numbers

-- those of a run from one on: that one, and the others
pub range-more : (n to : ℕ) → n < to → range_with_len n (to - n) ≡ n ∷ range_with_len (n + 1) (to - (n + 1))
range-more n to below = let next : to - n ≡ suc (to - (n + 1)) = omega (arith, below) in ap (range_with_len n) next

pub range-end : (n to : ℕ) → to ≤ n → range_with_len n (to - n) ≡ []
range-end n to past = let none : to - n ≡ 0 = omega (arith, past) in ap (range_with_len n) none

-- one more of a run
pub adding-more : (before now all : List ℕ) (n to : ℕ) → now ≡ before ++ n ∷ [] → n < to → before ++ range_with_len n (to - n) ≡ all → now ++ range_with_len (n + 1) (to - (n + 1)) ≡ all
adding-more before now all n to is below goes_on = ap (λ ns. ns ++ range_with_len (n + 1) (to - (n + 1))) is
    ∙ (append_assoc before (n ∷ []) (range_with_len (n + 1) (to - (n + 1))) ∙ (ap (λ ns. before ++ ns) (sym (range-more n to below)) ∙ goes_on))

pub adding-end : (now all : List ℕ) (n to : ℕ) → to ≤ n → now ++ range_with_len n (to - n) ≡ all → now ≡ all
adding-end now all n to past goes_on = sym (append-nil now) ∙ (ap (λ ns. now ++ ns) (sym (range-end n to past)) ∙ goes_on)

closed-range : (k a n : ℕ) → is_closed k (range_with_len a n) ≡ is_in a (a + n) k
closed-range k a zero = sym (is_in-false a (a + 0) k (λ from to. omega (arith, from, to)))
closed-range k a (suc n) = by_rest (closed-range k (a + 1) n) where
  by_rest : is_closed k (range_with_len (a + 1) n) ≡ is_in (a + 1) (a + 1 + n) k → ((a == k) || is_closed k (range_with_len (a + 1) n)) ≡ is_in a (a + suc n) k
  by_rest rest = rw rest (grind (arith, nat_tests))

closed-run : (k : ℕ) (r : Run) → is_closed k (numbers_in r) ≡ is_in r.from r.to k
closed-run k r = closed-range k r.from (r.to - r.from) ∙ grind (arith, nat_tests)

closed-runs : (k : ℕ) (rs : List Run) → is_closed k (flat_map numbers_in rs) ≡ has_place rs k
closed-runs k [] = refl
closed-runs k (r ∷ rs) =
    let rest : is_closed k (flat_map numbers_in rs) ≡ has_place rs k = closed-runs k rs in
    list_any-append (λ m. m == k) (numbers_in r) (flat_map numbers_in rs) ∙ rw (closed-run k r, rest) refl

closed-last : (k : ℕ) (last : Bool) → is_closed k (last_number last) ≡ (last && (k == LAST))
closed-last k false = refl
closed-last k true = grind (arith, nat_tests)

pub closed-each : (c : ClosedValue) (k : ℕ) → is_closed k (closed_numbers c) ≡ is_among c k
unfolding closed_numbers
closed-each c k =
    list_any-append (λ m. m == k) (flat_map numbers_in (runs_of c.places)) (last_number c.last)
    ∙ rw (closed-runs k (runs_of c.places), runs_of-has c.places k, closed-last k c.last) refl

-- each of them once
distinct-append : (xs ys : List ℕ) → AreDistinct xs → AreDistinct ys → ((k : ℕ) → is_closed k xs ≡ true → is_closed k ys ≡ false) → AreDistinct (xs ++ ys)
distinct-append [] ys first second apart = second
distinct-append (x ∷ xs) ys first second apart =
    (list_any-append (λ m. m == x) xs ys ∙ rw (first.0, apart x (or_first x)) refl, distinct-append xs ys first.1 second (λ k holds. apart k (or_second k holds))) where
      or_first : (k : ℕ) → is_closed k (k ∷ xs) ≡ true
      or_first k = rw (self_eqb k) refl

      or_second : (k : ℕ) → is_closed k xs ≡ true → ((x == k) || is_closed k xs) ≡ true
      or_second k holds = by_test (x == k) where
        by_test : (b : Bool) → (b || is_closed k xs) ≡ true
        by_test true = refl
        by_test false = holds

distinct-range : (a n : ℕ) → AreDistinct (range_with_len a n)
distinct-range a zero = tt
distinct-range a (suc n) = (closed-range a (a + 1) n ∙ is_in-false (a + 1) (a + 1 + n) a (λ from to. omega (arith, from)), distinct-range (a + 1) n)

distinct-runs : (low : ℕ) (rs : List Run) → AreApart low rs → AreDistinct (flat_map numbers_in rs)
distinct-runs low [] apart = tt
distinct-runs low (r ∷ rs) apart =
    distinct-append (numbers_in r) (flat_map numbers_in rs) (distinct-range r.from (r.to - r.from)) (distinct-runs (r.to + 1) rs apart.2)
    (λ k holds. closed-runs k rs ∙ has_place-far (r.to + 1) k rs apart.2 (below k (sym (closed-run k r) ∙ holds))) where
      below : (k : ℕ) → is_in r.from r.to k ≡ true → k < r.to + 1
      below k holds = let (from, to) = is_in-true r.from r.to k holds in omega (arith, to)

distinct-last : (last : Bool) → AreDistinct (last_number last)
distinct-last false = tt
distinct-last true = (refl, tt)

pub closed-once : (c : ClosedValue) → length c.places ≡ LAST → AreDistinct (closed_numbers c)
unfolding closed_numbers
closed-once c limit =
    distinct-append (flat_map numbers_in (runs_of c.places)) (last_number c.last) (distinct-runs 0 (runs_of c.places) (runs_of-apart c.places)) (distinct-last c.last)
    (λ k holds. closed-last k c.last ∙ none c.last k (below k (sym (closed-runs k (runs_of c.places) ∙ runs_of-has c.places k) ∙ holds))) where
      below : (k : ℕ) → is_covered c.places k ≡ true → k < LAST
      below k holds = elim (cases_lt k LAST) [
        | inl low ↦ low
        | inr high ↦ absurd (differ (sym (get_or_past c.places k false (subst (λ n. n ≤ k) (sym limit) high)) ∙ holds))
      ] where
        differ : false ≡ true → ⊥
        differ is = cc

      none : (last : Bool) (k : ℕ) → k < LAST → (last && (k == LAST)) ≡ false
      none last k low = by_last last (ne_eqb k LAST (λ e. absurd (omega (arith, e, low)))) where
        by_last : (last : Bool) → (k == LAST) ≡ false → (last && (k == LAST)) ≡ false
        by_last false is = refl
        by_last true is = is
