-- What an engine keeps stays within its bounds.

use Rattle.std.proofs.Common.{◌≡◌, ◌≢◌, ℕ, ◌+◌, ◌<◌, ◌≤◌, Bool, true, false, not, ◌==◌, ◌||◌, nat_lt, nat_le, List, [], ◌∷◌, length, Option, None, Some, is_some, refl, sym, ◌∙◌, ap, arith, subst, if◌then◌else◌}
use Rattle.std.specs.List.{AllByRecursion, list_any}
use Rattle.std.specs.Option.{option_map}
use Rattle.std.proofs.lemmas.Bool.{eqb-true, ne_eqb, eq-eqb}
use Rattle.std.proofs.lemmas.Bool.Decides.{nat_tests}
use Rattle.ltp_session.specs.Step.{Change, stays, keeps, ends, after}
use Rattle.ltp_session.specs.Receiver.{Receiving, Admission}
use Rattle.ltp_session.specs.Table.{find, put, without, AreAscending, ticked, ended, then_kept, then_ended}
use Rattle.ltp_session.specs.Engine.{Party, is_closed, untouched_all, longest_untouched}
use Rattle.ltp_laws.proofs.TableLemmas.{self_eqb, find_below, find-put_other, find-without, find-without_other, find-ticked, after_tick, ascending-put, ascending-without, ascending-ticked}
use Rattle.ltp_engine.specs.declared.closed.TheConstants.{LAST}
use Rattle.ltp_engine.specs.Closed.{ClosedValue, is_among, also_closed, all_closed}
use Rattle.ltp_engine.specs.Values.{InboundValue}
use Rattle.ltp_engine.specs.Bounds.{IsInboundSound}
use Rattle.ltp_engine.specs.Inbound.{settled_in, with_room, evicted_in, evicted_for, admission_in}
use Rattle.ltp_engine.proofs.ClosedLemmas.{runs-grow}
use Rattle.ltp_engine.proofs.SoundLemmas.{among-also}
use Rattle.ltp_engine.proofs.RunsLemmas.{length-also, among-all, ended-least}

-- ---- how many there are

pub length-without : {S : Type 0} (n : ℕ) (es : List (ℕ × S)) → length (without n es) ≤ length es
unfolding without
length-without n [] = omega arith
length-without n (e ∷ es) = by_test (e.0 == n) (length-without n es) where
  by_test : (same : Bool) → length (without n es) ≤ length es → length (if same then without n es else e ∷ without n es) ≤ length (e ∷ es)
  by_test true rest = omega (arith, rest)
  by_test false rest = omega (arith, rest)

pub length-without_found : {S : Type 0} (n : ℕ) (es : List (ℕ × S)) → is_some (find n es) ≡ true → length (without n es) + 1 ≤ length es
unfolding find without
length-without_found n [] holds = absurd (cc)
length-without_found n (e ∷ es) holds = by_test (e.0 == n) holds (length-without n es) (λ h. length-without_found n es h) where
  by_test : (same : Bool) → is_some (if same then Some e.1 else find n es) ≡ true → length (without n es) ≤ length es
      → (is_some (find n es) ≡ true → length (without n es) + 1 ≤ length es) → length (if same then without n es else e ∷ without n es) + 1 ≤ length (e ∷ es)
  by_test true holds rest found = omega (arith, rest)
  by_test false holds rest found = omega (arith, found holds)

pub length-put : {S : Type 0} (n : ℕ) (s : S) (es : List (ℕ × S)) → length (put n s es) ≤ length es + 1
unfolding put
length-put n s [] = omega arith
length-put n s (e ∷ es) = by_tests (e.0 == n) (nat_lt n e.0) (length-put n s es) where
  by_tests : (same less : Bool) → length (put n s es) ≤ length es + 1
      → length (if same then (n, s) ∷ es else if less then (n, s) ∷ (e ∷ es) else e ∷ put n s es) ≤ length (e ∷ es) + 1
  by_tests true less rest = omega arith
  by_tests false true rest = omega arith
  by_tests false false rest = omega (arith, rest)

pub length-put_found : {S : Type 0} (n low : ℕ) (s : S) (es : List (ℕ × S)) → is_some (find n es) ≡ true → AreAscending low es → length (put n s es) ≤ length es
unfolding find put
length-put_found n low s [] holds up = absurd (cc)
length-put_found {S = S} n low s (e ∷ es) holds up =
    by_tests (e.0 == n) (nat_lt n e.0) refl holds (λ h. length-put_found n (e.0 + 1) s es h up.1) where
      by_tests : (same less : Bool) → nat_lt n e.0 ≡ less → is_some (if same then Some e.1 else find n es) ≡ true
          → (is_some (find n es) ≡ true → length (put n s es) ≤ length es)
          → length (if same then (n, s) ∷ es else if less then (n, s) ∷ (e ∷ es) else e ∷ put n s es) ≤ length (e ∷ es)
      by_tests true less is holds rest = omega arith
      by_tests false true is holds rest =
          let none : find n es ≡ None = find_below n (e.0 + 1) es (grind (arith, nat_tests)) up.1 in
          absurd (cc (none, holds))
      by_tests false false is holds rest = omega (arith, rest holds)

pub length-ticked : {S : Type 0} (change : S → Change S) (es : List (ℕ × S)) → length (ticked change es) + length (ended change es) ≡ length es
unfolding ticked ended
length-ticked change [] = refl
length-ticked {S = S} change (e ∷ es) = by_change (change e.1) (length-ticked change es) where
  by_change : (c : Change S) → length (ticked change es) + length (ended change es) ≡ length es
      → length (then_kept e c (ticked change es)) + length (then_ended e.0 c (ended change es)) ≡ length (e ∷ es)
  by_change stays rest = omega (arith, rest)
  by_change (keeps s) rest = omega (arith, rest)
  by_change ends rest = omega (arith, rest)

-- ---- one change

some-put : (n m : ℕ) (r : Receiving) (t : List (ℕ × Receiving)) → (P : ℕ → Type 0) → P n → ((k : ℕ) → is_some (find k t) ≡ true → P k)
    → is_some (find m (put n r t)) ≡ true → P m
some-put n m r t P here there holds = by_test (n == m) refl where
  by_test : (same : Bool) → (n == m) ≡ same → P m
  by_test true is = subst P (eqb-true n m is) here
  by_test false is =
      let apart : m ≢ n = λ e. differ (eq-eqb n m (sym e)) is in
      there m (ap (λ x. is_some x) (sym (find-put_other m n r t apart)) ∙ holds) where
        differ : {b : Bool} → b ≡ true → b ≡ false → ⊥
        differ is also = cc

some-without : (n m : ℕ) (t : List (ℕ × Receiving)) → is_some (find m (without n t)) ≡ true → (m ≢ n) × (is_some (find m t) ≡ true)
some-without n m t holds = (apart, ap (λ x. is_some x) (sym (find-without_other m n t apart)) ∙ holds) where
  apart : m ≢ n
  apart e = differ (ap (λ x. is_some x) (subst (λ k. find k (without n t) ≡ None) (sym e) (find-without n t))) holds where
    differ : {b : Bool} → b ≡ false → b ≡ true → ⊥
    differ is also = cc

pub sound-put : (p : Party) (i : InboundValue) (n : ℕ) (r : Receiving) → IsInboundSound p i → n ≤ LAST → is_among i.closed n ≡ false
    → length (put n r i.receivers) ≤ p.sessions → i.closed.runs + length (put n r i.receivers) ≤ p.history → IsInboundSound p (settled_in i n (keeps r))
sound-put p i n r sound most open_is few room = record {
  receivers = few;
  history = room;
  unclosed = λ m holds. some-put n m r i.receivers (λ k. is_among i.closed k ≡ false) open_is sound.unclosed holds;
  range = λ m holds. some-put n m r i.receivers (λ k. k ≤ LAST) most sound.range holds;
  limit = sound.limit;
  ascending = ascending-put n 0 r i.receivers (omega arith) sound.ascending;
}

pub sound-ends : (p : Party) (i : InboundValue) (n : ℕ) → IsInboundSound p i → is_some (find n i.receivers) ≡ true → IsInboundSound p (settled_in i n ends)
sound-ends p i n sound found = record {
  receivers = omega (arith, fewer, sound.receivers);
  history = omega (arith, fewer, runs-grow n i.closed, sound.history);
  unclosed = λ m holds. still m (some-without n m i.receivers holds);
  range = λ m holds. let (apart, there) = some-without n m i.receivers holds in sound.range m there;
  limit = length-also n i.closed most sound.limit;
  ascending = ascending-without n 0 i.receivers sound.ascending;
} where
  most : n ≤ LAST
  most = sound.range n found

  fewer : length (without n i.receivers) + 1 ≤ length i.receivers
  fewer = length-without_found n i.receivers found

  still : (m : ℕ) → (m ≢ n) × (is_some (find m i.receivers) ≡ true) → is_among (also_closed n i.closed) m ≡ false
  still m (apart, there) = among-also n i.closed m most sound.limit ∙ rw (ne_eqb n m (λ e. apart (sym e))) (sound.unclosed m there)

pub sound-kept : (p : Party) (i : InboundValue) (n : ℕ) (change : Change Receiving) → IsInboundSound p i → is_some (find n i.receivers) ≡ true → IsInboundSound p (settled_in i n change)
sound-kept p i n stays sound found = sound
sound-kept p i n (keeps r) sound found =
    let few = length-put_found n 0 r i.receivers found sound.ascending in
    sound-put p i n r sound (sound.range n found) (sound.unclosed n found) (omega (arith, few, sound.receivers)) (omega (arith, few, sound.history))
sound-kept p i n ends sound found = sound-ends p i n sound found

-- ---- a session opens

-- the sessions that have a place in the order of touch are those that are kept
abbrev pub IsInOrder : InboundValue → Type 0
IsInOrder i = (n : ℕ) → list_any (λ m. m == n) i.touched ≡ is_some (find n i.receivers)

-- the longest untouched of some sessions is kept
first-kept : (i : InboundValue) → IsInOrder i → 1 ≤ length i.receivers → (n : ℕ) × (longest_untouched i.touched i.receivers ≡ Some n) × (is_some (find n i.receivers) ≡ true)
unfolding find
first-kept i order many = by_touched i.touched i.receivers order many where
  by_touched : (touched : List ℕ) (t : List (ℕ × Receiving)) → ((m : ℕ) → list_any (λ k. k == m) touched ≡ is_some (find m t)) → 1 ≤ length t
      → (n : ℕ) × (longest_untouched touched t ≡ Some n) × (is_some (find n t) ≡ true)
  by_touched [] [] order many = absurd (omega (arith, many))
  by_touched [] (e ∷ t) order many = absurd (differ (order e.0) (rw (self_eqb e.0) refl)) where
    differ : {b : Bool} → false ≡ b → b ≡ true → ⊥
    differ is also = cc
  by_touched (n ∷ touched) t order many = by_kept (find n t) refl (sym (order n) ∙ rw (self_eqb n) refl) where
    by_kept : (kept : Option Receiving) → find n t ≡ kept → is_some (find n t) ≡ true → (m : ℕ) × (option_map (λ r. n) (find n t) ≡ Some m) × (is_some (find m t) ≡ true)
    by_kept None is holds = absurd (cc (is, holds))
    by_kept (Some r) is holds = (n, ap (λ k. option_map (λ r. n) k) is, holds)

-- after it was made, there is room for a session that isn't kept
pub record HasRoom (p : Party) (i : InboundValue) (n : ℕ) : Type 0 where
  pub sound : IsInboundSound p i
  pub few : length i.receivers + 1 ≤ p.sessions
  pub room : i.closed.runs + length i.receivers + 1 ≤ p.history
  pub open_is : is_among i.closed n ≡ false

pub room-for : (p : Party) (i : InboundValue) (n : ℕ) → 1 ≤ p.sessions → IsInOrder i → IsInboundSound p i → find n i.receivers ≡ None → is_among i.closed n ≡ false
    → nat_le p.history (i.closed.runs + length i.receivers) ≡ false → HasRoom p (with_room i (evicted_in p.sessions i)) n
unfolding evicted_in
room-for p i n some order sound absent open_is not_full = by_many (nat_le p.sessions (length i.receivers)) refl where
  there_is : i.closed.runs + length i.receivers + 1 ≤ p.history
  there_is = go (i.closed.runs + length i.receivers) not_full where
    go : (k : ℕ) → nat_le p.history k ≡ false → k + 1 ≤ p.history
    go k is = grind (arith, nat_tests)

  by_many : (many : Bool) → nat_le p.sessions (length i.receivers) ≡ many → HasRoom p (with_room i (if many then longest_untouched i.touched i.receivers else None)) n
  by_many false is = record { sound = sound; few = go (length i.receivers) is; room = there_is; open_is = open_is } where
    go : (k : ℕ) → nat_le p.sessions k ≡ false → k + 1 ≤ p.sessions
    go k is = grind (arith, nat_tests)
  by_many true is =
      let (m, longest, found) = first-kept i order (omega (arith, some, go (length i.receivers) is)) in
      let fewer = length-without_found m i.receivers found in
      rw longest (record {
        sound = sound-ends p i m sound found;
        few = omega (arith, fewer, sound.receivers);
        room = omega (arith, fewer, runs-grow m i.closed, there_is);
        open_is = among-also m i.closed n (sound.range m found) sound.limit ∙ rw (ne_eqb m n (λ e. differ (ap (λ x. is_some x) (subst (λ k. find k i.receivers ≡ None) (sym e) absent)) found)) open_is;
      }) where
        go : (k : ℕ) → nat_le p.sessions k ≡ true → p.sessions ≤ k
        go k is = grind (arith, nat_tests)

        differ : {b : Bool} → b ≡ false → b ≡ true → ⊥
        differ is also = cc

pub sound-opens : (p : Party) (i : InboundValue) (n : ℕ) (r : Receiving) → n ≤ LAST → HasRoom p i n → IsInboundSound p (settled_in i n (keeps r))
sound-opens p i n r most room =
    let more = length-put n r i.receivers in
    sound-put p i n r room.sound most room.open_is (omega (arith, more, room.few)) (omega (arith, more, room.room))

-- what a step may be of a session that isn't kept
abbrev pub MayOpen : Admission → Change Receiving → Type 0
MayOpen place stays = Unit {0}
MayOpen place (keeps r) = (place.closed ≡ false) × (place.full ≡ false)
MayOpen place ends = ⊥

pub sound-step : (p : Party) (i : InboundValue) (n most : ℕ) (gone : Option ℕ) (change : Change Receiving) → n ≤ LAST → 1 ≤ p.sessions → IsInOrder i → IsInboundSound p i
    → gone ≡ evicted_for p.sessions i (find n i.receivers) change → (find n i.receivers ≡ None → MayOpen (admission_in i most p.history n) change)
    → IsInboundSound p (settled_in (with_room i gone) n change)
sound-step p i n most gone change least some order sound is may = subst (λ g. IsInboundSound p (settled_in (with_room i g) n change)) (sym is) (by_kept (find n i.receivers) refl) where
  by_kept : (kept : Option Receiving) → find n i.receivers ≡ kept → IsInboundSound p (settled_in (with_room i (evicted_for p.sessions i kept change)) n change)
  by_kept (Some r) found = sound-kept p i n change sound (ap (λ x. is_some x) found)
  by_kept None absent = by_change change (may absent) where
    by_change : (c : Change Receiving) → MayOpen (admission_in i most p.history n) c → IsInboundSound p (settled_in (with_room i (evicted_for p.sessions i None c)) n c)
    by_change stays opens = sound
    by_change (keeps r) opens = sound-opens p (with_room i (evicted_in p.sessions i)) n r least (room-for p i n some order sound absent opens.0 opens.1)
    by_change ends opens = absurd opens

-- ---- all sessions tick

runs-all : (numbers : List ℕ) (c : ClosedValue) → (all_closed numbers c).runs ≤ c.runs + length numbers
unfolding all_closed
runs-all [] c = omega arith
runs-all (n ∷ numbers) c = let rest = runs-all numbers c in omega (arith, rest, runs-grow n (all_closed numbers c))

-- a session is over after a tick
abbrev pub is_over_by : (Receiving → Change Receiving) → Option Receiving → Bool
is_over_by change None = false
is_over_by change (Some r) = not (is_some (after (change r) (Some r)))

ended_below : (change : Receiving → Change Receiving) (n low : ℕ) (es : List (ℕ × Receiving)) → n < low → AreAscending low es → is_closed n (ended change es) ≡ false
unfolding ended
ended_below change n low [] below is = refl
ended_below change n low (e ∷ es) below is = by_change (change e.1) (ended_below change n (e.0 + 1) es (omega (arith, is.0, below)) is.1) where
  by_change : (c : Change Receiving) → is_closed n (ended change es) ≡ false → is_closed n (then_ended e.0 c (ended change es)) ≡ false
  by_change stays rest = rest
  by_change (keeps r) rest = rest
  by_change ends rest = rw (ne_eqb e.0 n (λ h. absurd (omega (arith, h, is.0, below)))) rest

pub closed-ended : (change : Receiving → Change Receiving) (m low : ℕ) (es : List (ℕ × Receiving)) → AreAscending low es → is_closed m (ended change es) ≡ is_over_by change (find m es)
unfolding ended find
closed-ended change m low [] is = refl
closed-ended change m low (e ∷ es) is = by_test (e.0 == m) refl (change e.1) refl (closed-ended change m (e.0 + 1) es is.1) where
  by_test : (same : Bool) → (e.0 == m) ≡ same → (c : Change Receiving) → change e.1 ≡ c → is_closed m (ended change es) ≡ is_over_by change (find m es)
      → is_closed m (then_ended e.0 c (ended change es)) ≡ is_over_by change (if same then Some e.1 else find m es)
  by_test true is_same stays is_change rest = rw is_change (rw (← eqb-true e.0 m is_same) (ended_below change e.0 (e.0 + 1) es (omega arith) is.1))
  by_test true is_same (keeps r) is_change rest = rw is_change (rw (← eqb-true e.0 m is_same) (ended_below change e.0 (e.0 + 1) es (omega arith) is.1))
  by_test true is_same ends is_change rest = rw (is_change, is_same) refl
  by_test false is_same stays is_change rest = rest
  by_test false is_same (keeps r) is_change rest = rest
  by_test false is_same ends is_change rest = rw is_same rest

abbrev pub ticked_by : (Receiving → Change Receiving) → InboundValue → InboundValue
ticked_by change i = record {
  receivers = ticked change i.receivers;
  touched = untouched_all (ended change i.receivers) i.touched;
  closed = all_closed (ended change i.receivers) i.closed;
}

pub sound-ticked : (p : Party) (change : Receiving → Change Receiving) (i : InboundValue) → IsInboundSound p i → IsInboundSound p (ticked_by change i)
sound-ticked p change i sound = record {
  receivers = omega (arith, size, sound.receivers);
  history = omega (arith, size, runs-all over i.closed, sound.history);
  unclosed = λ m holds. (among-all over i.closed m most sound.limit).0 ∙ rw (closed-ended change m 0 i.receivers sound.ascending) (open_at m (find m i.receivers) refl (subst (λ x. is_some x ≡ true) (after_it m) holds));
  range = λ m holds. sound.range m (was (find m i.receivers) (subst (λ x. is_some x ≡ true) (after_it m) holds));
  limit = (among-all over i.closed 0 most sound.limit).1;
  ascending = ascending-ticked change 0 i.receivers sound.ascending;
} where
  over : List ℕ
  over = ended change i.receivers

  size : length (ticked change i.receivers) + length over ≡ length i.receivers
  size = length-ticked change i.receivers

  most : AllByRecursion (λ n. n ≤ LAST) over
  most = ended-least change i.receivers sound.range

  after_it : (m : ℕ) → find m (ticked change i.receivers) ≡ after_tick change (find m i.receivers)
  after_it m = find-ticked change m 0 i.receivers sound.ascending

  was : (kept : Option Receiving) → is_some (after_tick change kept) ≡ true → is_some kept ≡ true
  was None holds = absurd (cc)
  was (Some r) holds = refl

  open_at : (m : ℕ) (kept : Option Receiving) → find m i.receivers ≡ kept → is_some (after_tick change kept) ≡ true → (is_over_by change kept || is_among i.closed m) ≡ false
  open_at m None is holds = absurd (cc)
  open_at m (Some r) is holds = rw (sound.unclosed m (ap (λ x. is_some x) is), holds) refl
