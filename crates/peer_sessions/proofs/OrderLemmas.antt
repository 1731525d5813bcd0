-- What a face receives stays in order and within its bounds.

use Rattle.std.proofs.Common.{◌≡◌, ◌≢◌, ℕ, ◌≤◌, Bool, true, false, not, nat_lt, nat_le, ◌==◌, ◌&&◌, ◌||◌, if◌then◌else◌, List, [], ◌∷◌, ◌++◌, length, Option, Some, None, is_some, Result, Ok, Err, refl, sym, ◌∙◌, ap, subst, arith, eqb-true}
use Rattle.std.specs.Option.{option_map}
use Rattle.std.proofs.lemmas.Bool.{leb-false}
use Rattle.std.proofs.lemmas.Bool.Decides.{nat_tests}
use Rattle.ltp_segment.specs.declared.fault.SegmentCause.{SegmentCause}
use Rattle.ltp_segment.specs.Values.{SegmentValue}
use Rattle.ltp_session.specs.Step.{Change, stays, keeps, ends, after, StepValue}
use Rattle.ltp_session.specs.Receiver.{Receiving}
use Rattle.ltp_session.specs.Sender.{Sending}
use Rattle.ltp_session.specs.Table.{find, put, without, ended, AreAscending}
use Rattle.ltp_session.specs.Engine.{Party, Engine, Reply, EngineStep, is_closed, is_used, untouched, untouched_all, with_receiver, without_evicted, longest_untouched, to_sender, sender_replies, replied_or_stranger, tick_step, receiver_changes}
use Rattle.ltp_laws.proofs.TableLemmas.{find-put, find-put_other, find-without, find-without_other, find-ticked, after_tick, ascending-put, ascending-without, ascending-ticked}
use Rattle.ltp_engine.specs.Sessions.{cells_in}
use Rattle.ltp_engine.specs.Shows.{AreDistinct}
use Rattle.session_memory.specs.Memory.{passed}
use Rattle.ltp_engine.proofs.KeepLemmas.{length-put, length-put_found, length-without, length-without_found, length-ticked, closed-ended, is_over_by}
use Rattle.face_room.specs.Bounds.{half}
use Rattle.peer_sessions.specs.Keys.{FaceKeys}
use Rattle.peer_sessions.specs.Sessions.{Sessions, left_by, closes, stale, passes, makes_room, is_opened, peer_replies, answer_to, replies, answers, answered, trimmed, to_trim, hears, ticks}
use Rattle.peer_sessions.specs.Runs.{SessionsEvent, a_datagram, a_tick, a_block, sessions_after, sessions_then}
use Rattle.peer_sessions.specs.Laws.{StaysWithin}
use Rattle.peer_sessions.proofs.AnswerLemmas.{tick-octets}
use Rattle.peer_sessions.proofs.CellLemmas.{cells-without, cells-ticked}
use Rattle.peer_sessions.proofs.EngineLemmas.{longest-kept}

-- what is received is in order, and no more sessions than may be
pub record InOrder (most : ℕ) (e : Engine) : Type 0 where
  pub once : AreDistinct e.touched
  pub kept : (n : ℕ) → is_closed n e.touched ≡ is_some (find n e.receivers)
  pub up : AreAscending 0 e.receivers
  pub few : length e.receivers ≤ most

-- ---- the order of touch

closed-untouched : (m n : ℕ) (touched : List ℕ) → is_closed m (untouched n touched) ≡ (not (n == m) && is_closed m touched)
unfolding untouched
closed-untouched m n [] = sym (by (n == m)) where
  by : (b : Bool) → (not b && false) ≡ false
  by true = refl
  by false = refl
closed-untouched m n (t ∷ touched) = by (t == n) refl (t == m) refl (n == m) refl (is_closed m touched) (closed-untouched m n touched) where
  same : (t n m : ℕ) → (t == n) ≡ true → (t == m) ≡ (n == m)
  same t n m is = grind (arith, nat_tests)

  apart : (t n m : ℕ) → (t == n) ≡ false → (t == m) ≡ true → (n == m) ≡ false
  apart t n m is at = grind (arith, nat_tests)

  by : (a : Bool) → (t == n) ≡ a → (b : Bool) → (t == m) ≡ b → (c : Bool) → (n == m) ≡ c → (d : Bool) → is_closed m (untouched n touched) ≡ (not c && d)
      → is_closed m (if a then untouched n touched else t ∷ untouched n touched) ≡ (not c && (b || d))
  by true is_a b is_b c is_c d rest =
      let equal : b ≡ c = sym is_b ∙ (same t n m is_a ∙ is_c) in
      rest ∙ (absorbed b c d equal) where
        absorbed : (b c d : Bool) → b ≡ c → (not c && d) ≡ (not c && (b || d))
        absorbed true true d is = refl
        absorbed false false d is = refl
        absorbed true false d is = absurd (cc)
        absorbed false true d is = absurd (cc)
  by false is_a true is_b c is_c d rest = let no : c ≡ false = sym is_c ∙ apart t n m is_a is_b in rw (is_b, no) refl
  by false is_a false is_b c is_c d rest = rw is_b rest

closed-last : (m n : ℕ) (touched : List ℕ) → is_closed m (touched ++ n ∷ []) ≡ (is_closed m touched || (n == m))
closed-last m n [] = by (n == m) where
  by : (b : Bool) → (b || false) ≡ b
  by true = refl
  by false = refl
closed-last m n (t ∷ touched) = ap (λ b. (t == m) || b) (closed-last m n touched) ∙ by (t == m) where
  by : (a : Bool) → (a || (is_closed m touched || (n == m))) ≡ ((a || is_closed m touched) || (n == m))
  by true = refl
  by false = refl

distinct-untouched : (n : ℕ) (touched : List ℕ) → AreDistinct touched → AreDistinct (untouched n touched)
unfolding untouched
distinct-untouched n [] once = tt
distinct-untouched n (t ∷ touched) once = by (t == n) (distinct-untouched n touched once.1) where
  none : (c b : Bool) → b ≡ false → (not c && b) ≡ false
  none true b is = refl
  none false b is = is

  by : (b : Bool) → AreDistinct (untouched n touched) → AreDistinct (if b then untouched n touched else t ∷ untouched n touched)
  by true rest = rest
  by false rest = (closed-untouched t n touched ∙ none (n == t) (is_closed t touched) once.0, rest)

distinct-last : (n : ℕ) (touched : List ℕ) → AreDistinct touched → is_closed n touched ≡ false → AreDistinct (touched ++ n ∷ [])
distinct-last n [] once none = (refl, tt)
distinct-last n (t ∷ touched) once none = by (t == n) refl none (λ h. distinct-last n touched once.1 h) where
  flipped : (t n : ℕ) → (t == n) ≡ false → (n == t) ≡ false
  flipped t n is = grind (arith, nat_tests)

  by : (b : Bool) → (t == n) ≡ b → (b || is_closed n touched) ≡ false → (is_closed n touched ≡ false → AreDistinct (touched ++ n ∷ [])) → AreDistinct (t ∷ (touched ++ n ∷ []))
  by true is empty rest = absurd (cc)
  by false is empty rest = (closed-last t n touched ∙ rw (once.0, flipped t n is) refl, rest empty)

-- ---- a session is over, or kept

apart-of : (n m : ℕ) → (n == m) ≡ false → m ≢ n
apart-of n m is same = absurd (grind (arith, nat_tests))

pub order-ends : (most n : ℕ) (e : Engine) → InOrder most e → InOrder most (with_receiver e n ends)
unfolding with_receiver
order-ends most n e order = record {
  once = distinct-untouched n e.touched order.once;
  kept = λ m. closed-untouched m n e.touched ∙ by m (n == m) refl;
  up = ascending-without n 0 e.receivers order.up;
  few = let fewer = length-without n e.receivers in let had = order.few in omega (arith, fewer, had);
} where
  by : (m : ℕ) (b : Bool) → (n == m) ≡ b → (not b && is_closed m e.touched) ≡ is_some (find m (without n e.receivers))
  by m true is = sym (ap (λ x. is_some x) (subst (λ j. find j (without n e.receivers) ≡ None) (eqb-true n m is) (find-without n e.receivers)))
  by m false is = order.kept m ∙ ap (λ x. is_some x) (sym (find-without_other m n e.receivers (apart-of n m is)))

order-keeps : (most n : ℕ) (r : Receiving) (e : Engine) → InOrder most e → length (put n r e.receivers) ≤ most → InOrder most (with_receiver e n (keeps r))
unfolding with_receiver
order-keeps most n r e order few = record {
  once = distinct-last n (untouched n e.touched) (distinct-untouched n e.touched order.once) (closed-untouched n n e.touched ∙ rw (self n) refl);
  kept = λ m. closed-last m n (untouched n e.touched) ∙ (ap (λ b. b || (n == m)) (closed-untouched m n e.touched) ∙ by m (n == m) refl);
  up = ascending-put n 0 r e.receivers (omega arith) order.up;
  few = few;
} where
  self : (n : ℕ) → (n == n) ≡ true
  self n = grind (arith, nat_tests)

  or-none : (b : Bool) → (b || false) ≡ b
  or-none true = refl
  or-none false = refl

  by : (m : ℕ) (b : Bool) → (n == m) ≡ b → ((not b && is_closed m e.touched) || b) ≡ is_some (find m (put n r e.receivers))
  by m true is = sym (ap (λ x. is_some x) (subst (λ j. find j (put n r e.receivers) ≡ Some r) (eqb-true n m is) (find-put n r e.receivers)))
  by m false is = or-none (is_closed m e.touched) ∙ (order.kept m ∙ ap (λ x. is_some x) (sym (find-put_other m n r e.receivers (apart-of n m is))))

-- ---- a segment

-- where as many are kept as may be, there is one to evict
first-of : (e : Engine) (most : ℕ) → InOrder most e → 1 ≤ length e.receivers → is_some (longest_untouched e.touched e.receivers) ≡ true
unfolding find
first-of e most order some = by e.touched refl where
  head : (t : ℕ) (touched : List ℕ) → e.touched ≡ t ∷ touched → is_some (find t e.receivers) ≡ true
  head t touched is = sym (order.kept t) ∙ ap (λ ts. is_closed t ts) is ∙ rw (self t) refl where
    self : (n : ℕ) → (n == n) ≡ true
    self n = grind (arith, nat_tests)

  some-map : (t : ℕ) (x : Option Receiving) → is_some x ≡ true → is_some (option_map (λ r. t) x) ≡ true
  some-map t (Some r) is = refl
  some-map t None is = absurd (cc)

  none-kept : (es : List (ℕ × Receiving)) → 1 ≤ length es → ((n : ℕ) → is_some (find n es) ≡ false) → ⊥
  none-kept [] some none = absurd (omega (arith, some))
  none-kept (x ∷ es) some none = differ (none x.0) (here x es) where
    here : (x : ℕ × Receiving) (es : List (ℕ × Receiving)) → is_some (find x.0 (x ∷ es)) ≡ true
    here x es = rw (self x.0) refl where
      self : (n : ℕ) → (n == n) ≡ true
      self n = grind (arith, nat_tests)

    differ : {b : Bool} → b ≡ false → b ≡ true → ⊥
    differ is also = cc

  by : (touched : List ℕ) → e.touched ≡ touched → is_some (longest_untouched touched e.receivers) ≡ true
  by [] is = absurd (none-kept e.receivers some (λ n. sym (order.kept n) ∙ ap (λ ts. is_closed n ts) is))
  by (t ∷ touched) is = some-map t (find t e.receivers) (head t touched is)

-- another list of closed numbers, and other sending sessions, don't count
pub in-order-as : (most : ℕ) (e f : Engine) → f.touched ≡ e.touched → f.receivers ≡ e.receivers → InOrder most e → InOrder most f
in-order-as most e f touched receivers order = record {
  once = subst AreDistinct (sym touched) order.once;
  kept = λ n. ap (λ ts. is_closed n ts) touched ∙ (order.kept n ∙ ap (λ es. is_some (find n es)) (sym receivers));
  up = subst (λ es. AreAscending 0 es) (sym receivers) order.up;
  few = subst (λ es. length es ≤ most) (sym receivers) order.few;
}

-- one that makes room is over, where one opens
opened-order : (most n : ℕ) (r : Receiving) (e : Engine) (gone : Option ℕ) → InOrder most e → 1 ≤ most → find n e.receivers ≡ None
    → gone ≡ (if nat_le most (length e.receivers) then longest_untouched e.touched e.receivers else None) → InOrder most (with_receiver (without_evicted e gone) n (keeps r))
unfolding with_receiver
opened-order most n r e gone order some none is = by (nat_le most (length e.receivers)) refl is where
  few-then : nat_le most (length e.receivers) ≡ false → length (put n r e.receivers) ≤ most
  few-then below = let one = length-put n r e.receivers in let less = leb-false most (length e.receivers) below in omega (arith, one, less)

  full : nat_le most (length e.receivers) ≡ true → 1 ≤ length e.receivers
  full many = at-least most (length e.receivers) some many where
    at-least : (a b : ℕ) → 1 ≤ a → nat_le a b ≡ true → 1 ≤ b
    at-least a b some many = grind (arith, nat_tests)

  by_first : nat_le most (length e.receivers) ≡ true → (g : Option ℕ) → longest_untouched e.touched e.receivers ≡ g → InOrder most (with_receiver (without_evicted e g) n (keeps r))
  by_first many None first = absurd (differ (ap (λ x. is_some x) first) (first-of e most order (full many))) where
    differ : {b : Bool} → b ≡ false → b ≡ true → ⊥
    differ is also = cc
  by_first many (Some g) first = order-keeps most n r (with_receiver e g ends) (order-ends most g e order) few where
    few : length (put n r (without g e.receivers)) ≤ most
    few =
        let one = length-put n r (without g e.receivers) in
        let fewer = length-without_found g e.receivers (longest-kept e.touched e.receivers g first) in
        let had = order.few in
        omega (arith, one, fewer, had)

  by : (many : Bool) → nat_le most (length e.receivers) ≡ many → gone ≡ (if many then longest_untouched e.touched e.receivers else None) → InOrder most (with_receiver (without_evicted e gone) n (keeps r))
  by true many is = by_first many gone (sym is)
  by false below is = subst (λ (g : Option ℕ). InOrder most (with_receiver (without_evicted e g) n (keeps r))) (sym is) (order-keeps most n r e order (few-then below))

changed-order : (k : FaceKeys) (n : ℕ) (e : Engine) (kept : Option Receiving) (next : Change Receiving) → find n e.receivers ≡ kept → InOrder (k.bounds).sessions e → 1 ≤ (k.bounds).sessions
    → InOrder (k.bounds).sessions (with_receiver (without_evicted e (makes_room k e (is_opened kept next))) n next)
unfolding with_receiver
changed-order k n e None stays is order some = order
changed-order k n e (Some s) stays is order some = order
changed-order k n e None ends is order some = order-ends (k.bounds).sessions n e order
changed-order k n e (Some s) ends is order some = order-ends (k.bounds).sessions n e order
changed-order k n e None (keeps r) is order some = opened-order (k.bounds).sessions n r e _ order some is refl
changed-order k n e (Some s) (keeps r) is order some = order-keeps (k.bounds).sessions n r e order
    (let same = length-put_found n 0 r e.receivers (ap (λ x. is_some x) is) order.up in let had = order.few in omega (arith, same, had))

pub segment-order : (k : FaceKeys) (s : Sessions) (segment : SegmentValue) (now : ℕ) → InOrder (k.bounds).sessions s.engine → 1 ≤ (k.bounds).sessions → InOrder (k.bounds).sessions (answers k s (Ok segment) now).engine
unfolding replies
segment-order k s segment now order some = by (segment.originator == (k.party).own) (segment.originator == (k.party).peer) where
  step : Option Reply → EngineStep
  step reply = replied_or_stranger s.engine (record { originator = segment.originator; number = segment.session }) reply

  own : (used : Bool) (answer : Option (StepValue Sending)) → InOrder (k.bounds).sessions (step (if used then sender_replies s.engine segment.session answer else None)).engine
  own false answer = order
  own true None = order
  own true (Some told) = in-order-as (k.bounds).sessions s.engine _ refl refl order

  peer : (answer : Option (StepValue Receiving)) → InOrder (k.bounds).sessions (step (peer_replies k s.engine segment.session answer)).engine
  peer None = order
  peer (Some told) = changed-order k segment.session s.engine (find segment.session (s.engine).receivers) told.next refl order some

  by : (is_own is_peer : Bool) → InOrder (k.bounds).sessions (step (if is_own then (if is_used k.party s.engine segment.session then to_sender k.party s.engine segment now else None) else if is_peer then peer_replies k s.engine segment.session (answer_to k s segment now) else None)).engine
  by true is_peer = own (is_used k.party s.engine segment.session) _
  by false true = peer (answer_to k s segment now)
  by false false = order

pub answered-order : (k : FaceKeys) (s : Sessions) (read : Result SegmentValue (ℕ × SegmentCause)) (now : ℕ) → InOrder (k.bounds).sessions s.engine → 1 ≤ (k.bounds).sessions → InOrder (k.bounds).sessions (answered k s read now).engine
answered-order k s (Err refusal) now order some = order
answered-order k s (Ok segment) now order some = in-order-as (k.bounds).sessions (answers k s (Ok segment) now).engine _ refl refl (segment-order k s segment now order some)

-- ---- sessions are closed

pub closes-order : (most : ℕ) (numbers : List ℕ) (s : Sessions) → InOrder most s.engine → InOrder most (closes numbers s).engine
unfolding closes
closes-order most [] s order = order
closes-order most (n ∷ numbers) s order =
    closes-order most numbers (left_by (with_receiver s.engine n ends) s.memory s.moments) (in-order-as most (with_receiver s.engine n ends) _ refl refl (order-ends most n s.engine order))

closes-cells : (numbers : List ℕ) (s : Sessions) → cells_in ((closes numbers s).engine).receivers ≤ cells_in (s.engine).receivers
unfolding closes with_receiver
closes-cells [] s = omega arith
closes-cells (n ∷ numbers) s =
    let rest = closes-cells numbers (left_by (with_receiver s.engine n ends) s.memory s.moments) in
    let fewer = cells-without n (s.engine).receivers in
    omega (arith, rest, fewer)

none-cells : (es : List (ℕ × Receiving)) → ((n : ℕ) → is_some (find n es) ≡ true → false ≡ true) → cells_in es ≡ 0
unfolding find
none-cells [] none = refl
none-cells (x ∷ es) none = let no : false ≡ true = none x.0 (rw (self x.0) refl) in absurd (cc) where
  self : (n : ℕ) → (n == n) ≡ true
  self n = grind (arith, nat_tests)

trims-within : (most : ℕ) (touched : List ℕ) (s : Sessions) → ((n : ℕ) → is_some (find n (s.engine).receivers) ≡ true → is_closed n touched ≡ true)
    → cells_in ((closes (trimmed most touched (s.engine).receivers) s).engine).receivers ≤ most
unfolding trimmed closes with_receiver
trims-within most [] s all = let none = none-cells (s.engine).receivers all in omega (arith, none)
trims-within most (n ∷ touched) s all = by (nat_lt most (cells_in (s.engine).receivers)) refl
    (trims-within most touched (left_by (with_receiver s.engine n ends) s.memory s.moments) rest) where
      rest : (m : ℕ) → is_some (find m (without n (s.engine).receivers)) ≡ true → is_closed m touched ≡ true
      rest m kept = by_test (n == m) refl where
        differ : {b : Bool} → b ≡ false → b ≡ true → ⊥
        differ is also = cc

        drop : (b c : Bool) → b ≡ false → (b || c) ≡ true → c ≡ true
        drop b c is holds = rw is at holds

        by_test : (same : Bool) → (n == m) ≡ same → is_closed m touched ≡ true
        by_test true is = absurd (differ (ap (λ x. is_some x) (subst (λ j. find j (without n (s.engine).receivers) ≡ None) (eqb-true n m is) (find-without n (s.engine).receivers))) kept)
        by_test false is = drop (n == m) (is_closed m touched) is (all m (ap (λ x. is_some x) (sym (find-without_other m n (s.engine).receivers (apart-of n m is))) ∙ kept))

      few : nat_lt most (cells_in (s.engine).receivers) ≡ false → cells_in (s.engine).receivers ≤ most
      few is = below most (cells_in (s.engine).receivers) is where
        below : (a b : ℕ) → nat_lt a b ≡ false → b ≤ a
        below a b is = grind (arith, nat_tests)

      by : (many : Bool) → nat_lt most (cells_in (s.engine).receivers) ≡ many
          → cells_in ((closes (trimmed most touched (without n (s.engine).receivers)) (left_by (with_receiver s.engine n ends) s.memory s.moments)).engine).receivers ≤ most
          → cells_in ((closes (if many then n ∷ trimmed most touched (without n (s.engine).receivers) else []) s).engine).receivers ≤ most
      by true is trimmed_so = trimmed_so
      by false is trimmed_so = few is

-- ---- all sessions tick

closed-untouched_all : (m : ℕ) (numbers touched : List ℕ) → is_closed m (untouched_all numbers touched) ≡ (not (is_closed m numbers) && is_closed m touched)
closed-untouched_all m [] touched = refl
closed-untouched_all m (n ∷ numbers) touched = closed-untouched m n (untouched_all numbers touched) ∙ (ap (λ b. not (n == m) && b) (closed-untouched_all m numbers touched) ∙ by (n == m) (is_closed m numbers)) where
  by : (a b : Bool) → (not a && (not b && is_closed m touched)) ≡ (not (a || b) && is_closed m touched)
  by true b = refl
  by false b = refl

distinct-untouched_all : (numbers touched : List ℕ) → AreDistinct touched → AreDistinct (untouched_all numbers touched)
distinct-untouched_all [] touched once = once
distinct-untouched_all (n ∷ numbers) touched once = distinct-untouched n (untouched_all numbers touched) (distinct-untouched_all numbers touched once)

pub tick-order : (most : ℕ) (p : Party) (e : Engine) (now : ℕ) → InOrder most e → InOrder most (tick_step p e now).engine
unfolding tick_step
tick-order most p e now order = record {
  once = distinct-untouched_all (ended (receiver_changes p now) e.receivers) e.touched order.once;
  kept = λ m. closed-untouched_all m (ended (receiver_changes p now) e.receivers) e.touched
      ∙ (ap (λ b. not b && is_closed m e.touched) (closed-ended (receiver_changes p now) m 0 e.receivers order.up)
      ∙ (ap (λ b. not (is_over_by (receiver_changes p now) (find m e.receivers)) && b) (order.kept m)
      ∙ (by (find m e.receivers) ∙ ap (λ x. is_some x) (sym (find-ticked (receiver_changes p now) m 0 e.receivers order.up)))));
  up = ascending-ticked (receiver_changes p now) 0 e.receivers order.up;
  few = let all = length-ticked (receiver_changes p now) e.receivers in let had = order.few in omega (arith, all, had);
} where
  twice : (b : Bool) → (not (not b) && true) ≡ b
  twice true = refl
  twice false = refl

  by : (x : Option Receiving) → (not (is_over_by (receiver_changes p now) x) && is_some x) ≡ is_some (after_tick (receiver_changes p now) x)
  by None = refl
  by (Some r) = twice (is_some (after (receiver_changes p now r) (Some r)))

tick-within : (p : Party) (e : Engine) (now : ℕ) → cells_in ((tick_step p e now).engine).receivers ≤ cells_in e.receivers
unfolding tick_step
tick-within p e now = cells-ticked (receiver_changes p now) e.receivers (λ r s is. tick-octets p.policy r s now is)

-- ---- events

pub record Holds (k : FaceKeys) (s : Sessions) : Type 0 where
  pub order : InOrder (k.bounds).sessions s.engine
  pub octets : cells_in (s.engine).receivers ≤ half k.bounds

heard-holds : (k : FaceKeys) (s : Sessions) (read : Result SegmentValue (ℕ × SegmentCause)) (now : ℕ) → 1 ≤ (k.bounds).sessions → Holds k s → Holds k (hears k s read now).sessions
unfolding hears
heard-holds k s read now some had = record {
  order = closes-order (k.bounds).sessions (to_trim k met) met met-order;
  octets = trims-within (half k.bounds) (met.engine).touched met (λ n kept. met-order.kept n ∙ kept);
} where
  met : Sessions
  met = answered k (passes k now s) read now

  met-order : InOrder (k.bounds).sessions met.engine
  met-order = answered-order k (passes k now s) read now (closes-order (k.bounds).sessions (stale k now s) (record s { memory = passed now s.memory }) had.order) some

ticked-holds : (k : FaceKeys) (s : Sessions) (now : ℕ) → Holds k s → Holds k (ticks k s now).sessions
unfolding ticks
ticked-holds k s now had = record {
  order = in-order-as (k.bounds).sessions (tick_step k.party (passes k now s).engine now).engine _ refl refl
      (tick-order (k.bounds).sessions k.party (passes k now s).engine now (closes-order (k.bounds).sessions (stale k now s) (record s { memory = passed now s.memory }) had.order));
  octets =
      let fewer = closes-cells (stale k now s) (record s { memory = passed now s.memory }) in
      let less = tick-within k.party (passes k now s).engine now in
      let most = had.octets in
      omega (arith, fewer, less, most);
}

holds-then : (k : FaceKeys) (now : ℕ) (event : SessionsEvent) (s : Sessions) → 1 ≤ (k.bounds).sessions → Holds k s → Holds k (sessions_then k now event s)
holds-then k now (a_datagram read) s some had = heard-holds k s read now some had
holds-then k now a_tick s some had = ticked-holds k s now had
holds-then k now (a_block block) s some had = record { order = in-order-as (k.bounds).sessions s.engine _ refl refl had.order; octets = had.octets }

pub holds : (k : FaceKeys) (start : ℕ) (marks : List ℕ) (events : List (ℕ × SessionsEvent)) → 1 ≤ (k.bounds).sessions → Holds k (sessions_after k start marks events)
unfolding find
holds k start marks [] some = record { order = record { once = tt; kept = λ n. refl; up = tt; few = omega arith }; octets = omega arith }
holds k start marks (event ∷ earlier) some = holds-then k event.0 event.1 (sessions_after k start marks earlier) some (holds k start marks earlier some)

pub stays_within : StaysWithin
stays_within k start marks events some =
    let all : Holds k (sessions_after k start marks events) = holds k start marks events some in
    record { order = record { once = (all.order).once; kept = (all.order).kept }; sessions = (all.order).few; octets = all.octets }
