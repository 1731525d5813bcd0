-- The moments of a face are those of its receiving sessions.

use Rattle.std.proofs.Common.{◌≡◌, ℕ, ◌≤◌, Bool, true, false, not, nat_le, ◌==◌, ◌&&◌, ◌||◌, if◌then◌else◌, List, [], ◌∷◌, ◌++◌, length, Option, Some, None, is_some, Result, Ok, Err, refl, sym, ◌∙◌, ap, subst, arith, eqb-true}
use Rattle.std.specs.List.{filter}
use Rattle.std.specs.Map.{keys_of}
use Rattle.std.proofs.lemmas.Bool.Decides.{nat_tests}
use Rattle.ltp_segment.specs.declared.fault.SegmentCause.{SegmentCause}
use Rattle.ltp_segment.specs.Values.{SegmentValue}
use Rattle.ltp_session.specs.Step.{Change, stays, keeps, ends, StepValue}
use Rattle.ltp_session.specs.Receiver.{Receiving}
use Rattle.ltp_session.specs.Sender.{Sending}
use Rattle.ltp_session.specs.Table.{find, without, ended}
use Rattle.ltp_session.specs.Engine.{Party, Engine, Reply, EngineStep, is_closed, is_used, untouched, untouched_all, with_receiver, without_evicted, longest_untouched, to_sender, sender_replies, replied_or_stranger, tick_step, receiver_changes}
use Rattle.session_memory.specs.Memory.{passed}
use Rattle.peer_sessions.specs.Keys.{FaceKeys}
use Rattle.peer_sessions.specs.Sessions.{Sessions, still_kept, left_by, closes, stale, passes, is_touched, is_kept_by, makes_room, is_opened, peer_replies, answer_to, replies, is_of_peer, moments_met, answers, answered, to_trim, hears, ticks}
use Rattle.peer_sessions.specs.Runs.{SessionsEvent, a_datagram, a_tick, a_block, sessions_after, sessions_then}
use Rattle.peer_sessions.specs.Laws.{MomentsAreTouched}
use Rattle.peer_sessions.proofs.OrderLemmas.{InOrder, holds, order-ends, in-order-as, closes-order, answered-order, segment-order, tick-order}
use Rattle.peer_sessions.proofs.EngineLemmas.{longest-kept}

-- ---- filters

keys-filter : (p : ℕ → Bool) (moments : List (ℕ × ℕ)) → keys_of (filter (λ (e : ℕ × ℕ). p e.0) moments) ≡ filter p (keys_of moments)
keys-filter p [] = refl
keys-filter p (e ∷ moments) = by (p e.0) (keys-filter p moments) where
  by : (b : Bool) → keys_of (filter (λ (x : ℕ × ℕ). p x.0) moments) ≡ filter p (keys_of moments)
      → keys_of (if b then e ∷ filter (λ (x : ℕ × ℕ). p x.0) moments else filter (λ (x : ℕ × ℕ). p x.0) moments) ≡ (if b then e.0 ∷ filter p (keys_of moments) else filter p (keys_of moments))
  by true rest = ap (λ ks. e.0 ∷ ks) rest
  by false rest = rest

untouched-filter : (n : ℕ) (ks : List ℕ) → untouched n ks ≡ filter (λ m. not (m == n)) ks
unfolding untouched
untouched-filter n [] = refl
untouched-filter n (m ∷ ks) = by (m == n) (untouched-filter n ks) where
  by : (b : Bool) → untouched n ks ≡ filter (λ j. not (j == n)) ks → (if b then untouched n ks else m ∷ untouched n ks) ≡ (if not b then m ∷ filter (λ j. not (j == n)) ks else filter (λ j. not (j == n)) ks)
  by true rest = rest
  by false rest = ap (λ js. m ∷ js) rest

keys-without : (n : ℕ) (moments : List (ℕ × ℕ)) → keys_of (without n moments) ≡ untouched n (keys_of moments)
unfolding without untouched
keys-without n [] = refl
keys-without n (e ∷ moments) = by (e.0 == n) (keys-without n moments) where
  by : (b : Bool) → keys_of (without n moments) ≡ untouched n (keys_of moments) → keys_of (if b then without n moments else e ∷ without n moments) ≡ (if b then untouched n (keys_of moments) else e.0 ∷ untouched n (keys_of moments))
  by true rest = rest
  by false rest = ap (λ ks. e.0 ∷ ks) rest

keys-last : (n now : ℕ) (moments : List (ℕ × ℕ)) → keys_of (moments ++ (n, now) ∷ []) ≡ keys_of moments ++ n ∷ []
keys-last n now [] = refl
keys-last n now (e ∷ moments) = ap (λ ks. e.0 ∷ ks) (keys-last n now moments)

filter-same : (p q : ℕ → Bool) (ks : List ℕ) → ((m : ℕ) → is_closed m ks ≡ true → p m ≡ q m) → filter p ks ≡ filter q ks
filter-same p q [] same = refl
filter-same p q (m ∷ ks) same = by (p m) (q m) (same m here) (filter-same p q ks (λ j there. same j (later j there))) where
  here : ((m == m) || is_closed m ks) ≡ true
  here = rw (self m) refl where
    self : (n : ℕ) → (n == n) ≡ true
    self n = grind (arith, nat_tests)

  later : (j : ℕ) → is_closed j ks ≡ true → ((m == j) || is_closed j ks) ≡ true
  later j there = by_test (m == j) where
    by_test : (b : Bool) → (b || is_closed j ks) ≡ true
    by_test true = refl
    by_test false = there

  by : (a b : Bool) → a ≡ b → filter p ks ≡ filter q ks → (if a then m ∷ filter p ks else filter p ks) ≡ (if b then m ∷ filter q ks else filter q ks)
  by true true is rest = ap (λ js. m ∷ js) rest
  by false false is rest = rest
  by true false is rest = absurd (cc)
  by false true is rest = absurd (cc)

closed-filter : (q : ℕ → Bool) (m : ℕ) (ks : List ℕ) → is_closed m (filter q ks) ≡ (q m && is_closed m ks)
closed-filter q m [] = sym (none (q m)) where
  none : (b : Bool) → (b && false) ≡ false
  none true = refl
  none false = refl
closed-filter q m (j ∷ ks) = by (q j) refl (j == m) refl (closed-filter q m ks) where
  same : (j == m) ≡ true → q j ≡ q m
  same is = ap q (eqb-true j m is)

  by : (a : Bool) → q j ≡ a → (b : Bool) → (j == m) ≡ b → is_closed m (filter q ks) ≡ (q m && is_closed m ks) → is_closed m (if a then j ∷ filter q ks else filter q ks) ≡ (q m && (b || is_closed m ks))
  by true is_a true is_b rest = let yes : q m ≡ true = sym (same is_b) ∙ is_a in rw (is_b, yes) refl
  by true is_a false is_b rest = rw is_b rest
  by false is_a true is_b rest = let never : q m ≡ false = sym (same is_b) ∙ is_a in rest ∙ rw never refl
  by false is_a false is_b rest = rest

-- what a step leaves of an order is what it keeps of it
left-of : (most : ℕ) (e : Engine) (q : ℕ → Bool) (ks : List ℕ) → InOrder most e → e.touched ≡ filter q ks → filter (λ m. is_some (find m e.receivers)) ks ≡ e.touched
left-of most e q ks order is = filter-same (λ m. is_some (find m e.receivers)) q ks each ∙ sym is where
  each : (m : ℕ) → is_closed m ks ≡ true → is_some (find m e.receivers) ≡ q m
  each m there = sym (order.kept m) ∙ (ap (λ js. is_closed m js) is ∙ (closed-filter q m ks ∙ rw there (by (q m)))) where
    by : (b : Bool) → (b && true) ≡ b
    by true = refl
    by false = refl

-- ---- the moments that are left

left-keys : (most : ℕ) (e : Engine) (q : ℕ → Bool) (moments : List (ℕ × ℕ)) → InOrder most e → e.touched ≡ filter q (keys_of moments) → keys_of (still_kept e.receivers moments) ≡ e.touched
left-keys most e q moments order is = keys-filter (λ n. is_some (find n e.receivers)) moments ∙ left-of most e q (keys_of moments) order is

all-of : (ks : List ℕ) → ks ≡ filter (λ m. true) ks
all-of [] = refl
all-of (m ∷ ks) = ap (λ js. m ∷ js) (all-of ks)

closes-keys : (most : ℕ) (numbers : List ℕ) (s : Sessions) → InOrder most s.engine → keys_of s.moments ≡ (s.engine).touched → keys_of (closes numbers s).moments ≡ ((closes numbers s).engine).touched
unfolding closes with_receiver
closes-keys most [] s order are = are
closes-keys most (n ∷ numbers) s order are =
    closes-keys most numbers (left_by (with_receiver s.engine n ends) s.memory s.moments) (in-order-as most (with_receiver s.engine n ends) _ refl refl (order-ends most n s.engine order))
    (left-keys most (with_receiver s.engine n ends) (λ m. not (m == n)) s.moments (order-ends most n s.engine order)
    (ap (λ ks. untouched n ks) (sym are) ∙ untouched-filter n (keys_of s.moments)))

untouched_all-filter : (numbers ks : List ℕ) → (q : ℕ → Bool) × (untouched_all numbers ks ≡ filter q ks)
untouched_all-filter [] ks = ((λ m. true), all-of ks)
untouched_all-filter (n ∷ numbers) ks =
    let rest : (q : ℕ → Bool) × (untouched_all numbers ks ≡ filter q ks) = untouched_all-filter numbers ks in
    ((λ m. rest.0 m && not (m == n)), ap (λ js. untouched n js) rest.1 ∙ (untouched-filter n (filter rest.0 ks) ∙ both rest.0 (λ m. not (m == n)) ks)) where
      both : (p q : ℕ → Bool) (ks : List ℕ) → filter q (filter p ks) ≡ filter (λ m. p m && q m) ks
      both p q [] = refl
      both p q (m ∷ ks) = by (p m) (both p q ks) where
        by : (a : Bool) → filter q (filter p ks) ≡ filter (λ j. p j && q j) ks
            → filter q (if a then m ∷ filter p ks else filter p ks) ≡ (if (a && q m) then m ∷ filter (λ j. p j && q j) ks else filter (λ j. p j && q j) ks)
        by false rest = rest
        by true rest = by_q (q m) where
          by_q : (b : Bool) → (if b then m ∷ filter q (filter p ks) else filter q (filter p ks)) ≡ (if b then m ∷ filter (λ j. p j && q j) ks else filter (λ j. p j && q j) ks)
          by_q true = ap (λ js. m ∷ js) rest
          by_q false = rest

ticked-keys : (most : ℕ) (p : Party) (s : Sessions) (now : ℕ) → InOrder most s.engine → keys_of s.moments ≡ (s.engine).touched
    → keys_of (still_kept ((tick_step p s.engine now).engine).receivers s.moments) ≡ ((tick_step p s.engine now).engine).touched
unfolding tick_step
ticked-keys most p s now order are =
    let rest : (q : ℕ → Bool) × (untouched_all (ended (receiver_changes p now) (s.engine).receivers) (keys_of s.moments) ≡ filter q (keys_of s.moments)) = untouched_all-filter (ended (receiver_changes p now) (s.engine).receivers) (keys_of s.moments) in
    left-keys most (tick_step p s.engine now).engine rest.0 s.moments (tick-order most p s.engine now order)
    (ap (λ ks. untouched_all (ended (receiver_changes p now) (s.engine).receivers) ks) (sym are) ∙ rest.1)

-- ---- a segment

-- the order after a change is what is left of the old one, with the session last where it is touched
record FollowsFrom (e : Engine) (n : ℕ) (touched : Bool) (new : Engine) : Type 0 where
  q : ℕ → Bool
  is : new.touched ≡ filter q (if touched then untouched n e.touched ++ n ∷ [] else e.touched)

opened-follows : (e : Engine) (n : ℕ) (r : Receiving) (gone : Option ℕ) → ((g : ℕ) → gone ≡ Some g → (n == g) ≡ false) → FollowsFrom e n true (with_receiver (without_evicted e gone) n (keeps r))
unfolding with_receiver untouched
opened-follows e n r None apart = record { q = λ m. true; is = all-of (untouched n e.touched ++ n ∷ []) }
opened-follows e n r (Some g) apart = record { q = λ m. not (m == g); is = ap (λ ks. ks ++ n ∷ []) (swap e.touched) ∙ last (untouched n e.touched) (apart g refl) } where
  swap : (ks : List ℕ) → untouched n (untouched g ks) ≡ untouched g (untouched n ks)
  swap [] = refl
  swap (m ∷ ks) = by (m == g) refl (m == n) refl (swap ks) where
    by : (a : Bool) → (m == g) ≡ a → (b : Bool) → (m == n) ≡ b → untouched n (untouched g ks) ≡ untouched g (untouched n ks)
        → untouched n (if a then untouched g ks else m ∷ untouched g ks) ≡ untouched g (if b then untouched n ks else m ∷ untouched n ks)
    by true is_a true is_b rest = rest
    by true is_a false is_b rest = rw is_a rest
    by false is_a true is_b rest = rw is_b rest
    by false is_a false is_b rest = rw (is_a, is_b) (ap (λ js. m ∷ js) rest)

  last : (ks : List ℕ) → (n == g) ≡ false → untouched g ks ++ n ∷ [] ≡ filter (λ m. not (m == g)) (ks ++ n ∷ [])
  last [] is = rw is refl
  last (m ∷ ks) is = by (m == g) (last ks is) where
    by : (a : Bool) → untouched g ks ++ n ∷ [] ≡ filter (λ j. not (j == g)) (ks ++ n ∷ [])
        → (if a then untouched g ks else m ∷ untouched g ks) ++ n ∷ [] ≡ (if not a then m ∷ filter (λ j. not (j == g)) (ks ++ n ∷ []) else filter (λ j. not (j == g)) (ks ++ n ∷ []))
    by true rest = rest
    by false rest = ap (λ js. m ∷ js) rest

evicted-apart : (e : Engine) (n most g : ℕ) → find n e.receivers ≡ None → (if nat_le most (length e.receivers) then longest_untouched e.touched e.receivers else None) ≡ Some g → (n == g) ≡ false
evicted-apart e n most g none is = by (nat_le most (length e.receivers)) is where
  differ : {b : Bool} → b ≡ false → b ≡ true → ⊥
  differ is also = cc

  apart : is_some (find g e.receivers) ≡ true → (n == g) ≡ false
  apart kept = by_test (n == g) refl where
    by_test : (b : Bool) → (n == g) ≡ b → b ≡ false
    by_test true is = absurd (differ (ap (λ x. is_some x) (subst (λ m. find m e.receivers ≡ None) (eqb-true n g is) none)) kept)
    by_test false is = refl

  by : (many : Bool) → (if many then longest_untouched e.touched e.receivers else None) ≡ Some g → (n == g) ≡ false
  by true is = apart (longest-kept e.touched e.receivers g is)
  by false is = absurd (cc (is))

changed-follows : (k : FaceKeys) (n : ℕ) (e : Engine) (kept : Option Receiving) (next : Change Receiving) → find n e.receivers ≡ kept
    → FollowsFrom e n (is_kept_by next) (with_receiver (without_evicted e (makes_room k e (is_opened kept next))) n next)
unfolding with_receiver
changed-follows k n e None stays is = record { q = λ m. true; is = all-of e.touched }
changed-follows k n e (Some s) stays is = record { q = λ m. true; is = all-of e.touched }
changed-follows k n e None ends is = record { q = λ m. not (m == n); is = untouched-filter n e.touched }
changed-follows k n e (Some s) ends is = record { q = λ m. not (m == n); is = untouched-filter n e.touched }
changed-follows k n e (Some s) (keeps r) is = opened-follows e n r None (λ g no. absurd (cc (no)))
changed-follows k n e None (keeps r) is = opened-follows e n r (makes_room k e true) (λ g at. evicted-apart e n (k.bounds).sessions g is at)

segment-follows : (k : FaceKeys) (s : Sessions) (segment : SegmentValue) (now : ℕ)
    → FollowsFrom s.engine segment.session (is_of_peer k segment.originator && is_touched (answer_to k s segment now)) (answers k s (Ok segment) now).engine
unfolding replies
segment-follows k s segment now = by (segment.originator == (k.party).own) (segment.originator == (k.party).peer) where
  step : Option Reply → EngineStep
  step reply = replied_or_stranger s.engine (record { originator = segment.originator; number = segment.session }) reply

  same : (new : Engine) → new.touched ≡ (s.engine).touched → FollowsFrom s.engine segment.session false new
  same new is = record { q = λ m. true; is = is ∙ all-of (s.engine).touched }

  own : (used : Bool) (answer : Option (StepValue Sending)) → FollowsFrom s.engine segment.session false (step (if used then sender_replies s.engine segment.session answer else None)).engine
  own false answer = same s.engine refl
  own true None = same s.engine refl
  own true (Some told) = same _ refl

  peer : (answer : Option (StepValue Receiving)) → FollowsFrom s.engine segment.session (is_touched answer) (step (peer_replies k s.engine segment.session answer)).engine
  peer None = same s.engine refl
  peer (Some told) = changed-follows k segment.session s.engine (find segment.session (s.engine).receivers) told.next refl

  by : (is_own is_peer : Bool) → FollowsFrom s.engine segment.session ((is_peer && not is_own) && is_touched (answer_to k s segment now))
      (step (if is_own then (if is_used k.party s.engine segment.session then to_sender k.party s.engine segment now else None) else if is_peer then peer_replies k s.engine segment.session (answer_to k s segment now) else None)).engine
  by true true = own (is_used k.party s.engine segment.session) _
  by true false = own (is_used k.party s.engine segment.session) _
  by false true = peer (answer_to k s segment now)
  by false false = same s.engine refl

met-keys : (n now : ℕ) (touched : Bool) (moments : List (ℕ × ℕ)) (ks : List ℕ) → keys_of moments ≡ ks
    → keys_of (if touched then without n moments ++ (n, now) ∷ [] else moments) ≡ (if touched then untouched n ks ++ n ∷ [] else ks)
met-keys n now true moments ks are = keys-last n now (without n moments) ∙ ap (λ js. js ++ n ∷ []) (keys-without n moments ∙ ap (λ js. untouched n js) are)
met-keys n now false moments ks are = are

answered-keys : (k : FaceKeys) (s : Sessions) (read : Result SegmentValue (ℕ × SegmentCause)) (now : ℕ) → InOrder (k.bounds).sessions s.engine → 1 ≤ (k.bounds).sessions → keys_of s.moments ≡ (s.engine).touched
    → keys_of (answered k s read now).moments ≡ ((answered k s read now).engine).touched
answered-keys k s (Err refusal) now order some are = are
answered-keys k s (Ok segment) now order some are =
    let follows : FollowsFrom s.engine segment.session (is_of_peer k segment.originator && is_touched (answer_to k s segment now)) (answers k s (Ok segment) now).engine = segment-follows k s segment now in
    left-keys (k.bounds).sessions (answers k s (Ok segment) now).engine follows.q (moments_met k s segment now) (segment-order k s segment now order some)
    (follows.is ∙ ap (λ ks. filter follows.q ks) (sym (met-keys segment.session now (is_of_peer k segment.originator && is_touched (answer_to k s segment now)) s.moments (s.engine).touched are)))

-- ---- events

then-keys : (k : FaceKeys) (now : ℕ) (event : SessionsEvent) (s : Sessions) → 1 ≤ (k.bounds).sessions → InOrder (k.bounds).sessions s.engine → keys_of s.moments ≡ (s.engine).touched
    → keys_of (sessions_then k now event s).moments ≡ ((sessions_then k now event s).engine).touched
unfolding hears ticks
then-keys k now (a_datagram read) s some order are =
    closes-keys (k.bounds).sessions (to_trim k (answered k (passes k now s) read now)) (answered k (passes k now s) read now) (answered-order k (passes k now s) read now passed-order some)
    (answered-keys k (passes k now s) read now passed-order some (closes-keys (k.bounds).sessions (stale k now s) (record s { memory = passed now s.memory }) order are)) where
      passed-order : InOrder (k.bounds).sessions (passes k now s).engine
      passed-order = closes-order (k.bounds).sessions (stale k now s) (record s { memory = passed now s.memory }) order
then-keys k now a_tick s some order are =
    ticked-keys (k.bounds).sessions k.party (passes k now s) now (closes-order (k.bounds).sessions (stale k now s) (record s { memory = passed now s.memory }) order)
    (closes-keys (k.bounds).sessions (stale k now s) (record s { memory = passed now s.memory }) order are)
then-keys k now (a_block block) s some order are = are

pub moments_are_touched : MomentsAreTouched
moments_are_touched k start marks [] some = refl
moments_are_touched k start marks (event ∷ earlier) some =
    then-keys k event.0 event.1 (sessions_after k start marks earlier) some (holds k start marks earlier some).order (moments_are_touched k start marks earlier some)
