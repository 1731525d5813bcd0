-- The sessions of a face do what those of an engine do, where no bound is met.

use Rattle.std.proofs.Common.{◌≡◌, ℕ, ◌+◌, ◌<◌, ◌≤◌, ◌^◌, ◌==◌, Bool, true, false, ◌||◌, not, nat_le, if◌then◌else◌, nat_lt, List, [], ◌∷◌, ◌++◌, length, Option, None, Some, is_some, Result, Ok, Err, refl, sym, ◌∙◌, ap, subst, arith}
use Rattle.std.proofs.lemmas.Bool.Decides.{nat_tests}
use Rattle.std.proofs.lemmas.List.{append-nil}
use Rattle.std.specs.List.{AllByRecursion}
use Rattle.std.specs.Option.{option_map}
use Rattle.spans.proofs.Places.{length-uncovered}
use Rattle.ltp_segment.specs.declared.fault.SegmentCause.{SegmentCause}
use Rattle.ltp_segment.specs.declared.session.Note.{Note}
use Rattle.ltp_segment.specs.declared.session.Note.TheVariants as notes
use Rattle.ltp_segment.specs.Values.{SegmentValue}
use Rattle.ltp_session.specs.Step.{Change, stays, keeps, ends, StepValue}
use Rattle.ltp_session.specs.Sender.{Sending, sender_answers}
use Rattle.ltp_session.specs.Receiver.{Receiving, Admission, receiver_answers}
use Rattle.ltp_session.specs.Table.{find, put, without, then_kept, then_ended, ticked, ended}
use Rattle.ltp_session.specs.declared.name.SessionName.{SessionName}
use Rattle.ltp_session.specs.Engine.{Party, Engine, EngineStep, Reply, arrives, closed_runs, datagram_step, evicted_by, evicted_of, is_closed, is_used, list_of, longest_untouched, notes_of, admission_of, receiver_changes, receiver_replies, replied_or_stranger, sender_replies, tick_step, to_receiver, to_sender, with_receiver, without_evicted}
use Rattle.session_memory.specs.Numbers.{NumberSet, has, no_numbers, runs_in}
use Rattle.session_memory.specs.Memory.{Memory, closed, forgotten, forgotten_at, forgotten_by, is_due, is_full, is_old, is_remembered, passed, touched, turned, with_place}
use Rattle.session_memory.specs.Laws.{IsSet64}
use Rattle.session_memory.proofs.NumberLemmas.{none-among, numbers_have, runless}
use Rattle.peer_sessions.specs.Keys.{FaceKeys}
use Rattle.peer_sessions.specs.Sessions.{Sessions, answer_to, answered, answers, closes, evictions, forgets, forgotten_met, hears, hears_after, is_opened, is_touched, left_by, makes_room, memory_met, met, moments_met, passes, peer_replies, admission_in, replies, stale, then_noted, ticks, ticks_after, to_trim, with_closed}
use Rattle.peer_sessions.proofs.EngineLemmas.{longest-kept}
use Rattle.peer_sessions.proofs.MemoryLemmas.{AreNumbers, LAST, remembers, set-closed}
use Rattle.peer_serve_laws.specs.Sessions.{AreOf, HasPlace, HearsFreely, IsSmall, PassesFreely, SessionsAlike, StepsAlike, closing_only, party_with}

-- ---- an engine, but for the numbers that it closed

-- those, after a change of session n
abbrev closing : Change Receiving → ℕ → List ℕ → List ℕ
closing stays n numbers = numbers
closing (keeps r) n numbers = numbers
closing ends n numbers = n ∷ numbers

abbrev evicting : Option ℕ → List ℕ → List ℕ
evicting None numbers = numbers
evicting (Some n) numbers = n ∷ numbers

received-only : (numbers : List ℕ) (e : Engine) (n : ℕ) (change : Change Receiving)
    → with_receiver (closing_only numbers e) n change ≡ closing_only (closing change n numbers) (with_receiver e n change)
unfolding with_receiver
received-only numbers e n stays = refl
received-only numbers e n (keeps r) = refl
received-only numbers e n ends = refl

received-closed : (e : Engine) (n : ℕ) (change : Change Receiving) → (with_receiver e n change).closed ≡ closing change n e.closed
unfolding with_receiver
received-closed e n stays = refl
received-closed e n (keeps r) = refl
received-closed e n ends = refl

evicted-only : (numbers : List ℕ) (e : Engine) (gone : Option ℕ)
    → without_evicted (closing_only numbers e) gone ≡ closing_only (evicting gone numbers) (without_evicted e gone)
evicted-only numbers e None = refl
evicted-only numbers e (Some n) = received-only numbers e n ends

evicted-closed : (e : Engine) (gone : Option ℕ) → (without_evicted e gone).closed ≡ evicting gone e.closed
evicted-closed e None = refl
evicted-closed e (Some n) = received-closed e n ends

both-only : (e : Engine) (gone : Option ℕ) (n : ℕ) (change : Change Receiving)
    → with_receiver (without_evicted (closing_only [] e) gone) n change
    ≡ closing_only (closing change n (evicting gone [])) (with_receiver (without_evicted e gone) n change)
both-only e gone n change =
    ap (λ (f : Engine). with_receiver f n change) (evicted-only [] e gone) ∙ received-only (evicting gone []) (without_evicted e gone) n change

both-closed : (e : Engine) (gone : Option ℕ) (n : ℕ) (change : Change Receiving)
    → (with_receiver (without_evicted e gone) n change).closed ≡ closing change n (evicting gone []) ++ e.closed
both-closed e gone n change =
    received-closed (without_evicted e gone) n change ∙ (ap (closing change n) (evicted-closed e gone) ∙ by change gone)
  where
    by : (change : Change Receiving) (gone : Option ℕ) → closing change n (evicting gone e.closed) ≡ closing change n (evicting gone []) ++ e.closed
    by stays None = refl
    by stays (Some m) = refl
    by (keeps r) None = refl
    by (keeps r) (Some m) = refl
    by ends None = refl
    by ends (Some m) = refl

-- ---- numbers of 64 bits

abbrev AreSmall : List (ℕ × Receiving) → Type 0
AreSmall receivers = AllByRecursion (λ (entry : ℕ × Receiving). entry.0 < 2 ^ 64) receivers

abbrev Are64 : List ℕ → Type 0
Are64 numbers = (k : ℕ) → is_closed k numbers ≡ true → k < 2 ^ 64

at-most : (n : ℕ) → n < 2 ^ 64 → n ≤ LAST
at-most n few = omega (arith, few)

are-numbers : (numbers : List ℕ) → Are64 numbers → AreNumbers numbers
are-numbers numbers are k is = at-most k (are k is)

are-none : Are64 []
are-none k is = absurd (cc)

are-more : (n : ℕ) (numbers : List ℕ) → n < 2 ^ 64 → Are64 numbers → Are64 (n ∷ numbers)
are-more n numbers most are k is = by (n == k) refl is where
  by : (t : Bool) → (n == k) ≡ t → (t || is_closed k numbers) ≡ true → k < 2 ^ 64
  by true same is = let at : n ≡ k = grind (arith, nat_tests) in subst (λ m. m < 2 ^ 64) at most
  by false same is = are k is

are-both : (xs ys : List ℕ) → Are64 xs → Are64 ys → Are64 (xs ++ ys)
are-both [] ys are be = be
are-both (x ∷ xs) ys are be = are-more x (xs ++ ys) (are x (here x)) (are-both xs ys (λ k is. are k (there k is)) be) where
  here : (n : ℕ) → ((n == n) || is_closed n xs) ≡ true
  here n = let same : (n == n) ≡ true = grind (arith, nat_tests) in rw same refl

  there : (k : ℕ) → is_closed k xs ≡ true → ((x == k) || is_closed k xs) ≡ true
  there k is = by (x == k) where
    by : (t : Bool) → (t || is_closed k xs) ≡ true
    by true = refl
    by false = is

-- a session that is kept has such a number
small-found : (g : ℕ) (receivers : List (ℕ × Receiving)) → AreSmall receivers → is_some (find g receivers) ≡ true → g < 2 ^ 64
unfolding find
small-found g [] small there = absurd (cc)
small-found g (entry ∷ receivers) (first, small) there = by (entry.0 == g) refl there (λ more. small-found g receivers small more) where
  by : (t : Bool) → (entry.0 == g) ≡ t → is_some (if t then Some entry.1 else find g receivers) ≡ true → (is_some (find g receivers) ≡ true → g < 2 ^ 64) → g < 2 ^ 64
  by true same there rest = let at : entry.0 ≡ g = grind (arith, nat_tests) in subst (λ m. m < 2 ^ 64) at first
  by false same there rest = rest there

small-put : (n : ℕ) (r : Receiving) (receivers : List (ℕ × Receiving)) → n < 2 ^ 64 → AreSmall receivers → AreSmall (put n r receivers)
unfolding put
small-put n r [] most small = (most, tt)
small-put n r (entry ∷ receivers) most (first, small) = by (small-put n r receivers most small) (entry.0 == n) (nat_lt n entry.0) where
  by : AreSmall (put n r receivers) → (same before : Bool)
      → AreSmall (if same then (n, r) ∷ receivers else if before then (n, r) ∷ (entry ∷ receivers) else entry ∷ put n r receivers)
  by rest true before = (most, small)
  by rest false true = (most, (first, small))
  by rest false false = (first, rest)

small-without : (n : ℕ) (receivers : List (ℕ × Receiving)) → AreSmall receivers → AreSmall (without n receivers)
unfolding without
small-without n [] small = tt
small-without n (entry ∷ receivers) (first, small) = by (small-without n receivers small) (entry.0 == n) where
  by : AreSmall (without n receivers) → (same : Bool) → AreSmall (if same then without n receivers else entry ∷ without n receivers)
  by rest true = rest
  by rest false = (first, rest)

small-received : (e : Engine) (n : ℕ) (change : Change Receiving) → n < 2 ^ 64 → AreSmall e.receivers → AreSmall (with_receiver e n change).receivers
unfolding with_receiver
small-received e n stays most small = small
small-received e n (keeps r) most small = small-put n r e.receivers most small
small-received e n ends most small = small-without n e.receivers small

small-evicted : (e : Engine) (gone : Option ℕ) → AreSmall e.receivers → AreSmall (without_evicted e gone).receivers
unfolding with_receiver
small-evicted e None small = small
small-evicted e (Some n) small = small-without n e.receivers small

-- the session that makes room is one that is kept
evicted-small : (p : Party) (e : Engine) (kept : Option Receiving) (change : Change Receiving) → AreSmall e.receivers → Are64 (evicting (evicted_by p e kept change) [])
unfolding evicted_of
evicted-small p e (Some r) change small = are-none
evicted-small p e None stays small = are-none
evicted-small p e None ends small = are-none
evicted-small p e None (keeps r) small = by (nat_le p.sessions (length e.receivers)) where
  longest : (gone : Option ℕ) → longest_untouched e.touched e.receivers ≡ gone → Are64 (evicting gone [])
  longest None is = are-none
  longest (Some g) is = are-more g [] (small-found g e.receivers small (longest-kept e.touched e.receivers g is)) are-none

  by : (full : Bool) → Are64 (evicting (if full then longest_untouched e.touched e.receivers else None) [])
  by true = longest (longest_untouched e.touched e.receivers) refl
  by false = are-none

closing-small : (change : Change Receiving) (n : ℕ) (numbers : List ℕ) → n < 2 ^ 64 → Are64 numbers → Are64 (closing change n numbers)
closing-small stays n numbers most are = are
closing-small (keeps r) n numbers most are = are
closing-small ends n numbers most are = are-more n numbers most are

-- ---- a segment

-- a step of an engine that knows no closed numbers, and the same of one that knows some: besides them both close
-- these
record AreSame (before : List ℕ) (mine its : EngineStep) : Type 0 where
  new : List ℕ
  engine : mine.engine ≡ closing_only new its.engine
  closed_are : its.engine.closed ≡ new ++ before
  effects : mine.effects ≡ its.effects
  numbers : Are64 new
  small : AreSmall its.engine.receivers

-- the same of replies
record RepliesSame (before : List ℕ) (mine its : Reply) : Type 0 where
  new : List ℕ
  engine : mine.engine ≡ closing_only new its.engine
  closed_are : its.engine.closed ≡ new ++ before
  out : mine.out ≡ its.out
  up : mine.up ≡ its.up
  green : mine.green ≡ its.green
  notes : mine.notes ≡ its.notes
  numbers : Are64 new
  small : AreSmall its.engine.receivers

abbrev BothReply : List ℕ → Option Reply → Option Reply → Type 0
BothReply before None None = Unit {0}
BothReply before (Some mine) (Some its) = RepliesSame before mine its
BothReply before None (Some its) = ⊥
BothReply before (Some mine) None = ⊥

sender-same : (e : Engine) (n : ℕ) (step : Option (StepValue Sending)) → AreSmall e.receivers
    → BothReply e.closed (sender_replies (closing_only [] e) n step) (sender_replies e n step)
sender-same e n None small = tt
sender-same e n (Some step) small = record {
  new = [];
  engine = refl;
  closed_are = refl;
  out = refl;
  up = refl;
  green = refl;
  notes = refl;
  numbers = are-none;
  small = small;
}

room-same : (k : FaceKeys) (runs : ℕ) (e : Engine) (kept : Option Receiving) (change : Change Receiving)
    → makes_room k (closing_only [] e) (is_opened kept change) ≡ evicted_by (party_with k runs) e kept change
unfolding evicted_of
room-same k runs e None (keeps r) = refl
room-same k runs e None stays = refl
room-same k runs e None ends = refl
room-same k runs e (Some r) (keeps s) = refl
room-same k runs e (Some r) stays = refl
room-same k runs e (Some r) ends = refl

peer-same : (k : FaceKeys) (runs : ℕ) (e : Engine) (n : ℕ) (step : Option (StepValue Receiving)) → n < 2 ^ 64 → AreSmall e.receivers
    → BothReply e.closed (peer_replies k (closing_only [] e) n step) (receiver_replies (party_with k runs) e n step)
peer-same k runs e n None most small = tt
peer-same k runs e n (Some step) most small =
    let gone : Option ℕ = evicted_by (party_with k runs) e (find n e.receivers) step.next in
    let room : makes_room k (closing_only [] e) (is_opened (find n e.receivers) step.next) ≡ gone = room-same k runs e (find n e.receivers) step.next in
    record {
      new = closing step.next n (evicting gone []);
      engine = ap (λ (g : Option ℕ). with_receiver (without_evicted (closing_only [] e) g) n step.next) room ∙ both-only e gone n step.next;
      closed_are = both-closed e gone n step.next;
      out = refl;
      up = refl;
      green = refl;
      notes = ap (λ (g : Option ℕ). list_of (option_map notes.Evicted g) ++ notes_of n step) room;
      numbers = closing-small step.next n (evicting gone []) most (evicted-small (party_with k runs) e (find n e.receivers) step.next small);
      small = small-received (without_evicted e gone) n step.next most (small-evicted e gone small);
    }

-- what is answered
abbrev place_with : ℕ → ℕ → Bool → Bool → Admission
place_with n most over full = record { session = n; most = most; closed = over; full = full }

place-same : (k : FaceKeys) (runs : ℕ) (x : Sessions) (e : Engine) (n : ℕ) → is_remembered x.memory n ≡ is_closed n e.closed → HasPlace (party_with k runs) e
    → admission_in k x n ≡ admission_of (party_with k runs) e n
place-same k runs x e n over place = two n (k.party).most (is_remembered x.memory n) (is_closed n e.closed) (nat_le runs (closed_runs e.closed + length e.receivers)) over place where
  two : (n most : ℕ) (a b full : Bool) → a ≡ b → full ≡ false
      → place_with n most a false ≡ place_with n most b full
  two n most a b full same none = rw (same, none) refl

-- the sessions, but for the engine's closed numbers
abbrev sessions_over : Engine → Sessions → Sessions
sessions_over e x = record x { engine = closing_only [] e }

replies-same : (k : FaceKeys) (runs : ℕ) (x : Sessions) (e : Engine) (s : SegmentValue) (now : ℕ) → s.session < 2 ^ 64 → AreSmall e.receivers
    → is_remembered x.memory s.session ≡ is_closed s.session e.closed → HasPlace (party_with k runs) e
    → BothReply e.closed (replies k (sessions_over e x) s now) (arrives (party_with k runs) e s now)
unfolding replies arrives
replies-same k runs x e s now most small over place =
    by (s.originator == (k.party).own) (is_used (party_with k runs) e s.session) (s.originator == (k.party).peer)
  where
    by : (own used peer : Bool)
        → BothReply e.closed
        (if own then (if used then to_sender k.party (closing_only [] e) s now else None) else if peer then peer_replies k (closing_only [] e) s.session (answer_to k (sessions_over e x) s now) else None)
        (if own then (if used then to_sender (party_with k runs) e s now else None) else if peer then to_receiver (party_with k runs) e s now else None)
    by true true peer = sender-same e s.session (sender_answers (k.party).policy (find s.session e.senders) s.content now) small
    by true false peer = tt
    by false used true =
        subst (λ (p : Admission). BothReply e.closed
        (peer_replies k (closing_only [] e) s.session (receiver_answers (k.party).policy (admission_in k (sessions_over e x) s.session) (find s.session e.receivers) s.content now))
        (receiver_replies (party_with k runs) e s.session (receiver_answers (k.party).policy p (find s.session e.receivers) s.content now)))
        (place-same k runs (sessions_over e x) e s.session over place)
        (peer-same k runs e s.session (receiver_answers (k.party).policy (admission_in k (sessions_over e x) s.session) (find s.session e.receivers) s.content now) most small)
    by false used false = tt

replied-same : (e : Engine) (name : SessionName) (mine its : Option Reply) → AreSmall e.receivers → BothReply e.closed mine its
    → AreSame e.closed (replied_or_stranger (closing_only [] e) name mine) (replied_or_stranger e name its)
replied-same e name None None small both =
    record { new = []; engine = refl; closed_are = refl; effects = refl; numbers = are-none; small = small }
replied-same e name (Some mine) (Some its) small both = record {
  new = both.new;
  engine = both.engine;
  closed_are = both.closed_are;
  effects = rw (both.out, both.up, both.green, both.notes) refl;
  numbers = both.numbers;
  small = both.small;
}
replied-same e name None (Some its) small both = absurd both
replied-same e name (Some mine) None small both = absurd both

answers-same : (k : FaceKeys) (runs : ℕ) (x : Sessions) (e : Engine) (read : Result SegmentValue (ℕ × SegmentCause)) (now : ℕ) → IsSmall read → AreSmall e.receivers
    → ((n : ℕ) → n < 2 ^ 64 → is_remembered x.memory n ≡ is_closed n e.closed) → HasPlace (party_with k runs) e
    → AreSame e.closed (answers k (sessions_over e x) read now) (datagram_step (party_with k runs) e read now)
unfolding datagram_step
answers-same k runs x e (Err refusal) now most small over place =
    record { new = []; engine = refl; closed_are = refl; effects = refl; numbers = are-none; small = small }
answers-same k runs x e (Ok s) now most small over place =
    replied-same e (record { originator = s.originator; number = s.session }) (replies k (sessions_over e x) s now) (arrives (party_with k runs) e s now) small
    (replies-same k runs x e s now most small (over s.session most) place)

-- ---- what is remembered

-- the same numbers are remembered, and they are numbers of 64 bits
record RemembersSame (before after_it : Memory) : Type 0 where
  each : IsSet64 before.newer → (n : ℕ) → is_remembered after_it n ≡ is_remembered before n
  set : IsSet64 before.newer → IsSet64 after_it.newer

same-memory : (m : Memory) → RemembersSame m m
same-memory m = record { each = λ set n. refl; set = λ set. set }

-- a turn that forgets nothing
turned-same : (now : ℕ) (m : Memory) → runs_in (m.older) ≡ 0 → RemembersSame m (turned now m)
unfolding turned
turned-same now m none = record { each = λ set n. each n; set = λ set. length-uncovered LAST } where
  by : (newer older marked gone : Bool) → older ≡ false → gone ≡ false → (gone || newer || marked) ≡ (newer || older || marked)
  by true older marked gone no_older no_gone = rw no_gone refl
  by false older marked gone no_older no_gone = rw (no_older, no_gone) refl

  each : (n : ℕ) → (has no_numbers n || has m.newer n || has m.marked n) ≡ is_remembered m n
  each n = by (has m.newer n) (has m.older n) (has m.marked n) (has no_numbers n) (runless m.older n none) (none-among n)

passed-same : (now : ℕ) (m : Memory) → (is_due m now ≡ true → runs_in m.older ≡ 0) → RemembersSame m (passed now m)
passed-same now m free = by (is_due m now) free where
  by : (due : Bool) → (due ≡ true → runs_in m.older ≡ 0) → RemembersSame m (if due then turned now m else m)
  by true none = turned-same now m (none refl)
  by false none = same-memory m

placed-same : (now receiving : ℕ) (m : Memory) → forgotten_by m receiving ≡ None → RemembersSame m (with_place now receiving m)
placed-same now receiving m none = by (is_full m receiving) none where
  no_runs : (t : Bool) → (runs_in m.older == 0) ≡ t → (if t then None else Some (runs_in m.older)) ≡ None → runs_in m.older ≡ 0
  no_runs true is none = grind (arith, nat_tests)
  no_runs false is none = absurd (cc (none))

  by : (full : Bool) → (if full then forgotten m else None) ≡ None → RemembersSame m (if full then turned now m else m)
  by true none = turned-same now m (no_runs (runs_in m.older == 0) refl none)
  by false none = same-memory m

-- a number that is remembered goes into the newer ones
closed-same : (n : ℕ) (m before : Memory) → n < 2 ^ 64 → is_remembered before n ≡ true → RemembersSame before m → RemembersSame before (closed n m)
closed-same n m before most there same = record {
  each = λ set k. each set k;
  set = λ set. set-closed n m (same.set set) (at-most n most);
} where
  by : (newer older marked was here : Bool) → (newer || older || marked) ≡ was → (here ≡ true → was ≡ true) → ((newer || here) || older || marked) ≡ was
  by true older marked was here is known = is
  by false older marked was false is known = is
  by false older marked was true is known = sym (known refl)

  known : (k : ℕ) → (k == n) ≡ true → is_remembered before k ≡ true
  known k same_number = let at : n ≡ k = grind (arith, nat_tests) in subst (λ j. is_remembered before j ≡ true) at there

  each : IsSet64 before.newer → (k : ℕ) → is_remembered (closed n m) k ≡ is_remembered before k
  each set k =
      ap (λ (b : Bool). b || has m.older k || has m.marked k) (numbers_have.added m.newer n k (same.set set) (at-most n most))
      ∙ by (has m.newer k) (has m.older k) (has m.marked k) (is_remembered before k) (k == n) (same.each set k) (known k)

touched-same : (n now receiving : ℕ) (m : Memory) → n < 2 ^ 64 → is_remembered m n ≡ true → forgotten_at m n receiving ≡ None → RemembersSame m (touched n now receiving m)
touched-same n now receiving m most there none = by (is_old m n) none where
  by : (old : Bool) → (if old then forgotten_by m receiving else None) ≡ None → RemembersSame m (if old then closed n (with_place now receiving m) else m)
  by true none = closed-same n (with_place now receiving m) m most there (placed-same now receiving m none)
  by false none = same-memory m

met-same : (k : FaceKeys) (x : Sessions) (s : SegmentValue) (now : ℕ) → s.session < 2 ^ 64 → forgotten_met k x s now ≡ None → RemembersSame x.memory (memory_met k x s now)
met-same k x s now most none = by (met k x s) (is_remembered x.memory s.session) refl (is_touched (answer_to k x s now)) none where
  receiving : ℕ
  receiving = length (x.engine).receivers

  by : (is_met over : Bool) → is_remembered x.memory s.session ≡ over → (opens : Bool)
      → (if not is_met then None else if over then forgotten_at x.memory s.session receiving else if opens then forgotten_by x.memory receiving else None) ≡ None
      → RemembersSame x.memory (if not is_met then x.memory else if over then touched s.session now receiving x.memory
      else if opens then with_place now receiving x.memory else x.memory)
  by false over is opens none = same-memory x.memory
  by true true is opens none = touched-same s.session now receiving x.memory most is none
  by true false is true none = placed-same now receiving x.memory none
  by true false is false none = same-memory x.memory

-- numbers that a step closes
older-stays : (numbers : List ℕ) (m : Memory) → (with_closed numbers m).older ≡ m.older
unfolding with_closed
older-stays [] m = refl
older-stays (n ∷ numbers) m = older-stays numbers m

marked-stays : (numbers : List ℕ) (m : Memory) → (with_closed numbers m).marked ≡ m.marked
unfolding with_closed
marked-stays [] m = refl
marked-stays (n ∷ numbers) m = marked-stays numbers m

closed-append : (n : ℕ) (xs ys : List ℕ) → is_closed n (xs ++ ys) ≡ (is_closed n xs || is_closed n ys)
closed-append n [] ys = refl
closed-append n (x ∷ xs) ys = by (x == n) (closed-append n xs ys) where
  by : (t : Bool) → is_closed n (xs ++ ys) ≡ (is_closed n xs || is_closed n ys) → (t || is_closed n (xs ++ ys)) ≡ ((t || is_closed n xs) || is_closed n ys)
  by true rest = refl
  by false rest = rest

over-after : (new before : List ℕ) (m was : Memory) (n : ℕ) → RemembersSame was m → IsSet64 was.newer → Are64 new
    → is_remembered was n ≡ is_closed n before → is_remembered (with_closed new m) n ≡ is_closed n (new ++ before)
over-after new before m was n same set are over =
    ap (λ (o : NumberSet). has (with_closed new m).newer n || has o n || has (with_closed new m).marked n) (older-stays new m)
    ∙ (ap (λ (o : NumberSet). has (with_closed new m).newer n || has m.older n || has o n) (marked-stays new m)
    ∙ (ap (λ (b : Bool). b || has m.older n || has m.marked n) ((remembers new m (same.set set) (are-numbers new are)).has_each n)
    ∙ (by (has m.newer n) (has m.older n) (has m.marked n) (is_closed n new) (is_closed n before) (same.each set n ∙ over)
    ∙ sym (closed-append n new before))))
  where
    by : (newer older marked here before : Bool) → (newer || older || marked) ≡ before → ((newer || here) || older || marked) ≡ (here || before)
    by true older marked true before is = refl
    by true older marked false before is = is
    by false older marked true before is = refl
    by false older marked false before is = is

-- ---- a datagram

-- what a step of both leaves
left-of : (before : List ℕ) (mine its : EngineStep) (m was : Memory) (moments : List (ℕ × ℕ)) → AreSame before mine its → RemembersSame was m → IsSet64 was.newer
    → ((n : ℕ) → n < 2 ^ 64 → is_remembered was n ≡ is_closed n before) → AreOf its.engine (left_by mine.engine m moments)
left-of before mine its m was moments same remembered set over = record {
  engine = ap (λ (e : Engine). record e { closed = [] }) same.engine;
  over = λ n most. subst (λ (new : List ℕ). is_remembered (with_closed new m) n ≡ is_closed n its.engine.closed) (sym (ap (λ (e : Engine). e.closed) same.engine))
      (subst (λ (all : List ℕ). is_remembered (with_closed same.new m) n ≡ is_closed n all) (sym same.closed_are)
      (over-after same.new before m was n remembered set same.numbers (over n most)));
  set = subst (λ (new : List ℕ). IsSet64 (with_closed new m).newer) (sym (ap (λ (e : Engine). e.closed) same.engine))
      (remembers same.new m (remembered.set set) (are-numbers same.new same.numbers)).set;
  numbers = same.small;
}

same-then : (a b c : Memory) → RemembersSame a b → RemembersSame b c → RemembersSame a c
same-then a b c one two = record {
  each = λ set n. two.each (one.set set) n ∙ one.each set n;
  set = λ set. two.set (one.set set);
}

-- time passed, and no session was closed
abbrev later : ℕ → Engine → Sessions → Sessions
later now e x = record { engine = closing_only [] e; memory = passed now x.memory; moments = x.moments }

passes-are : (k : FaceKeys) (x : Sessions) (e : Engine) (now : ℕ) → x.engine ≡ closing_only [] e → stale k now x ≡ [] → passes k now x ≡ later now e x
unfolding closes
passes-are k x e now is none =
    ap (λ (l : List ℕ). closes l (record x { memory = passed now x.memory })) none
    ∙ ap (λ (f : Engine). record { engine = f; memory = passed now x.memory; moments = x.moments }) is

answered-of : (k : FaceKeys) (runs : ℕ) (x : Sessions) (e : Engine) (read : Result SegmentValue (ℕ × SegmentCause)) (now : ℕ) → AreOf e x → IsSmall read
    → RemembersSame x.memory (passed now x.memory) → forgets k (later now e x) read now ≡ None → HasPlace (party_with k runs) e
    → AreSame e.closed (answers k (later now e x) read now) (datagram_step (party_with k runs) e read now)
    → AreOf (datagram_step (party_with k runs) e read now).engine (answered k (later now e x) read now)
unfolding datagram_step
answered-of k runs x e (Err refusal) now of most same none place both = record {
  engine = refl;
  over = λ n small. same.each of.set n ∙ of.over n small;
  set = same.set of.set;
  numbers = of.numbers;
}
answered-of k runs x e (Ok s) now of most same none place both =
    left-of e.closed (answers k (later now e x) (Ok s) now) (datagram_step (party_with k runs) e (Ok s) now) (memory_met k (later now e x) s now) x.memory
    (moments_met k (later now e x) s now) both
    (same-then x.memory (passed now x.memory) (memory_met k (later now e x) s now) same (met-same k (later now e x) s now most none)) of.set of.over

heard-after : (k : FaceKeys) (runs : ℕ) (x : Sessions) (e : Engine) (read : Result SegmentValue (ℕ × SegmentCause)) (now : ℕ) → AreOf e x → IsSmall read
    → RemembersSame x.memory (passed now x.memory) → forgets k (later now e x) read now ≡ None → to_trim k (answered k (later now e x) read now) ≡ []
    → HasPlace (party_with k runs) e → StepsAlike (hears_after k [] (later now e x) read now) (datagram_step (party_with k runs) e read now)
unfolding closes
heard-after k runs x e read now of most same none trimmed place =
    let both = answers-same k runs (later now e x) e read now most of.numbers (λ n small. same.each of.set n ∙ of.over n small) place in
    let after : Sessions = answered k (later now e x) read now in
    record {
      gone = refl;
      forgotten = none;
      effects = ap (λ (l : List ℕ). then_noted (answers k (later now e x) read now).effects (evictions l)) trimmed
          ∙ (ap (λ (l : List Note). record (answers k (later now e x) read now).effects { notes = l }) (append-nil (answers k (later now e x) read now).effects.notes)
          ∙ both.effects);
      sessions = subst (AreOf (datagram_step (party_with k runs) e read now).engine) (sym (ap (λ (l : List ℕ). closes l after) trimmed))
          (answered-of k runs x e read now of most same none place both);
    }

heard-alike : (k : FaceKeys) (runs : ℕ) (x : Sessions) (e : Engine) (read : Result SegmentValue (ℕ × SegmentCause)) (now : ℕ) → AreOf e x → IsSmall read → HearsFreely k x read now
    → HasPlace (party_with k runs) e → StepsAlike (hears k x read now) (datagram_step (party_with k runs) e read now)
unfolding hears
heard-alike k runs x e read now of most free place =
    let past : passes k now x ≡ later now e x = passes-are k x e now of.engine free.before.gone in
    let none : forgets k (later now e x) read now ≡ None = subst (λ (y : Sessions). forgets k y read now ≡ None) past free.forgotten in
    let trimmed : to_trim k (answered k (later now e x) read now) ≡ [] = subst (λ (y : Sessions). to_trim k (answered k y read now) ≡ []) past free.trimmed in
    subst (λ (l : List ℕ). StepsAlike (hears_after k l (passes k now x) read now) (datagram_step (party_with k runs) e read now)) (sym free.before.gone)
    (subst (λ (y : Sessions). StepsAlike (hears_after k [] y read now) (datagram_step (party_with k runs) e read now)) (sym past)
    (heard-after k runs x e read now of most (passed-same now x.memory free.before.turn) none trimmed place))

-- ---- a tick

small-ticked : (change : Receiving → Change Receiving) (receivers : List (ℕ × Receiving)) → AreSmall receivers → AreSmall (ticked change receivers)
unfolding ticked
small-ticked change [] small = tt
small-ticked change (entry ∷ receivers) (first, small) = by (change entry.1) (small-ticked change receivers small) where
  by : (c : Change Receiving) → AreSmall (ticked change receivers) → AreSmall (then_kept entry c (ticked change receivers))
  by stays rest = (first, rest)
  by (keeps r) rest = (first, rest)
  by ends rest = rest

small-ended : (change : Receiving → Change Receiving) (receivers : List (ℕ × Receiving)) → AreSmall receivers → Are64 (ended change receivers)
unfolding ended
small-ended change [] small = are-none
small-ended change (entry ∷ receivers) (first, small) = by (change entry.1) (small-ended change receivers small) where
  by : (c : Change Receiving) → Are64 (ended change receivers) → Are64 (then_ended entry.0 c (ended change receivers))
  by stays rest = rest
  by (keeps r) rest = rest
  by ends rest = are-more entry.0 (ended change receivers) first rest

tick-same : (k : FaceKeys) (runs : ℕ) (e : Engine) (now : ℕ) → AreSmall e.receivers
    → AreSame e.closed (tick_step k.party (closing_only [] e) now) (tick_step (party_with k runs) e now)
unfolding tick_step
tick-same k runs e now small =
    let over : List ℕ = ended (receiver_changes k.party now) e.receivers in
    record {
      new = over;
      engine = ap (λ (l : List ℕ). closing_only l (tick_step (party_with k runs) e now).engine) (append-nil over);
      closed_are = refl;
      effects = refl;
      numbers = small-ended (receiver_changes k.party now) e.receivers small;
      small = small-ticked (receiver_changes k.party now) e.receivers small;
    }

ticked-alike : (k : FaceKeys) (runs : ℕ) (x : Sessions) (e : Engine) (now : ℕ) → AreOf e x → PassesFreely k x now
    → StepsAlike (ticks k x now) (tick_step (party_with k runs) e now)
unfolding ticks
ticked-alike k runs x e now of free =
    let past : passes k now x ≡ later now e x = passes-are k x e now of.engine free.gone in
    let both = tick-same k runs e now of.numbers in
    let same = passed-same now x.memory free.turn in
    subst (λ (l : List ℕ). StepsAlike (ticks_after k l (passes k now x) now) (tick_step (party_with k runs) e now)) (sym free.gone)
    (subst (λ (y : Sessions). StepsAlike (ticks_after k [] y now) (tick_step (party_with k runs) e now)) (sym past) (record {
      gone = refl;
      forgotten = refl;
      effects = both.effects;
      sessions = left-of e.closed (tick_step k.party (closing_only [] e) now) (tick_step (party_with k runs) e now) (passed now x.memory) x.memory x.moments both same of.set of.over;
    }))

pub sessions-alike : SessionsAlike
sessions-alike = record { heard = heard-alike; ticked = ticked-alike }
