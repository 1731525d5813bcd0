-- After a tick of a face's sessions every deadline is after its moment, and stays so at that moment. A tick then does
-- nothing.

use Rattle.std.proofs.Common.{◌≡◌, ℕ, ◌+◌, ◌-◌, ◌≤◌, ◌==◌, Bool, true, false, List, [], ◌∷◌, length, if◌then◌else◌, Result, Ok, Err}
use Rattle.std.proofs.Common.{Option, None, Some, refl, ap, ◌∙◌, arith, nat_lt, nat_le}
use Rattle.std.proofs.lemmas.Bool.Decides.{nat_tests}
use Rattle.ltp_segment.specs.Policy.{PolicyValue}
use Rattle.ltp_segment.specs.declared.fault.SegmentCause.{SegmentCause}
use Rattle.ltp_segment.specs.Values.{SegmentValue}
use Rattle.ltp_session.specs.Engine.{Engine, Party, Reply, is_used, receiver_changes, receiver_ticks, replied_or_stranger, sender_changes, sender_replies, sender_ticks, tick_remarks, tick_segments, tick_step, to_sender, with_receiver, without_evicted}
use Rattle.ltp_session.specs.Receiver.{Receiving, ReceivingPhase, receiver_open}
use Rattle.ltp_session.specs.Receiver.{receiver_cancelling, receiver_due}
use Rattle.ltp_session.specs.Receiver.{receiver_tick}
use Rattle.ltp_session.specs.Sender.{Sending}
use Rattle.ltp_session.specs.Sender.{begin}
use Rattle.ltp_session.specs.Sender.{sender_tick, sending_timer}
use Rattle.ltp_session.specs.Sender.{sender_answers}
use Rattle.ltp_session.specs.Step.{Change, StepValue, after, ends, keeps, sending, stays}
use Rattle.ltp_session.specs.Table.{find, put, settled, then_kept, ticked, without}
use Rattle.ltp_laws.specs.Deadlines.{SenderAhead, PhaseAhead, ReceiverAhead, Waits}
use Rattle.ltp_laws.specs.Kept.{IfKept, IfKeeps}
use Rattle.ltp_laws.proofs.DeadlineLemmas.{hears-ahead, begin-ahead, tick-ahead, receiver-ahead}
use Rattle.ltp_laws.proofs.DeadlineLemmas.{receiver_tick-ahead}
use Rattle.session_memory.specs.Memory.{passed}
use Rattle.peer_sessions.specs.Keys.{FaceKeys}
use Rattle.peer_sessions.specs.Sessions.{Sessions, answer_to, answers, block_begins, closes, hears, is_opened, left_by, makes_room, passes, peer_replies, admission_in, replies, stale, ticks, to_trim}
use Rattle.peer_sessions.specs.Sessions.{answered as answered_by}

-- ---- all sessions of a table

abbrev AllHold : {S : Type 0} → (S → Type 0) → List (ℕ × S) → Type 0
AllHold P [] = Unit {0}
AllHold P (entry ∷ entries) = P entry.1 × AllHold P entries

hold-find : {S : Type 0} (P : S → Type 0) (n : ℕ) (entries : List (ℕ × S)) → AllHold P entries → IfKept P (find n entries)
unfolding find
hold-find P n [] all = tt
hold-find P n (entry ∷ entries) all = by_test (hold-find P n entries all.1) (entry.0 == n) where
  by_test : IfKept P (find n entries) → (test : Bool) → IfKept P (if test then Some entry.1 else find n entries)
  by_test rest true = all.0
  by_test rest false = rest

hold-put : {S : Type 0} (P : S → Type 0) (n : ℕ) (state : S) (entries : List (ℕ × S)) → P state → AllHold P entries → AllHold P (put n state entries)
unfolding put
hold-put P n state [] here all = (here, tt)
hold-put P n state (entry ∷ entries) here all = by_tests (hold-put P n state entries here all.1) (entry.0 == n) (nat_lt n entry.0) where
  by_tests : AllHold P (put n state entries) → (same before : Bool)
      → AllHold P (if same then (n, state) ∷ entries else if before then (n, state) ∷ (entry ∷ entries) else entry ∷ put n state entries)
  by_tests rest true before = (here, all.1)
  by_tests rest false true = (here, all)
  by_tests rest false false = (all.0, rest)

hold-without : {S : Type 0} (P : S → Type 0) (n : ℕ) (entries : List (ℕ × S)) → AllHold P entries → AllHold P (without n entries)
unfolding without
hold-without P n [] all = tt
hold-without P n (entry ∷ entries) all = by_test (hold-without P n entries all.1) (entry.0 == n) where
  by_test : AllHold P (without n entries) → (test : Bool) → AllHold P (if test then without n entries else entry ∷ without n entries)
  by_test rest true = rest
  by_test rest false = (all.0, rest)

hold-settled : {S : Type 0} (P : S → Type 0) (n : ℕ) (change : Change S) (entries : List (ℕ × S)) → IfKeeps P change → AllHold P entries → AllHold P (settled n change entries)
hold-settled P n stays entries kept all = all
hold-settled P n (keeps state) entries kept all = hold-put P n state entries kept all
hold-settled P n ends entries kept all = hold-without P n entries all

hold-then : {S : Type 0} (P : S → Type 0) (entry : ℕ × S) (change : Change S) (entries : List (ℕ × S)) → IfKept P (after change (Some entry.1)) → AllHold P entries
    → AllHold P (then_kept entry change entries)
hold-then P entry stays entries here all = (here, all)
hold-then P entry (keeps state) entries here all = (here, all)
hold-then P entry ends entries here all = all

hold-ticked : {S : Type 0} (P : S → Type 0) (change : S → Change S) → ((s : S) → IfKept P (after (change s) (Some s))) → (entries : List (ℕ × S)) → AllHold P (ticked change entries)
unfolding ticked
hold-ticked P change each [] = tt
hold-ticked P change each (entry ∷ entries) =
    let rest = hold-ticked P change each entries in hold-then P entry (change entry.1) (ticked change entries) (each entry.1) rest

-- ---- an engine

-- every deadline is after the moment, and the next session has this number
pub record IsAhead (c n : ℕ) (e : Engine) : Type 0 where
  pub senders : AllHold (SenderAhead c) e.senders
  pub receivers : AllHold (ReceiverAhead c) e.receivers
  pub next_is : e.next ≡ n

with-receiver : (c n : ℕ) (e : Engine) (session : ℕ) (change : Change Receiving) → IfKeeps (ReceiverAhead c) change → IsAhead c n e → IsAhead c n (with_receiver e session change)
unfolding with_receiver
with-receiver c n e session stays kept ahead = ahead
with-receiver c n e session (keeps r) kept ahead =
    record { senders = ahead.senders; receivers = hold-put (ReceiverAhead c) session r e.receivers kept ahead.receivers; next_is = ahead.next_is }
with-receiver c n e session ends kept ahead =
    record { senders = ahead.senders; receivers = hold-without (ReceiverAhead c) session e.receivers ahead.receivers; next_is = ahead.next_is }

without-evicted : (c n : ℕ) (e : Engine) (gone : Option ℕ) → IsAhead c n e → IsAhead c n (without_evicted e gone)
without-evicted c n e None ahead = ahead
without-evicted c n e (Some session) ahead = with-receiver c n e session ends tt ahead

abbrev engine_left : Engine → Option Reply → Engine
engine_left e None = e
engine_left e (Some reply) = reply.engine

ahead-sender : (k : FaceKeys) (e : Engine) (c n : ℕ) (s : SegmentValue) (now : ℕ) → Waits (k.party).policy → c ≤ now → IsAhead c n e → IsAhead c n (engine_left e (to_sender k.party e s now))
ahead-sender k e c n s now waits low ahead = by_step (sender_answers (k.party).policy (find s.session e.senders) s.content now) refl where
  by_step : (step : Option (StepValue Sending)) → sender_answers (k.party).policy (find s.session e.senders) s.content now ≡ step → IsAhead c n (engine_left e (sender_replies e s.session step))
  by_step None is = ahead
  by_step (Some step) is = record {
    senders = hold-settled (SenderAhead c) s.session step.next e.senders
        (hears-ahead (k.party).policy c (find s.session e.senders) s.content now step waits low (hold-find (SenderAhead c) s.session e.senders ahead.senders) is) ahead.senders;
    receivers = ahead.receivers;
    next_is = ahead.next_is;
  }

ahead-receiver : (k : FaceKeys) (x : Sessions) (c n : ℕ) (s : SegmentValue) (now : ℕ) → Waits (k.party).policy → c ≤ now → IsAhead c n x.engine
    → IsAhead c n (engine_left x.engine (peer_replies k x.engine s.session (answer_to k x s now)))
ahead-receiver k x c n s now waits low ahead = by_step (answer_to k x s now) refl where
  by_step : (step : Option (StepValue Receiving)) → answer_to k x s now ≡ step → IsAhead c n (engine_left x.engine (peer_replies k x.engine s.session step))
  by_step None is = ahead
  by_step (Some step) is =
      let gone : Option ℕ = makes_room k x.engine (is_opened (find s.session (x.engine).receivers) step.next) in
      with-receiver c n (without_evicted x.engine gone) s.session step.next
      (receiver-ahead (k.party).policy (admission_in k x s.session) c (find s.session (x.engine).receivers) s.content now step waits low
      (hold-find (ReceiverAhead c) s.session (x.engine).receivers ahead.receivers) is)
      (without-evicted c n x.engine gone ahead)

ahead-replied : (k : FaceKeys) (x : Sessions) (c n : ℕ) (s : SegmentValue) (now : ℕ) → Waits (k.party).policy → c ≤ now → IsAhead c n x.engine → IsAhead c n (engine_left x.engine (replies k x s now))
unfolding replies
ahead-replied k x c n s now waits low ahead = by_own (s.originator == (k.party).own) (is_used k.party x.engine s.session) (s.originator == (k.party).peer) where
  by_own : (own used peer : Bool) → IsAhead c n (engine_left x.engine (if own then (if used then to_sender k.party x.engine s now else None)
      else if peer then peer_replies k x.engine s.session (answer_to k x s now) else None))
  by_own true true peer = ahead-sender k x.engine c n s now waits low ahead
  by_own true false peer = ahead
  by_own false used true = ahead-receiver k x c n s now waits low ahead
  by_own false used false = ahead

ahead-told : (k : FaceKeys) (x : Sessions) (c n : ℕ) (read : Result SegmentValue (ℕ × SegmentCause)) (now : ℕ) → Waits (k.party).policy → c ≤ now → IsAhead c n x.engine
    → IsAhead c n (answers k x read now).engine
ahead-told k x c n (Err refusal) now waits low ahead = ahead
ahead-told k x c n (Ok s) now waits low ahead = by_reply (replies k x s now) (ahead-replied k x c n s now waits low ahead) where
  by_reply : (reply : Option Reply) → IsAhead c n (engine_left x.engine reply) → IsAhead c n (replied_or_stranger x.engine (record { originator = s.originator; number = s.session }) reply).engine
  by_reply None so = so
  by_reply (Some reply) so = so

-- ---- a face's sessions

left-ahead : (c n : ℕ) (e : Engine) → IsAhead c n e → IsAhead c n (record e { closed = [] })
left-ahead c n e ahead = record { senders = ahead.senders; receivers = ahead.receivers; next_is = ahead.next_is }

closes-ahead : (c n : ℕ) (numbers : List ℕ) (x : Sessions) → IsAhead c n x.engine → IsAhead c n (closes numbers x).engine
unfolding closes
closes-ahead c n [] x ahead = ahead
closes-ahead c n (session ∷ numbers) x ahead =
    closes-ahead c n numbers (left_by (with_receiver x.engine session ends) x.memory x.moments)
    (left-ahead c n (with_receiver x.engine session ends) (with-receiver c n x.engine session ends tt ahead))

answered-ahead : (k : FaceKeys) (x : Sessions) (c n : ℕ) (read : Result SegmentValue (ℕ × SegmentCause)) (now : ℕ) → Waits (k.party).policy → c ≤ now → IsAhead c n x.engine
    → IsAhead c n (answered_by k x read now).engine
answered-ahead k x c n (Err refusal) now waits low ahead = ahead
answered-ahead k x c n (Ok s) now waits low ahead = left-ahead c n (answers k x (Ok s) now).engine (ahead-told k x c n (Ok s) now waits low ahead)

pub hears-ahead_at : (k : FaceKeys) (x : Sessions) (c n : ℕ) (read : Result SegmentValue (ℕ × SegmentCause)) (now : ℕ) → Waits (k.party).policy → c ≤ now → IsAhead c n x.engine
    → IsAhead c n (hears k x read now).sessions.engine
unfolding hears
hears-ahead_at k x c n read now waits low ahead =
    let past = passes k now x in
    let done = answered_by k past read now in
    closes-ahead c n (to_trim k done) done
    (answered-ahead k past c n read now waits low (closes-ahead c n (stale k now x) (record x { memory = passed now x.memory }) ahead))

pub begins-ahead : (k : FaceKeys) (e : Engine) (c n : ℕ) (block : List ℕ) (now : ℕ) → Waits (k.party).policy → c ≤ now → IsAhead c n e
    → IsAhead c (n + 1) (block_begins k e block now).engine
begins-ahead k e c n block now waits low ahead = record {
  senders = hold-settled (SenderAhead c) e.next (begin (k.party).policy e.next block (length block) now).next e.senders
      (begin-ahead (k.party).policy c e.next block (length block) now waits low) ahead.senders;
  receivers = ahead.receivers;
  next_is = ap (λ (m : ℕ). m + 1) ahead.next_is;
}

ticked-ahead : (p : Party) (e : Engine) (now : ℕ) → Waits p.policy → IsAhead now e.next (tick_step p e now).engine
unfolding tick_step
ticked-ahead p e now waits = record {
  senders = hold-ticked (SenderAhead now) (sender_changes p now) (λ s. tick-ahead p.policy now s waits) e.senders;
  receivers = hold-ticked (ReceiverAhead now) (receiver_changes p now) (λ r. receiver_tick-ahead p.policy now r waits) e.receivers;
  next_is = refl;
}

pub ticks-ahead : (k : FaceKeys) (x : Sessions) (now : ℕ) → Waits (k.party).policy → IsAhead now (passes k now x).engine.next (ticks k x now).sessions.engine
unfolding ticks
ticks-ahead k x now waits =
    let e = (passes k now x).engine in
    left-ahead now e.next (tick_step k.party e now).engine (ticked-ahead k.party e now waits)

-- ---- a tick that is early

quiet-sender : (policy : PolicyValue) (now : ℕ) (s : Sending) → SenderAhead now s → sender_tick policy s now ≡ sending stays []
unfolding sender_tick
quiet-sender policy now s ahead = let early : nat_le (sending_timer s.phase).deadline now ≡ false = grind (arith, nat_tests) in rw early refl

quiet-receiver : (policy : PolicyValue) (now : ℕ) (r : Receiving) → ReceiverAhead now r → receiver_tick policy r now ≡ sending stays []
unfolding receiver_tick
quiet-receiver policy now r ahead = by_phase r.phase ahead where
  by_phase : (phase : ReceivingPhase) → PhaseAhead now phase → receiver_due policy r phase now ≡ sending stays []
  by_phase (receiver_open None) so = refl
  by_phase (receiver_open (Some pending)) so = let early : nat_le pending.timer.deadline now ≡ false = grind (arith, nat_tests) in rw early refl
  by_phase (receiver_cancelling reason timer) so = let early : nat_le timer.deadline now ≡ false = grind (arith, nat_tests) in rw early refl

quiet-segments : {S : Type 0} (P : S → Type 0) (tick : S → StepValue S) (o : ℕ) → ((s : S) → P s → tick s ≡ sending stays []) → (entries : List (ℕ × S)) → AllHold P entries
    → tick_segments tick o entries ≡ []
unfolding tick_segments
quiet-segments P tick o quiet [] all = refl
quiet-segments P tick o quiet (entry ∷ entries) all =
    let here = quiet entry.1 all.0 in let rest = quiet-segments P tick o quiet entries all.1 in rw (here, rest) refl

quiet-remarks : {S : Type 0} (P : S → Type 0) (tick : S → StepValue S) → ((s : S) → P s → tick s ≡ sending stays []) → (entries : List (ℕ × S)) → AllHold P entries
    → tick_remarks tick entries ≡ []
unfolding tick_remarks
quiet-remarks P tick quiet [] all = refl
quiet-remarks P tick quiet (entry ∷ entries) all =
    let here = quiet entry.1 all.0 in let rest = quiet-remarks P tick quiet entries all.1 in rw (here, rest) refl

quiet-kept : {S : Type 0} (P : S → Type 0) (tick : S → StepValue S) → ((s : S) → P s → tick s ≡ sending stays []) → (entries : List (ℕ × S)) → AllHold P entries
    → ticked (λ (s : S). (tick s).next) entries ≡ entries
unfolding ticked
quiet-kept P tick quiet [] all = refl
quiet-kept P tick quiet (entry ∷ entries) all =
    let here = quiet entry.1 all.0 in let rest = quiet-kept P tick quiet entries all.1 in rw (here, rest) refl

-- nothing is sent and noted, and the sessions stay
record IsStill (e : Engine) (p : Party) (now : ℕ) : Type 0 where
  out : (tick_step p e now).effects.out ≡ []
  notes : (tick_step p e now).effects.notes ≡ []
  senders : (tick_step p e now).engine.senders ≡ e.senders
  receivers : (tick_step p e now).engine.receivers ≡ e.receivers

still : (p : Party) (e : Engine) (now n : ℕ) → IsAhead now n e → IsStill e p now
unfolding tick_step
still p e now n ahead =
    let sender : (s : Sending) → SenderAhead now s → sender_tick p.policy s now ≡ sending stays [] = λ s so. quiet-sender p.policy now s so in
    let receiver : (r : Receiving) → ReceiverAhead now r → receiver_tick p.policy r now ≡ sending stays [] = λ r so. quiet-receiver p.policy now r so in
    let first = quiet-segments (SenderAhead now) (sender_ticks p now) p.own sender e.senders ahead.senders in
    let more = quiet-segments (ReceiverAhead now) (receiver_ticks p now) p.peer receiver e.receivers ahead.receivers in
    let one = quiet-remarks (SenderAhead now) (sender_ticks p now) sender e.senders ahead.senders in
    let two = quiet-remarks (ReceiverAhead now) (receiver_ticks p now) receiver e.receivers ahead.receivers in
    record {
      out = rw (first, more) refl;
      notes = rw (one, two) refl;
      senders = quiet-kept (SenderAhead now) (sender_ticks p now) sender e.senders ahead.senders;
      receivers = quiet-kept (ReceiverAhead now) (receiver_ticks p now) receiver e.receivers ahead.receivers;
    }

-- of a face's sessions, of which none is stale
pub record AreStill (k : FaceKeys) (x : Sessions) (now : ℕ) : Type 0 where
  pub gone : (ticks k x now).gone ≡ []
  pub forgotten : (ticks k x now).forgotten ≡ None
  pub out : (ticks k x now).effects.out ≡ []
  pub notes : (ticks k x now).effects.notes ≡ []
  pub greens : (ticks k x now).effects.greens ≡ []
  pub senders : (ticks k x now).sessions.engine.senders ≡ (x.engine).senders
  pub receivers : (ticks k x now).sessions.engine.receivers ≡ (x.engine).receivers
  pub next : (ticks k x now).sessions.engine.next ≡ (x.engine).next

pub are-still : (k : FaceKeys) (x : Sessions) (now n : ℕ) → IsAhead now n x.engine → stale k now x ≡ [] → AreStill k x now
unfolding ticks closes tick_step
are-still k x now n ahead none =
    let it = still k.party x.engine now n ahead in
    let same : (passes k now x).engine ≡ x.engine = ap (λ (numbers : List ℕ). (closes numbers (record x { memory = passed now x.memory })).engine) none in
    record {
      gone = none;
      forgotten = refl;
      out = ap (λ (e : Engine). (tick_step k.party e now).effects.out) same ∙ it.out;
      notes = ap (λ (e : Engine). (tick_step k.party e now).effects.notes) same ∙ it.notes;
      greens = refl;
      senders = ap (λ (e : Engine). (tick_step k.party e now).engine.senders) same ∙ it.senders;
      receivers = ap (λ (e : Engine). (tick_step k.party e now).engine.receivers) same ∙ it.receivers;
      next = ap (λ (e : Engine). e.next) same;
    }
