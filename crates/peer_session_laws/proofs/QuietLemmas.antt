-- A session of the peer that is marked: a face's sessions never keep it, and never send a report on it.

use Rattle.std.proofs.Common.{◌≡◌, ℕ, ◌<◌, ◌≤◌, ◌^◌, Bool, true, false, not, ◌==◌, nat_lt, List, [], ◌∷◌, Option, None, Some, Result, Ok, Err, if◌then◌else◌, refl, sym, ap, ◌∙◌, subst}
use Rattle.std.proofs.lemmas.Bool.{eqb-true}
use Rattle.std.specs.List.{AllByRecursion}
use Rattle.ltp_segment.specs.declared.fault.SegmentCause.{SegmentCause}
use Rattle.ltp_segment.specs.Kinds.{is_red}
use Rattle.ltp_segment.specs.Policy.{PolicyValue}
use Rattle.ltp_segment.specs.Values.{ContentValue, SegmentValue, a_piece, a_report, a_report_ack, a_sender_cancel, a_sender_cancel_ack, a_receiver_cancel, a_receiver_cancel_ack}
use Rattle.ltp_session.specs.declared.name.SessionName.{SessionName}
use Rattle.ltp_session.specs.Cells.{is_no_part}
use Rattle.ltp_session.specs.Engine.{Engine, EngineStep, Party, Reply, is_closed, is_used, receiver_changes, receiver_ticks, replied_or_stranger, sender_replies, sender_ticks, tick_segments, tick_step, to_sender, with_receiver, without_evicted}
use Rattle.ltp_session.specs.Receiver.{Admission, Receiving, receiver_answers}
use Rattle.ltp_session.specs.Sender.{Sending, sender_answers}
use Rattle.ltp_session.specs.Step.{Change, StepValue, stays, keeps, ends}
use Rattle.ltp_session.specs.Table.{find, put, ticked, then_kept, without}
use Rattle.ltp_session.specs.Views.{headed_all}
use Rattle.ltp_laws.proofs.ListLemmas.{all-append, both_arms, by_arms}
use Rattle.session_memory.specs.Memory.{is_remembered, passed}
use Rattle.session_memory.specs.Numbers.{NumberSet, has}
use Rattle.peer_sessions.specs.Keys.{FaceKeys}
use Rattle.peer_sessions.specs.Sessions.{Sessions, answer_to, answered, answers, closes, hears, left_by, makes_room, is_opened, passes, peer_replies, admission_in, replies, stale, ticks, to_trim}
use Rattle.peer_sessions.specs.Runs.{SessionsEvent, a_block, a_datagram, a_tick, sessions_then}
use Rattle.peer_sessions.proofs.MemoryLemmas.{LAST}
use Rattle.peer_once.specs.Runs.{Face, TimedEvent, sessions_in}
use Rattle.peer_once.proofs.MemoryLemmas.{for_good, lasts-remembered, start-marked}
use Rattle.peer_once.proofs.TimeLemmas.{keeps-event, keeps-passes}
use Rattle.gate_records.proofs.ReportLemmas.{AreSmall, IfRead}
use Rattle.peer_session_laws.proofs.SaidLemmas.{AllOther, AreQuiet, IsQuiet, quiet-aparts, quiet-others, sender-says, tick-says}

-- ---- sessions that are kept are others

-- another session of the peer
record IsApart (p : Party) (n m : ℕ) : Type 0 where
  other : (m == n) ≡ false
  peer : p.peer < 2 ^ 64
  session : m < 2 ^ 64

abbrev AreApart : Party → ℕ → List (ℕ × Receiving) → Type 0
AreApart p n entries = AllByRecursion (λ entry. IsApart p n entry.0) entries

apart-put : (p : Party) (n m : ℕ) (r : Receiving) (entries : List (ℕ × Receiving)) → IsApart p n m → AreApart p n entries → AreApart p n (put m r entries)
unfolding put
apart-put p n m r [] is all = (is, tt)
apart-put p n m r (entry ∷ entries) is all = by_tests (entry.0 == m) (nat_lt m entry.0) (apart-put p n m r entries is all.1) where
  by_tests : (same less : Bool) → AreApart p n (put m r entries)
      → AreApart p n (if same then (m, r) ∷ entries else if less then (m, r) ∷ (entry ∷ entries) else entry ∷ put m r entries)
  by_tests true less rest = (is, all.1)
  by_tests false true rest = (is, all)
  by_tests false false rest = (all.0, rest)

apart-without : (p : Party) (n m : ℕ) (entries : List (ℕ × Receiving)) → AreApart p n entries → AreApart p n (without m entries)
unfolding without
apart-without p n m [] all = tt
apart-without p n m (entry ∷ entries) all = by_test (entry.0 == m) (apart-without p n m entries all.1) where
  by_test : (same : Bool) → AreApart p n (without m entries) → AreApart p n (if same then without m entries else entry ∷ without m entries)
  by_test true rest = rest
  by_test false rest = (all.0, rest)

apart-ticked : (p : Party) (n : ℕ) (change : Receiving → Change Receiving) (entries : List (ℕ × Receiving)) → AreApart p n entries → AreApart p n (ticked change entries)
unfolding ticked
apart-ticked p n change [] all = tt
apart-ticked p n change (entry ∷ entries) all = by_change (change entry.1) (apart-ticked p n change entries all.1) where
  by_change : (c : Change Receiving) → AreApart p n (ticked change entries) → AreApart p n (then_kept entry c (ticked change entries))
  by_change stays rest = (all.0, rest)
  by_change (keeps r) rest = (all.0, rest)
  by_change ends rest = rest

apart-find : (p : Party) (n : ℕ) (entries : List (ℕ × Receiving)) → AreApart p n entries → find n entries ≡ None
unfolding find
apart-find p n [] all = refl
apart-find p n (entry ∷ entries) all =
    let rest = apart-find p n entries all.1 in
    ap (λ (t : Bool). if t then Some entry.1 else find n entries) ((all.0).other) ∙ rest

apart-ends : (p : Party) (n m : ℕ) (e : Engine) → AreApart p n e.receivers → AreApart p n (with_receiver e m ends).receivers
unfolding with_receiver
apart-ends p n m e all = apart-without p n m e.receivers all

apart-evicted : (p : Party) (n : ℕ) (e : Engine) (gone : Option ℕ) → AreApart p n e.receivers → AreApart p n (without_evicted e gone).receivers
apart-evicted p n e None all = all
apart-evicted p n e (Some m) all = apart-ends p n m e all

apart-with : (p : Party) (n m : ℕ) (change : Change Receiving) (e : Engine) → IsApart p n m → AreApart p n e.receivers → AreApart p n (with_receiver e m change).receivers
unfolding with_receiver
apart-with p n m stays e is all = all
apart-with p n m (keeps r) e is all = apart-put p n m r e.receivers is all
apart-with p n m ends e is all = apart-ends p n m e all

apart-closes : (p : Party) (n : ℕ) (numbers : List ℕ) (s : Sessions) → AreApart p n s.engine.receivers → AreApart p n (closes numbers s).engine.receivers
unfolding closes
apart-closes p n [] s all = all
apart-closes p n (m ∷ numbers) s all = apart-closes p n numbers (left_by (with_receiver s.engine m ends) s.memory s.moments) (apart-ends p n m s.engine all)

-- ---- a segment

-- about one that is remembered and isn't kept nothing is done but to acknowledge
record Rests (t : StepValue Receiving) : Type 0 where
  next : t.next ≡ stays
  out : AllOther t.out

abbrev RestsIn : Option (StepValue Receiving) → Type 0
RestsIn None = Unit {0}
RestsIn (Some t) = Rests t

rest-answers : (policy : PolicyValue) (place : Admission) (content : ContentValue) (now : ℕ) → place.closed ≡ true → RestsIn (receiver_answers policy place None content now)
unfolding receiver_answers
rest-answers policy place (a_piece piece) now closed =
    both_arms Rests (not (piece.service == 1)) _ _ (record { next = refl; out = (tt, tt) })
    (both_arms Rests (is_no_part place.most piece.offset piece.body) _ _ (record { next = refl; out = tt })
    (both_arms Rests (not (is_red piece.kind)) _ _ (record { next = refl; out = tt })
    (by_arms Rests place.closed _ _ (λ is. record { next = refl; out = tt }) (λ open_number. absurd (cc (closed, open_number))))))
rest-answers policy place (a_report report) now closed = tt
rest-answers policy place (a_report_ack serial) now closed = record { next = refl; out = tt }
rest-answers policy place (a_sender_cancel reason) now closed = record { next = refl; out = (tt, tt) }
rest-answers policy place a_sender_cancel_ack now closed = tt
rest-answers policy place (a_receiver_cancel reason) now closed = tt
rest-answers policy place a_receiver_cancel_ack now closed = record { next = refl; out = tt }

rest-engine : (k : FaceKeys) (e : Engine) (m : ℕ) (kept : Option Receiving) (change : Change Receiving) → kept ≡ None → change ≡ stays
    → with_receiver (without_evicted e (makes_room k e (is_opened kept change))) m change ≡ e
unfolding with_receiver
rest-engine k e m kept change none rests = rw (none, rests) refl

-- the others are still kept, and none of these is a report on the session
record Quiet (p : Party) (n : ℕ) (step : EngineStep) : Type 0 where
  kept : AreApart p n step.engine.receivers
  out : AreQuiet n step.effects.out

quiet-answers : (k : FaceKeys) (s : Sessions) (segment : SegmentValue) (now n : ℕ) → AreSmall segment → is_remembered s.memory n ≡ true
    → AreApart k.party n s.engine.receivers → Quiet k.party n (answers k s (Ok segment) now)
unfolding replies
quiet-answers k s segment now n small over all = by (segment.originator == k.party.own) (segment.originator == k.party.peer) refl where
  e : Engine
  e = s.engine

  name : SessionName
  name = record { originator = segment.originator; number = segment.session }

  IsSo : Option Reply → Type 0
  IsSo reply = Quiet k.party n (replied_or_stranger e name reply)

  stranger : IsSo None
  stranger = record { kept = all; out = tt }

  own : (used : Bool) (answer : Option (StepValue Sending)) → sender_answers k.party.policy (find segment.session e.senders) segment.content now ≡ answer
      → IsSo (if used then sender_replies e segment.session answer else None)
  own false answer is = stranger
  own true None is = stranger
  own true (Some t) is = record { kept = all; out = quiet-others n name t.out (sender-says k.party.policy (find segment.session e.senders) segment.content now t is) }

  mine : (answer : Option (StepValue Receiving)) → find segment.session e.receivers ≡ None → RestsIn answer → IsSo (peer_replies k e segment.session answer)
  mine None none rests = stranger
  mine (Some t) none rests = record {
    kept = subst (λ (f : Engine). AreApart k.party n f.receivers) (sym (rest-engine k e segment.session (find segment.session e.receivers) t.next none rests.next)) all;
    out = quiet-others n name t.out rests.out;
  }

  another : (answer : Option (StepValue Receiving)) → IsApart k.party n segment.session → IsSo (peer_replies k e segment.session answer)
  another None is = stranger
  another (Some t) is =
      let gone : Option ℕ = makes_room k e (is_opened (find segment.session e.receivers) t.next) in
      record {
        kept = apart-with k.party n segment.session t.next (without_evicted e gone) is (apart-evicted k.party n e gone all);
        out = quiet-aparts n name small.originator small.session is.other t.out;
      }

  answer_is : (kept : Option Receiving) → kept ≡ None → (m : ℕ) → m ≡ n → RestsIn (receiver_answers k.party.policy (admission_in k s m) kept segment.content now)
  answer_is kept none m here = subst (λ (x : Option Receiving). RestsIn (receiver_answers k.party.policy (admission_in k s m) x segment.content now)) (sym none)
      (rest-answers k.party.policy (admission_in k s m) segment.content now (subst (λ (j : ℕ). is_remembered s.memory j ≡ true) (sym here) over))

  peer : segment.originator ≡ k.party.peer → (same : Bool) → (segment.session == n) ≡ same → IsSo (peer_replies k e segment.session (answer_to k s segment now))
  peer of_peer true is =
      let here = eqb-true segment.session n is in
      let none = subst (λ (m : ℕ). find m e.receivers ≡ None) (sym here) (apart-find k.party n e.receivers all) in
      mine (answer_to k s segment now) none (answer_is (find segment.session e.receivers) none segment.session here)
  peer of_peer false is = another (answer_to k s segment now)
      (record { other = is; peer = subst (λ (m : ℕ). m < 2 ^ 64) of_peer small.originator; session = small.session })

  by : (is_own is_peer : Bool) → (segment.originator == k.party.peer) ≡ is_peer → IsSo (if is_own then (if is_used k.party e segment.session then to_sender k.party e segment now else None)
      else if is_peer then peer_replies k e segment.session (answer_to k s segment now) else None)
  by true is_peer of_peer = own (is_used k.party e segment.session) _ refl
  by false true of_peer = peer (eqb-true segment.originator k.party.peer of_peer) (segment.session == n) refl
  by false false of_peer = stranger

-- ---- an event of a face

quiet-hears : (k : FaceKeys) (s : Sessions) (read : Result SegmentValue (ℕ × SegmentCause)) (now n : ℕ) → IfRead AreSmall read → has s.memory.marked n ≡ true
    → AreApart k.party n s.engine.receivers → AreApart k.party n (hears k s read now).sessions.engine.receivers × AreQuiet n (hears k s read now).effects.out
unfolding hears
quiet-hears k s read now n small marked all = by read small where
  past : AreApart k.party n (passes k now s).engine.receivers
  past = apart-closes k.party n (stale k now s) (record s { memory = passed now s.memory }) all

  over : is_remembered (passes k now s).memory n ≡ true
  over = lasts-remembered (passes k now s).memory n 0 (for_good (subst (λ (numbers : NumberSet). has numbers n ≡ true) (sym (keeps-passes k now s).marked) marked))

  by : (read : Result SegmentValue (ℕ × SegmentCause)) → IfRead AreSmall read
      → AreApart k.party n (closes (to_trim k (answered k (passes k now s) read now)) (answered k (passes k now s) read now)).engine.receivers
      × AreQuiet n (answers k (passes k now s) read now).effects.out
  by (Err refusal) small = (apart-closes k.party n (to_trim k (passes k now s)) (passes k now s) past, tt)
  by (Ok segment) small =
      let quiet = quiet-answers k (passes k now s) segment now n small over past in
      let left = answered k (passes k now s) (Ok segment) now in
      (apart-closes k.party n (to_trim k left) left quiet.kept, quiet.out)

quiet-senders : (p : Party) (n now : ℕ) (entries : List (ℕ × Sending)) → AreQuiet n (tick_segments (sender_ticks p now) p.own entries)
unfolding tick_segments
quiet-senders p n now [] = tt
quiet-senders p n now (entry ∷ entries) =
    all-append (IsQuiet n) (headed_all (record { originator = p.own; number = entry.0 }) (sender_ticks p now entry.1).out) (tick_segments (sender_ticks p now) p.own entries)
    (quiet-others n (record { originator = p.own; number = entry.0 }) (sender_ticks p now entry.1).out (tick-says p.policy now entry.1)) (quiet-senders p n now entries)

quiet-receivers : (p : Party) (n now : ℕ) (entries : List (ℕ × Receiving)) → AreApart p n entries → AreQuiet n (tick_segments (receiver_ticks p now) p.peer entries)
unfolding tick_segments
quiet-receivers p n now [] all = tt
quiet-receivers p n now (entry ∷ entries) all =
    all-append (IsQuiet n) (headed_all (record { originator = p.peer; number = entry.0 }) (receiver_ticks p now entry.1).out) (tick_segments (receiver_ticks p now) p.peer entries)
    (quiet-aparts n (record { originator = p.peer; number = entry.0 }) (all.0).peer (all.0).session (all.0).other (receiver_ticks p now entry.1).out) (quiet-receivers p n now entries all.1)

quiet-ticks : (k : FaceKeys) (s : Sessions) (now n : ℕ) → AreApart k.party n s.engine.receivers
    → AreApart k.party n (ticks k s now).sessions.engine.receivers × AreQuiet n (ticks k s now).effects.out
unfolding ticks tick_step
quiet-ticks k s now n all =
    let p = k.party in
    let e = (passes k now s).engine in
    let past = apart-closes p n (stale k now s) (record s { memory = passed now s.memory }) all in (
      apart-ticked p n (receiver_changes p now) e.receivers past,
      all-append (IsQuiet n) (tick_segments (sender_ticks p now) p.own e.senders) (tick_segments (receiver_ticks p now) p.peer e.receivers)
          (quiet-senders p n now e.senders) (quiet-receivers p n now e.receivers past),
    )

-- what a face's sessions say when they hear something
abbrev pub said_with : FaceKeys → ℕ → SessionsEvent → Sessions → List SegmentValue
said_with k now (a_datagram read) s = (hears k s read now).effects.out
said_with k now a_tick s = (ticks k s now).effects.out
said_with k now (a_block block) s = []

-- a datagram that comes has numbers of 64 bits
abbrev pub IsSmallEvent : TimedEvent → Type 0
IsSmallEvent (now, a_datagram read) = IfRead AreSmall read
IsSmallEvent (now, a_tick) = Unit {0}
IsSmallEvent (now, a_block block) = Unit {0}

marked-run : (f : Face) (n : ℕ) (events : List TimedEvent) → n ≤ LAST → is_closed n f.marks ≡ true → has (sessions_in f events).memory.marked n ≡ true
marked-run f n [] most there = start-marked f.keys f.start n f.marks most there
marked-run f n (event ∷ earlier) most there =
    subst (λ (numbers : NumberSet). has numbers n ≡ true) (sym (keeps-event f.keys event.0 event.1 (sessions_in f earlier)).marked) (marked-run f n earlier most there)

quiet-with : (f : Face) (n now : ℕ) (event : SessionsEvent) (earlier : List TimedEvent) → n ≤ LAST → is_closed n f.marks ≡ true → IsSmallEvent (now, event)
    → AreApart f.keys.party n (sessions_in f earlier).engine.receivers
    → AreApart f.keys.party n (sessions_then f.keys now event (sessions_in f earlier)).engine.receivers × AreQuiet n (said_with f.keys now event (sessions_in f earlier))
quiet-with f n now (a_datagram read) earlier most there small all = quiet-hears f.keys (sessions_in f earlier) read now n small (marked-run f n earlier most there) all
quiet-with f n now a_tick earlier most there small all = quiet-ticks f.keys (sessions_in f earlier) now n all
quiet-with f n now (a_block block) earlier most there small all = (all, tt)

apart-run : (f : Face) (n : ℕ) (events : List TimedEvent) → n ≤ LAST → is_closed n f.marks ≡ true → AllByRecursion IsSmallEvent events
    → AreApart f.keys.party n (sessions_in f events).engine.receivers
apart-run f n [] most there small = tt
apart-run f n (event ∷ earlier) most there small =
    (quiet-with f n event.0 event.1 earlier most there small.0 (apart-run f n earlier most there small.1)).0

pub quiet-event : (f : Face) (n : ℕ) (event : TimedEvent) (earlier : List TimedEvent) → n ≤ LAST → is_closed n f.marks ≡ true → AllByRecursion IsSmallEvent (event ∷ earlier)
    → AreQuiet n (said_with f.keys event.0 event.1 (sessions_in f earlier))
quiet-event f n event earlier most there small =
    (quiet-with f n event.0 event.1 earlier most there small.0 (apart-run f n earlier most there small.1)).1
