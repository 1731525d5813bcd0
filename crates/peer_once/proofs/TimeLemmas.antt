-- A session that was there is known for the time in which a number is remembered.

use Rattle.std.proofs.Common.{◌≡◌, ℕ, ◌+◌, ◌<◌, ◌≤◌, ◌==◌, Bool, true, false, not, ◌&&◌, ◌||◌, if◌then◌else◌, List, [], ◌∷◌, ◌++◌, length, Option, Some, None, is_some, Result, Ok, Err, ◌⊎◌, inl, inr, refl, ap, subst, arith, eqb-true}
use Rattle.ltp_segment.specs.declared.fault.SegmentCause.{SegmentCause}
use Rattle.ltp_segment.specs.Values.{SegmentValue}
use Rattle.ltp_session.specs.Step.{Change, stays, keeps, ends, StepValue}
use Rattle.ltp_session.specs.Receiver.{Receiving}
use Rattle.ltp_session.specs.Table.{find}
use Rattle.ltp_session.specs.Engine.{Engine, Reply, EngineStep, is_used, with_receiver, without_evicted, to_sender, replied_or_stranger, tick_step}
use Rattle.ltp_laws.proofs.TableLemmas.{find-put}
use Rattle.session_memory.specs.Numbers.{has}
use Rattle.session_memory.specs.Memory.{is_remembered, passed}
use Rattle.session_memory.proofs.NumberLemmas.{number-stays}
use Rattle.peer_sessions.specs.Keys.{FaceKeys}
use Rattle.peer_sessions.specs.Sessions.{Sessions, left_by, closes, stale, passes, is_kept_by, is_touched, makes_room, is_opened, peer_replies, answer_to, replies, may_open, is_of_peer, memory_met, moments_met, answers, answered, to_trim, hears, ticks}
use Rattle.peer_sessions.specs.Runs.{SessionsEvent, a_datagram, a_tick, a_block, sessions_then}
use Rattle.peer_sessions.proofs.AnswerLemmas.{opens as opens_one}
use Rattle.peer_sessions.proofs.MemoryLemmas.{LAST}
use Rattle.peer_once.specs.Runs.{Face, TimedEvent, sessions_in, sessions_at, ComeBetween, SomeOf, EachOf, forgotten_with, ForgetsNothing, is_kept, is_known, brings_red, is_there}
use Rattle.peer_once.specs.Laws.{StaysKnown, KnownForATime}
use Rattle.peer_once.proofs.MemoryLemmas.{IsLong, number-there, Keeps, keeps-same, keeps-then, keeps-passed, keeps-with_closed, keeps-met, Lasts, in_newer, lasts-remembered, lasts-closed, lasts-passed, IsLost, lasts-met, newer-met, touched-lasts, IsOfFace, start-face, keeps-face}
use Rattle.peer_once.proofs.KeptLemmas.{held-answers, held-tick, KeptOr, Grows, left-held, left-such, closes-kept, keeps-closes}

-- ---- what no step changes

pub keeps-passes : (k : FaceKeys) (now : ℕ) (s : Sessions) → Keeps s.memory (passes k now s).memory
keeps-passes k now s =
    keeps-then s.memory (passed now s.memory) (passes k now s).memory (keeps-passed now s.memory) (keeps-closes (stale k now s) (record s { memory = passed now s.memory }))

pub keeps-answered : (k : FaceKeys) (s : Sessions) (read : Result SegmentValue (ℕ × SegmentCause)) (now : ℕ) → Keeps s.memory (answered k s read now).memory
keeps-answered k s (Err refusal) now = keeps-same s.memory
keeps-answered k s (Ok segment) now =
    keeps-then s.memory (memory_met k s segment now) (answered k s (Ok segment) now).memory (keeps-met k s segment now)
    (keeps-with_closed (answers k s (Ok segment) now).engine.closed (memory_met k s segment now))

pub keeps-event : (k : FaceKeys) (now : ℕ) (event : SessionsEvent) (s : Sessions) → Keeps s.memory (sessions_then k now event s).memory
unfolding hears ticks
keeps-event k now (a_datagram read) s =
    let met_so : Sessions = answered k (passes k now s) read now in
    keeps-then s.memory (passes k now s).memory (closes (to_trim k met_so) met_so).memory (keeps-passes k now s)
    (keeps-then (passes k now s).memory met_so.memory (closes (to_trim k met_so) met_so).memory (keeps-answered k (passes k now s) read now) (keeps-closes (to_trim k met_so) met_so))
keeps-event k now a_tick s =
    keeps-then s.memory (passes k now s).memory _ (keeps-passes k now s) (keeps-with_closed (tick_step k.party (passes k now s).engine now).engine.closed (passes k now s).memory)
keeps-event k now (a_block block) s = keeps-same s.memory

pub face-memory : (f : Face) (events : List TimedEvent) → IsOfFace f.keys (sessions_in f events).memory
face-memory f [] = start-face f.keys f.start f.marks
face-memory f (event ∷ earlier) = keeps-face f.keys (sessions_in f earlier).memory _ (keeps-event f.keys event.0 event.1 (sessions_in f earlier)) (face-memory f earlier)

-- ---- parts of a step

grows-lasts : (n from : ℕ) → n ≤ LAST → Grows (λ m. Lasts m n from) n
grows-lasts n from most = record { more = λ k m is. lasts-closed m n k from is; new = λ m long. in_newer (number-there m.newer n long most) }

grows-newer : (n : ℕ) → n ≤ LAST → Grows (λ m. has m.newer n ≡ true) n
grows-newer n most = record { more = λ k m is. number-stays m.newer k n is; new = λ m long. number-there m.newer n long most }

-- it is kept, or its number lasts
abbrev pub KeptOrLasts : ℕ → ℕ → Sessions → Type 0
KeptOrLasts n from s = KeptOr (λ m. Lasts m n from) n s

-- it is kept, or its number is among the newer ones
abbrev KeptOrNewer : ℕ → Sessions → Type 0
KeptOrNewer n s = KeptOr (λ m. has m.newer n ≡ true) n s

pub passes-lasts : (k : FaceKeys) (s : Sessions) (n from now : ℕ) → n ≤ LAST → IsOfFace k s.memory → from ≤ now → now < from + k.remember_ms → KeptOrLasts n from s → KeptOrLasts n from (passes k now s)
passes-lasts k s n from now most face after before either =
    closes-kept (λ m. Lasts m n from) n (grows-lasts n from most) (stale k now s) (record s { memory = passed now s.memory }) ((keeps-passed now s.memory).long face.long) (by either) where
      by : KeptOrLasts n from s → KeptOrLasts n from (record s { memory = passed now s.memory })
      by (inl kept) = inl kept
      by (inr lasts) = inr (lasts-passed s.memory n from now lasts after (let time = face.keep in omega (arith, before, time)))

passes-newer : (k : FaceKeys) (s : Sessions) (n now : ℕ) → n ≤ LAST → IsOfFace k s.memory → is_some (find n (s.engine).receivers) ≡ true → KeptOrNewer n (passes k now s)
passes-newer k s n now most face kept =
    closes-kept (λ m. has m.newer n ≡ true) n (grows-newer n most) (stale k now s) (record s { memory = passed now s.memory }) ((keeps-passed now s.memory).long face.long) (inl kept)

pub passes-face : (k : FaceKeys) (s : Sessions) (now : ℕ) → IsOfFace k s.memory → IsOfFace k (passes k now s).memory
passes-face k s now face = keeps-face k s.memory (passes k now s).memory (keeps-passes k now s) face

-- one that is kept, whatever is read
answered-kept : (k : FaceKeys) (s : Sessions) (read : Result SegmentValue (ℕ × SegmentCause)) (n from now : ℕ) → n ≤ LAST → IsLong (s.memory).newer → is_some (find n (s.engine).receivers) ≡ true
    → KeptOrLasts n from (answered k s read now)
answered-kept k s (Err refusal) n from now most long kept = inl kept
answered-kept k s (Ok segment) n from now most long kept =
    left-held (λ m. Lasts m n from) n (grows-lasts n from most) (answers k s (Ok segment) now).engine (memory_met k s segment now) (moments_met k s segment now)
    ((keeps-met k s segment now).long long) (held-answers k s segment now n (inl kept))

trims-lasts : (k : FaceKeys) (s : Sessions) (n from : ℕ) → n ≤ LAST → IsLong (s.memory).newer → KeptOrLasts n from s → KeptOrLasts n from (closes (to_trim k s) s)
trims-lasts k s n from most long either = closes-kept (λ m. Lasts m n from) n (grows-lasts n from most) (to_trim k s) s long either

ticked-lasts : (k : FaceKeys) (s : Sessions) (n from now : ℕ) → n ≤ LAST → IsLong (s.memory).newer → KeptOrLasts n from s → KeptOrLasts n from (left_by (tick_step k.party s.engine now).engine s.memory s.moments)
ticked-lasts k s n from now most long (inl kept) = left-held (λ m. Lasts m n from) n (grows-lasts n from most) (tick_step k.party s.engine now).engine s.memory s.moments long (held-tick k.party s.engine now n (inl kept))
ticked-lasts k s n from now most long (inr lasts) = left-such (λ m. Lasts m n from) n (grows-lasts n from most) (tick_step k.party s.engine now).engine s.memory s.moments lasts

-- ---- one event

-- with it the number is lost, and that is told
pub record WasLost (f : Face) (n : ℕ) (event : TimedEvent) (earlier : List TimedEvent) : Type 0 where
  pub told : is_some (forgotten_with f.keys event.0 event.1 (sessions_in f earlier)) ≡ true
  pub lost : IsLost (sessions_at f earlier event.0).memory n (length ((sessions_at f earlier event.0).engine).receivers)

heard-lasts : (f : Face) (n from now : ℕ) (read : Result SegmentValue (ℕ × SegmentCause)) (earlier : List TimedEvent) → n ≤ LAST → from ≤ now → now < from + f.keys.remember_ms
    → KeptOrLasts n from (sessions_in f earlier) → KeptOrLasts n from (hears f.keys (sessions_in f earlier) read now).sessions ⊎ WasLost f n (now, a_datagram read) earlier
unfolding hears
heard-lasts f n from now read earlier most after before either = trims (by read (passes-lasts f.keys (sessions_in f earlier) n from now most (face-memory f earlier) after before either)) where
  at : Sessions
  at = sessions_at f earlier now

  face : IsOfFace f.keys (sessions_at f earlier now).memory
  face = passes-face f.keys (sessions_in f earlier) now (face-memory f earlier)

  by : (heard : Result SegmentValue (ℕ × SegmentCause)) → KeptOrLasts n from (sessions_at f earlier now)
      → KeptOrLasts n from (answered f.keys (sessions_at f earlier now) heard now) ⊎ WasLost f n (now, a_datagram heard) earlier
  by heard (inl kept) = inl (answered-kept f.keys (sessions_at f earlier now) heard n from now most face.long kept)
  by (Err refusal) (inr lasts) = inl (inr lasts)
  by (Ok segment) (inr lasts) = elim (lasts-met f.keys (sessions_at f earlier now) segment now n from face.long most after lasts) [
    | inl still ↦ inl (left-such (λ m. Lasts m n from) n (grows-lasts n from most) (answers f.keys (sessions_at f earlier now) (Ok segment) now).engine
        (memory_met f.keys (sessions_at f earlier now) segment now) (moments_met f.keys (sessions_at f earlier now) segment now) still)
    | inr gone ↦ inr (record { told = gone.told; lost = gone.lost })
  ]

  trims : KeptOrLasts n from (answered f.keys (sessions_at f earlier now) read now) ⊎ WasLost f n (now, a_datagram read) earlier
      → KeptOrLasts n from (closes (to_trim f.keys (answered f.keys (sessions_at f earlier now) read now)) (answered f.keys (sessions_at f earlier now) read now)) ⊎ WasLost f n (now, a_datagram read) earlier
  trims (inl still) = inl (trims-lasts f.keys (answered f.keys (sessions_at f earlier now) read now) n from most ((keeps-answered f.keys (sessions_at f earlier now) read now).long face.long) still)
  trims (inr gone) = inr gone

event-lasts : (f : Face) (n from now : ℕ) (event : SessionsEvent) (earlier : List TimedEvent) → n ≤ LAST → from ≤ now → now < from + f.keys.remember_ms
    → KeptOrLasts n from (sessions_in f earlier) → KeptOrLasts n from (sessions_then f.keys now event (sessions_in f earlier)) ⊎ WasLost f n (now, event) earlier
unfolding ticks
event-lasts f n from now (a_datagram read) earlier most after before either = heard-lasts f n from now read earlier most after before either
event-lasts f n from now a_tick earlier most after before either =
    inl (ticked-lasts f.keys (sessions_at f earlier now) n from now most (passes-face f.keys (sessions_in f earlier) now (face-memory f earlier)).long
    (passes-lasts f.keys (sessions_in f earlier) n from now most (face-memory f earlier) after before either))
event-lasts f n from now (a_block block) earlier most after before either = inl either

-- ---- the event at which it is there

-- a red piece opens a session that is neither kept nor remembered
pub opens-kept : (k : FaceKeys) (s : Sessions) (segment : SegmentValue) (now : ℕ) → is_of_peer k segment.originator ≡ true → may_open (k.party).most segment.content ≡ true
    → is_some (find segment.session (s.engine).receivers) ≡ false → is_remembered s.memory segment.session ≡ false
    → is_some (find segment.session (answers k s (Ok segment) now).engine.receivers) ≡ true
unfolding replies with_receiver
opens-kept k s segment now peer may none new = by (segment.originator == (k.party).own) (segment.originator == (k.party).peer) peer (answer_to k s segment now) touched_so where
  touched_so : is_touched (answer_to k s segment now) ≡ true
  touched_so = rw new (opens_one (k.party).policy segment.session (k.party).most (find segment.session (s.engine).receivers) segment.content now none may)

  step : Option Reply → EngineStep
  step reply = replied_or_stranger s.engine (record { originator = segment.originator; number = segment.session }) reply

  kept_by : (e : Engine) (next : Change Receiving) → is_kept_by next ≡ true → is_some (find segment.session (with_receiver e segment.session next).receivers) ≡ true
  kept_by e stays is = absurd (cc)
  kept_by e (keeps r) is = ap (λ x. is_some x) (find-put segment.session r e.receivers)
  kept_by e ends is = absurd (cc)

  peer_so : (answer : Option (StepValue Receiving)) → is_touched answer ≡ true → is_some (find segment.session (step (peer_replies k s.engine segment.session answer)).engine.receivers) ≡ true
  peer_so None is = absurd (cc)
  peer_so (Some told) is = kept_by (without_evicted s.engine (makes_room k s.engine (is_opened (find segment.session (s.engine).receivers) told.next))) told.next is

  by : (is_own is_peer : Bool) → (is_peer && not is_own) ≡ true → (answer : Option (StepValue Receiving)) → is_touched answer ≡ true
      → is_some (find segment.session (step (if is_own then (if is_used k.party s.engine segment.session then to_sender k.party s.engine segment now else None) else if is_peer then peer_replies k s.engine segment.session answer else None)).engine.receivers) ≡ true
  by true true is answer is_so = absurd (cc)
  by true false is answer is_so = absurd (cc)
  by false true is answer is_so = peer_so answer is_so
  by false false is answer is_so = absurd (cc)

-- a red piece comes: after it the session is kept, or its number lasts
red-lasts : (k : FaceKeys) (s : Sessions) (segment : SegmentValue) (now : ℕ) → segment.session ≤ LAST → IsLong (s.memory).newer
    → is_of_peer k segment.originator ≡ true → may_open (k.party).most segment.content ≡ true → KeptOrLasts segment.session now (answered k s (Ok segment) now)
red-lasts k s segment now most long peer may = by_kept (is_some (find segment.session (s.engine).receivers)) refl where
  n : ℕ
  n = segment.session

  by_memory : is_some (find segment.session (s.engine).receivers) ≡ false → (over : Bool) → is_remembered s.memory segment.session ≡ over → KeptOrLasts segment.session now (answered k s (Ok segment) now)
  by_memory none true there =
      left-such (λ m. Lasts m segment.session now) segment.session (grows-lasts segment.session now most) (answers k s (Ok segment) now).engine (memory_met k s segment now) (moments_met k s segment now)
      (rw (peer, none, may, there) (touched-lasts s.memory segment.session now (length (s.engine).receivers) long most there))
  by_memory none false new = inl (opens-kept k s segment now peer may none new)

  by_kept : (kept : Bool) → is_some (find segment.session (s.engine).receivers) ≡ kept → KeptOrLasts segment.session now (answered k s (Ok segment) now)
  by_kept true kept = answered-kept k s (Ok segment) segment.session now now most long kept
  by_kept false none = by_memory none (is_remembered s.memory segment.session) refl

three : (a b c : Bool) → (a && (b && c)) ≡ true → (a ≡ true) × (b ≡ true) × (c ≡ true)
three true true true is = (refl, refl, refl)
three true true false is = absurd (cc)
three true false c is = absurd (cc)
three false b c is = absurd (cc)

heard-there : (f : Face) (n now : ℕ) (read : Result SegmentValue (ℕ × SegmentCause)) (earlier : List TimedEvent) → n ≤ LAST → is_there f n (now, a_datagram read) earlier ≡ true
    → KeptOrLasts n now (hears f.keys (sessions_in f earlier) read now).sessions
unfolding hears
heard-there f n now read earlier most there = trims-lasts f.keys (answered f.keys (sessions_at f earlier now) read now) n now most ((keeps-answered f.keys (sessions_at f earlier now) read now).long face.long) (by_kept (is_kept n (sessions_in f earlier)) refl there) where
  face : IsOfFace f.keys (sessions_at f earlier now).memory
  face = passes-face f.keys (sessions_in f earlier) now (face-memory f earlier)

  kept_so : (heard : Result SegmentValue (ℕ × SegmentCause)) → KeptOrNewer n (sessions_at f earlier now) → KeptOrLasts n now (answered f.keys (sessions_at f earlier now) heard now)
  kept_so heard (inl kept) = answered-kept f.keys (sessions_at f earlier now) heard n now now most face.long kept
  kept_so (Err refusal) (inr newer) = inr (in_newer newer)
  kept_so (Ok segment) (inr newer) =
      left-such (λ m. Lasts m n now) n (grows-lasts n now most) (answers f.keys (sessions_at f earlier now) (Ok segment) now).engine
      (memory_met f.keys (sessions_at f earlier now) segment now) (moments_met f.keys (sessions_at f earlier now) segment now)
      (newer-met f.keys (sessions_at f earlier now) segment now n face.long most newer)

  red_so : (heard : Result SegmentValue (ℕ × SegmentCause)) → brings_red f.keys n (a_datagram heard) ≡ true → KeptOrLasts n now (answered f.keys (sessions_at f earlier now) heard now)
  red_so (Err refusal) red = absurd (cc)
  red_so (Ok segment) red =
      let all : (is_of_peer f.keys segment.originator ≡ true) × ((segment.session == n) ≡ true) × (may_open (f.keys.party).most segment.content ≡ true) = three _ _ _ red in
      let same : segment.session ≡ n = eqb-true segment.session n all.1 in
      subst (λ j. KeptOrLasts j now (answered f.keys (sessions_at f earlier now) (Ok segment) now)) same
      (red-lasts f.keys (sessions_at f earlier now) segment now (omega (arith, same, most)) face.long all.0 all.2)

  by_kept : (kept : Bool) → is_kept n (sessions_in f earlier) ≡ kept → (kept || brings_red f.keys n (a_datagram read)) ≡ true → KeptOrLasts n now (answered f.keys (sessions_at f earlier now) read now)
  by_kept true kept is = kept_so read (passes-newer f.keys (sessions_in f earlier) n now most (face-memory f earlier) kept)
  by_kept false none red = red_so read red

event-there : (f : Face) (n now : ℕ) (event : SessionsEvent) (earlier : List TimedEvent) → n ≤ LAST → is_there f n (now, event) earlier ≡ true
    → KeptOrLasts n now (sessions_then f.keys now event (sessions_in f earlier))
unfolding ticks
event-there f n now (a_datagram read) earlier most there = heard-there f n now read earlier most there
event-there f n now a_tick earlier most there =
    ticked-lasts f.keys (sessions_at f earlier now) n now now most (passes-face f.keys (sessions_in f earlier) now (face-memory f earlier)).long
    (by (passes-newer f.keys (sessions_in f earlier) n now most (face-memory f earlier) (kept (is_kept n (sessions_in f earlier)) there))) where
      kept : (b : Bool) → (b || false) ≡ true → b ≡ true
      kept true is = refl
      kept false is = is

      by : KeptOrNewer n (sessions_at f earlier now) → KeptOrLasts n now (sessions_at f earlier now)
      by (inl there_so) = inl there_so
      by (inr newer) = inr (in_newer newer)
event-there f n now (a_block block) earlier most there = inl (kept (is_kept n (sessions_in f earlier)) there) where
  kept : (b : Bool) → (b || false) ≡ true → b ≡ true
  kept true is = refl
  kept false is = is

-- ---- events since

pub since-lasts : (f : Face) (n : ℕ) (event : TimedEvent) (since earlier : List TimedEvent) → n ≤ LAST → is_there f n event earlier ≡ true
    → ComeBetween event.0 (event.0 + f.keys.remember_ms) since
    → KeptOrLasts n event.0 (sessions_in f (since ++ (event ∷ earlier))) ⊎ SomeOf (WasLost f n) since (event ∷ earlier)
since-lasts f n event [] earlier most there between = inl (event-there f n event.0 event.1 earlier most there)
since-lasts f n event (e ∷ since) earlier most there between = elim (since-lasts f n event since earlier most there between.1) [
  | inr some ↦ inr (inr some)
  | inl still ↦ elim (event-lasts f n event.0 e.0 e.1 (since ++ (event ∷ earlier)) most between.0.0 between.0.1 still) [
    | inl further ↦ inl further
    | inr gone ↦ inr (inl gone)
  ]
]

pub known-so : (n from : ℕ) (s : Sessions) → KeptOrLasts n from s → is_known n s ≡ true
known-so n from s (inl kept) = rw kept refl
known-so n from s (inr lasts) = rw (lasts-remembered s.memory n from lasts) (by (is_kept n s)) where
  by : (b : Bool) → (b || true) ≡ true
  by true = refl
  by false = refl

pub none-told : (f : Face) (n : ℕ) (since earlier : List TimedEvent) → EachOf (ForgetsNothing f) since earlier → SomeOf (WasLost f n) since earlier → ⊥
none-told f n [] earlier none some = absurd some
none-told f n (e ∷ since) earlier none (inl lost) = differ (ap (λ x. is_some x) none.0) lost.told where
  differ : {b : Bool} → b ≡ false → b ≡ true → ⊥
  differ is also = cc
none-told f n (e ∷ since) earlier none (inr some) = none-told f n since earlier none.1 some

pub known_for_a_time : KnownForATime
known_for_a_time f n event since earlier most there between none = by (since-lasts f n event since earlier (omega (arith, most)) there between) where
  by : KeptOrLasts n event.0 (sessions_in f (since ++ (event ∷ earlier))) ⊎ SomeOf (WasLost f n) since (event ∷ earlier) → StaysKnown f n event since earlier
  by (inr some) = absurd (none-told f n since (event ∷ earlier) none some)
  by (inl still) = record {
    now = known-so n event.0 (sessions_in f (since ++ (event ∷ earlier))) still;
    later = λ moment after before. known-so n event.0 (sessions_at f (since ++ (event ∷ earlier)) moment)
        (passes-lasts f.keys (sessions_in f (since ++ (event ∷ earlier))) n event.0 moment (omega (arith, most)) (face-memory f (since ++ (event ∷ earlier))) after before still);
  }
