-- A red part is handed up again only where its session opened anew.

use Rattle.std.proofs.Common.{◌≡◌, ◌≢◌, ℕ, ◌==◌, Bool, true, false, not, ◌&&◌, ◌||◌, if◌then◌else◌, List, [], ◌∷◌, ◌++◌, Option, Some, None, is_some, Result, Ok, Err, ◌⊎◌, inl, inr, refl, sym, ◌∙◌, ap, subst, arith, eqb-true}
use Rattle.std.specs.List.{list_any}
use Rattle.std.specs.Option.{option_map}
use Rattle.ltp_segment.specs.declared.fault.SegmentCause.{SegmentCause}
use Rattle.ltp_segment.specs.Values.{SegmentValue}
use Rattle.ltp_session.specs.Step.{Change, stays, keeps, ends, after, StepValue}
use Rattle.ltp_session.specs.Receiver.{Receiving}
use Rattle.ltp_session.specs.Sender.{Sending}
use Rattle.ltp_session.specs.Table.{find, without, AreAscending}
use Rattle.ltp_session.specs.Engine.{Party, Engine, Reply, EngineStep, UpValue, is_used, list_of, with_receiver, without_evicted, to_sender, sender_replies, replied_or_stranger, tick_step, receiver_changes}
use Rattle.ltp_laws.proofs.TableLemmas.{self_eqb, find-put, find-without, find-put_other, find-without_other, find-ticked, after_tick, ascending-put, ascending-without, ascending-ticked}
use Rattle.session_memory.specs.Memory.{passed, is_remembered}
use Rattle.peer_sessions.specs.Keys.{FaceKeys}
use Rattle.peer_sessions.specs.Sessions.{Sessions, left_by, closes, stale, passes, makes_room, is_opened, peer_replies, answer_to, replies, may_open, answers, answered, to_trim, hears, ticks}
use Rattle.peer_sessions.specs.Runs.{SessionsEvent, a_datagram, a_tick, a_block, sessions_then}
use Rattle.peer_once.specs.Runs.{Face, TimedEvent, sessions_in, sessions_at, SomeOf, is_kept, is_known, brings_red, opens, hands_up, ups_with}
use Rattle.peer_once.specs.Laws.{HandedUpAgain}
use Rattle.peer_once.proofs.KeptLemmas.{apart-of}
use Rattle.peer_once.proofs.UpLemmas.{is_quiet, Ups, answer-ups, tick-ups}

differ : {b : Bool} → b ≡ false → b ≡ true → ⊥
differ is also = cc

-- it isn't kept, or its red part was handed up
abbrev pub IsQuiet : ℕ → Engine → Type 0
IsQuiet n e = is_quiet (find n e.receivers) ≡ true

-- ---- the numbers ascend

up-change : (m : ℕ) (e : Engine) (change : Change Receiving) → AreAscending 0 e.receivers → AreAscending 0 (with_receiver e m change).receivers
unfolding with_receiver
up-change m e stays up = up
up-change m e (keeps r) up = ascending-put m 0 r e.receivers (omega arith) up
up-change m e ends up = ascending-without m 0 e.receivers up

up-evicted : (e : Engine) (gone : Option ℕ) → AreAscending 0 e.receivers → AreAscending 0 (without_evicted e gone).receivers
up-evicted e None up = up
up-evicted e (Some g) up = up-change g e ends up

up-closes : (numbers : List ℕ) (s : Sessions) → AreAscending 0 (s.engine).receivers → AreAscending 0 ((closes numbers s).engine).receivers
unfolding closes
up-closes [] s up = up
up-closes (n ∷ numbers) s up = up-closes numbers (left_by (with_receiver s.engine n ends) s.memory s.moments) (up-change n s.engine ends up)

up-answers : (k : FaceKeys) (s : Sessions) (segment : SegmentValue) (now : ℕ) → AreAscending 0 (s.engine).receivers → AreAscending 0 (answers k s (Ok segment) now).engine.receivers
unfolding replies
up-answers k s segment now up = by (segment.originator == (k.party).own) (segment.originator == (k.party).peer) where
  step : Option Reply → EngineStep
  step reply = replied_or_stranger s.engine (record { originator = segment.originator; number = segment.session }) reply

  own : (used : Bool) (answer : Option (StepValue Sending)) → AreAscending 0 (step (if used then sender_replies s.engine segment.session answer else None)).engine.receivers
  own false answer = up
  own true None = up
  own true (Some told) = up

  peer : (answer : Option (StepValue Receiving)) → AreAscending 0 (step (peer_replies k s.engine segment.session answer)).engine.receivers
  peer None = up
  peer (Some told) = up-change segment.session (without_evicted s.engine _) told.next (up-evicted s.engine _ up)

  by : (is_own is_peer : Bool) → AreAscending 0 (step (if is_own then (if is_used k.party s.engine segment.session then to_sender k.party s.engine segment now else None) else if is_peer then peer_replies k s.engine segment.session (answer_to k s segment now) else None)).engine.receivers
  by true is_peer = own (is_used k.party s.engine segment.session) _
  by false true = peer (answer_to k s segment now)
  by false false = up

up-answered : (k : FaceKeys) (s : Sessions) (read : Result SegmentValue (ℕ × SegmentCause)) (now : ℕ) → AreAscending 0 (s.engine).receivers → AreAscending 0 ((answered k s read now).engine).receivers
up-answered k s (Err refusal) now up = up
up-answered k s (Ok segment) now up = up-answers k s segment now up

pub up-passes : (k : FaceKeys) (now : ℕ) (s : Sessions) → AreAscending 0 (s.engine).receivers → AreAscending 0 ((passes k now s).engine).receivers
up-passes k now s up = up-closes (stale k now s) (record s { memory = passed now s.memory }) up

up-event : (k : FaceKeys) (now : ℕ) (event : SessionsEvent) (s : Sessions) → AreAscending 0 (s.engine).receivers → AreAscending 0 ((sessions_then k now event s).engine).receivers
unfolding hears ticks tick_step
up-event k now (a_datagram read) s up =
    up-closes (to_trim k (answered k (passes k now s) read now)) (answered k (passes k now s) read now) (up-answered k (passes k now s) read now (up-passes k now s up))
up-event k now a_tick s up = ascending-ticked (receiver_changes k.party now) 0 ((passes k now s).engine).receivers (up-passes k now s up)
up-event k now (a_block block) s up = up

pub up-run : (f : Face) (events : List TimedEvent) → AreAscending 0 ((sessions_in f events).engine).receivers
up-run f [] = tt
up-run f (event ∷ earlier) = up-event f.keys event.0 event.1 (sessions_in f earlier) (up-run f earlier)

-- ---- sessions are closed

quiet-ends : (n m : ℕ) (e : Engine) → IsQuiet n e → IsQuiet n (with_receiver e m ends)
unfolding with_receiver
quiet-ends n m e quiet = by (m == n) refl where
  by : (same : Bool) → (m == n) ≡ same → is_quiet (find n (without m e.receivers)) ≡ true
  by true is = ap is_quiet (subst (λ j. find j (without m e.receivers) ≡ None) (eqb-true m n is) (find-without m e.receivers))
  by false is = ap is_quiet (find-without_other n m e.receivers (apart-of m n is)) ∙ quiet

pub quiet-closes : (n : ℕ) (numbers : List ℕ) (s : Sessions) → IsQuiet n s.engine → IsQuiet n (closes numbers s).engine
unfolding closes
quiet-closes n [] s quiet = quiet
quiet-closes n (m ∷ numbers) s quiet = quiet-closes n numbers (left_by (with_receiver s.engine m ends) s.memory s.moments) (quiet-ends n m s.engine quiet)

quiet-evicted : (n : ℕ) (e : Engine) (gone : Option ℕ) → IsQuiet n e → IsQuiet n (without_evicted e gone)
quiet-evicted n e None quiet = quiet
quiet-evicted n e (Some g) quiet = quiet-ends n g e quiet

-- ---- a segment

-- of the session of a step is kept what the step keeps
pub found-after : (k : FaceKeys) (e : Engine) (n : ℕ) (next : Change Receiving)
    → find n (with_receiver (without_evicted e (makes_room k e (is_opened (find n e.receivers) next))) n next).receivers ≡ after next (find n e.receivers)
unfolding with_receiver
found-after k e n stays = by (find n e.receivers) where
  by : (kept : Option Receiving) → find n (without_evicted e (makes_room k e (is_opened kept stays))).receivers ≡ find n e.receivers
  by None = refl
  by (Some r) = refl
found-after k e n (keeps r) = find-put n r (without_evicted e (makes_room k e (is_opened (find n e.receivers) (keeps r)))).receivers
found-after k e n ends = find-without n (without_evicted e (makes_room k e (is_opened (find n e.receivers) ends))).receivers

-- the others
pub found-other : (n m : ℕ) (e : Engine) (next : Change Receiving) → n ≢ m → find n (with_receiver e m next).receivers ≡ find n e.receivers
unfolding with_receiver
found-other n m e stays apart = refl
found-other n m e (keeps r) apart = find-put_other n m r e.receivers apart
found-other n m e ends apart = find-without_other n m e.receivers apart

-- what is handed up with a step, and what of a session is kept then
pub record Hands (k : FaceKeys) (s : Sessions) (n : ℕ) (opening : Bool) (step : EngineStep) : Type 0 where
  pub once : list_any (λ (up : UpValue). up.session == n) step.effects.ups ≡ true → IsQuiet n step.engine
  pub rests : IsQuiet n s.engine → opening ≡ false → (list_any (λ (up : UpValue). up.session == n) step.effects.ups ≡ false) × IsQuiet n step.engine

silent : (k : FaceKeys) (s : Sessions) (n : ℕ) (opening : Bool) (step : EngineStep) → step.effects.ups ≡ [] → step.engine.receivers ≡ (s.engine).receivers → Hands k s n opening step
silent k s n opening step none same = record {
  once = λ up. absurd (differ (ap (λ ups. list_any (λ (u : UpValue). u.session == n) ups) none) up);
  rests = λ quiet _. (ap (λ ups. list_any (λ (u : UpValue). u.session == n) ups) none, subst (λ es. is_quiet (find n es) ≡ true) (sym same) quiet);
}

-- the red part of session m among those that are handed up
any-of : (m n : ℕ) (up : Option (List ℕ)) → list_any (λ (u : UpValue). u.session == n) (list_of (option_map (λ body. record { session = m; body = body }) up)) ≡ ((m == n) && is_some up)
any-of m n None = sym (by (m == n)) where
  by : (b : Bool) → (b && false) ≡ false
  by true = refl
  by false = refl
any-of m n (Some body) = by (m == n) where
  by : (b : Bool) → (b || false) ≡ (b && true)
  by true = refl
  by false = refl

-- the engine after a step of session m
abbrev stepped : FaceKeys → Engine → ℕ → StepValue Receiving → Engine
stepped k e m t = with_receiver (without_evicted e (makes_room k e (is_opened (find m e.receivers) t.next))) m t.next

abbrev answered_by : FaceKeys → Sessions → SegmentValue → Option (StepValue Receiving) → EngineStep
answered_by k s segment answer = replied_or_stranger s.engine (record { originator = segment.originator; number = segment.session }) (peer_replies k s.engine segment.session answer)

here : (k : FaceKeys) (s : Sessions) (segment : SegmentValue) (now : ℕ) (answer : Option (StepValue Receiving)) → answer_to k s segment now ≡ answer
    → Hands k s segment.session (not (is_kept segment.session s) && (not (is_remembered s.memory segment.session) && may_open (k.party).most segment.content)) (answered_by k s segment answer)
here k s segment now None is = silent k s segment.session _ _ refl refl
here k s segment now (Some t) is = record {
  once = λ up. ap is_quiet (found-after k s.engine segment.session t.next) ∙ ups.once (any (sym (any-of segment.session segment.session t.up) ∙ up));
  rests = λ quiet no.
      let rest : (is_some t.up ≡ false) × (is_quiet (after t.next (find segment.session (s.engine).receivers)) ≡ true) = ups.rests quiet no in
      (any-of segment.session segment.session t.up ∙ (rw (self_eqb segment.session) rest.0), ap is_quiet (found-after k s.engine segment.session t.next) ∙ rest.1);
} where
  ups : Ups (find segment.session (s.engine).receivers) (not (is_kept segment.session s) && (not (is_remembered s.memory segment.session) && may_open (k.party).most segment.content)) t
  ups = answer-ups (k.party).policy segment.session (k.party).most (is_remembered s.memory segment.session) (find segment.session (s.engine).receivers) segment.content now t is

  any : ((segment.session == segment.session) && is_some t.up) ≡ true → is_some t.up ≡ true
  any both = by (segment.session == segment.session) both where
    by : (b : Bool) → (b && is_some t.up) ≡ true → is_some t.up ≡ true
    by true is = is
    by false is = absurd (cc)

elsewhere : (k : FaceKeys) (s : Sessions) (segment : SegmentValue) (n : ℕ) (opening : Bool) (answer : Option (StepValue Receiving)) → (segment.session == n) ≡ false → Hands k s n opening (answered_by k s segment answer)
elsewhere k s segment n opening None other = silent k s n opening _ refl refl
elsewhere k s segment n opening (Some t) other = record {
  once = λ up. absurd (differ none up);
  rests = λ quiet _. (none, ap is_quiet (found-other n segment.session (without_evicted s.engine gone) t.next (apart-of segment.session n other)) ∙ quiet-evicted n s.engine gone quiet);
} where
  gone : Option ℕ
  gone = makes_room k s.engine (is_opened (find segment.session (s.engine).receivers) t.next)

  none : list_any (λ (u : UpValue). u.session == n) (list_of (option_map (λ body. record { session = segment.session; body = body }) t.up)) ≡ false
  none = any-of segment.session n t.up ∙ rw other refl

segment-hands : (k : FaceKeys) (s : Sessions) (segment : SegmentValue) (now n : ℕ) → Hands k s n (brings_red k n (a_datagram (Ok segment)) && not (is_known n s)) (answers k s (Ok segment) now)
unfolding replies
segment-hands k s segment now n = by (segment.originator == (k.party).own) (segment.originator == (k.party).peer) where
  step : Option Reply → EngineStep
  step reply = replied_or_stranger s.engine (record { originator = segment.originator; number = segment.session }) reply

  own : (opening used : Bool) (answer : Option (StepValue Sending)) → Hands k s n opening (step (if used then sender_replies s.engine segment.session answer else None))
  own opening false answer = silent k s n opening _ refl refl
  own opening true None = silent k s n opening _ refl refl
  own opening true (Some told) = silent k s n opening _ refl refl

  -- a red piece of a session that is neither kept nor remembered
  opening_so : (kept over may : Bool) → ((true && (true && may)) && not (kept || over)) ≡ false → (not kept && (not over && may)) ≡ false
  opening_so true over may is = refl
  opening_so false true may is = refl
  opening_so false false true is = is
  opening_so false false false is = refl

  peer : (same : Bool) → (segment.session == n) ≡ same → Hands k s n ((true && (same && may_open (k.party).most segment.content)) && not (is_known n s)) (answered_by k s segment (answer_to k s segment now))
  peer false other = elsewhere k s segment n _ (answer_to k s segment now) other
  peer true same = subst (λ j. Hands k s j ((true && (true && may_open (k.party).most segment.content)) && not (is_known j s)) (answered_by k s segment (answer_to k s segment now))) (eqb-true segment.session n same)
      (let all : Hands k s segment.session (not (is_kept segment.session s) && (not (is_remembered s.memory segment.session) && may_open (k.party).most segment.content)) (answered_by k s segment (answer_to k s segment now)) = here k s segment now (answer_to k s segment now) refl in
      record { once = all.once; rests = λ quiet no. all.rests quiet (opening_so (is_kept segment.session s) (is_remembered s.memory segment.session) (may_open (k.party).most segment.content) no) })

  by : (is_own is_peer : Bool) → Hands k s n (((is_peer && not is_own) && ((segment.session == n) && may_open (k.party).most segment.content)) && not (is_known n s))
      (step (if is_own then (if is_used k.party s.engine segment.session then to_sender k.party s.engine segment now else None) else if is_peer then peer_replies k s.engine segment.session (answer_to k s segment now) else None))
  by true is_peer = own _ (is_used k.party s.engine segment.session) _
  by false true = peer (segment.session == n) refl
  by false false = silent k s n _ _ refl refl

read-hands : (k : FaceKeys) (s : Sessions) (read : Result SegmentValue (ℕ × SegmentCause)) (now n : ℕ) → Hands k s n (brings_red k n (a_datagram read) && not (is_known n s)) (answers k s read now)
read-hands k s (Err refusal) now n = silent k s n _ _ refl refl
read-hands k s (Ok segment) now n = segment-hands k s segment now n

-- ---- one event

pub record HandsWith (f : Face) (n : ℕ) (now : ℕ) (event : SessionsEvent) (earlier : List TimedEvent) : Type 0 where
  pub once : list_any (λ (up : UpValue). up.session == n) (ups_with f.keys now event (sessions_in f earlier)) ≡ true → IsQuiet n (sessions_then f.keys now event (sessions_in f earlier)).engine
  pub rests : IsQuiet n (sessions_in f earlier).engine → (brings_red f.keys n event && not (is_known n (sessions_at f earlier now))) ≡ false
      → (list_any (λ (up : UpValue). up.session == n) (ups_with f.keys now event (sessions_in f earlier)) ≡ false) × IsQuiet n (sessions_then f.keys now event (sessions_in f earlier)).engine

quiet-passes : (k : FaceKeys) (now n : ℕ) (s : Sessions) → IsQuiet n s.engine → IsQuiet n (passes k now s).engine
quiet-passes k now n s quiet = quiet-closes n (stale k now s) (record s { memory = passed now s.memory }) quiet

heard-hands : (f : Face) (n now : ℕ) (read : Result SegmentValue (ℕ × SegmentCause)) (earlier : List TimedEvent) → HandsWith f n now (a_datagram read) earlier
unfolding hears
heard-hands f n now read earlier = record {
  once = λ up. quiet-closes n (to_trim f.keys met_so) met_so (left read (all.once up));
  rests = λ quiet no.
      let rest = all.rests (quiet-passes f.keys now n (sessions_in f earlier) quiet) no in
      (rest.0, quiet-closes n (to_trim f.keys met_so) met_so (left read rest.1));
} where
  met_so : Sessions
  met_so = answered f.keys (sessions_at f earlier now) read now

  all : Hands f.keys (sessions_at f earlier now) n (brings_red f.keys n (a_datagram read) && not (is_known n (sessions_at f earlier now))) (answers f.keys (sessions_at f earlier now) read now)
  all = read-hands f.keys (sessions_at f earlier now) read now n

  left : (heard : Result SegmentValue (ℕ × SegmentCause)) → IsQuiet n (answers f.keys (sessions_at f earlier now) heard now).engine → IsQuiet n (answered f.keys (sessions_at f earlier now) heard now).engine
  left (Err refusal) quiet = quiet
  left (Ok segment) quiet = quiet

ticked-quiet : (p : Party) (e : Engine) (now n : ℕ) → AreAscending 0 e.receivers → IsQuiet n e → IsQuiet n (tick_step p e now).engine
unfolding tick_step
ticked-quiet p e now n up quiet = ap is_quiet (find-ticked (receiver_changes p now) n 0 e.receivers up) ∙ by (find n e.receivers) quiet where
  by : (kept : Option Receiving) → is_quiet kept ≡ true → is_quiet (after_tick (receiver_changes p now) kept) ≡ true
  by None is = refl
  by (Some r) is = ((tick-ups p.policy r now).rests is refl).1

ticked-hands : (f : Face) (n now : ℕ) (earlier : List TimedEvent) → HandsWith f n now a_tick earlier
unfolding ticks tick_step
ticked-hands f n now earlier = record {
  once = λ up. absurd (differ refl up);
  rests = λ quiet no. (refl, ticked-quiet f.keys.party (sessions_at f earlier now).engine now n (up-passes f.keys now (sessions_in f earlier) (up-run f earlier)) (quiet-passes f.keys now n (sessions_in f earlier) quiet));
}

pub event-hands : (f : Face) (n now : ℕ) (event : SessionsEvent) (earlier : List TimedEvent) → HandsWith f n now event earlier
event-hands f n now (a_datagram read) earlier = heard-hands f n now read earlier
event-hands f n now a_tick earlier = ticked-hands f n now earlier
event-hands f n now (a_block block) earlier = record { once = λ up. absurd (differ refl up); rests = λ quiet no. (refl, quiet) }

-- ---- events since it was handed up

-- it is quiet, or it opened since
since-quiet : (f : Face) (n : ℕ) (first : TimedEvent) (between earlier : List TimedEvent) → hands_up f n first earlier ≡ true
    → IsQuiet n (sessions_in f (between ++ (first ∷ earlier))).engine ⊎ SomeOf (λ event before. opens f n event before ≡ true) between (first ∷ earlier)
since-quiet f n first [] earlier up = inl ((event-hands f n first.0 first.1 earlier).once up)
since-quiet f n first (e ∷ between) earlier up = by (since-quiet f n first between earlier up) (opens f n e (between ++ (first ∷ earlier))) refl where
  by : IsQuiet n (sessions_in f (between ++ (first ∷ earlier))).engine ⊎ SomeOf (λ event before. opens f n event before ≡ true) between (first ∷ earlier)
      → (opening : Bool) → opens f n e (between ++ (first ∷ earlier)) ≡ opening
      → IsQuiet n (sessions_in f (e ∷ (between ++ (first ∷ earlier)))).engine ⊎ SomeOf (λ event before. opens f n event before ≡ true) (e ∷ between) (first ∷ earlier)
  by (inr some) opening is = inr (inr some)
  by (inl quiet) true is = inr (inl is)
  by (inl quiet) false is = inl ((event-hands f n e.0 e.1 (between ++ (first ∷ earlier))).rests quiet is).1

pub handed_up_again : HandedUpAgain
handed_up_again f n second first between earlier up again = by (since-quiet f n first between earlier up) (opens f n second (between ++ (first ∷ earlier))) refl where
  by : IsQuiet n (sessions_in f (between ++ (first ∷ earlier))).engine ⊎ SomeOf (λ event before. opens f n event before ≡ true) between (first ∷ earlier)
      → (opening : Bool) → opens f n second (between ++ (first ∷ earlier)) ≡ opening
      → SomeOf (λ event before. opens f n event before ≡ true) (second ∷ between) (first ∷ earlier)
  by (inr some) opening is = inr some
  by (inl quiet) true is = inl is
  by (inl quiet) false is = absurd (differ ((event-hands f n second.0 second.1 (between ++ (first ∷ earlier))).rests quiet is).0 again)
