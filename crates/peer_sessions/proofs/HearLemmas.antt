-- What the sessions of a face make of a segment.

use Rattle.std.proofs.Common.{◌≡◌, ℕ, ◌+◌, ◌<◌, ◌≤◌, Bool, true, false, not, nat_eq, ◌==◌, ◌&&◌, if◌then◌else◌, List, [], ◌∷◌, ◌++◌, length, Option, None, Some, is_some, Result, Ok, refl, sym, ◌∙◌, ap, subst, arith}
use Rattle.std.specs.List.{AllByRecursion, IsDistinct, filter}
use Rattle.std.specs.Map.{keys_of}
use Rattle.std.proofs.lemmas.Bool.{leb-false}
use Rattle.std.proofs.lemmas.Bool.Decides.{nat_tests}
use Rattle.spans.proofs.Places.{length-uncovered}
use Rattle.ltp_segment.specs.declared.fault.SegmentCause.{SegmentCause}
use Rattle.ltp_segment.specs.declared.session.Note.{Note}
use Rattle.ltp_segment.specs.declared.session.Note.TheVariants as notes
use Rattle.ltp_segment.specs.Values.{ContentValue, SegmentValue}
use Rattle.ltp_session.specs.Receiver.{Receiving}
use Rattle.ltp_session.specs.Step.{StepValue, stays, noting, note_closed}
use Rattle.ltp_session.specs.Table.{find, without}
use Rattle.ltp_session.specs.Engine.{Party, EngineStep, datagram_step, with_receiver}
use Rattle.session_memory.specs.Numbers.{runs_in}
use Rattle.session_memory.specs.Memory.{Memory, is_remembered, turned, is_full, with_place, forgotten_by, closed, is_old, touched, forgotten_at}
use Rattle.session_memory.proofs.NumberLemmas.{no-runs}
use Rattle.ltp_engine.specs.declared.effects.Effects.{Effects}
use Rattle.ltp_engine.specs.Values.{EngineValue}
use Rattle.ltp_engine.specs.Bounds.{IsBounded}
use Rattle.ltp_engine.specs.Shows.{Shows}
use Rattle.ltp_engine.specs.Effects.{effects_of, only_noted}
use Rattle.ltp_engine.specs.Steps.{Steps}
use Rattle.ltp_engine.specs.Sessions.{is_receiving, cells_in}
use Rattle.ltp_engine.specs.Elsewhere.{reopened, closed_numbers}
use Rattle.peer_sessions.specs.declared.keys.Keys.{Keys}
use Rattle.peer_sessions.specs.Keys.{FaceKeys}
use Rattle.peer_sessions.specs.Sessions.{Sessions, with_closed, still_kept, left_by, is_touched, answer_to, may_open, is_of_peer, met, memory_met, moments_met, answers, answered, forgets, replies, closes, to_trim, hears_after}
use Rattle.peer_sessions.specs.Notes.{then_evicted}
use Rattle.peer_sessions.specs.Contents.{red_octets, touches}
use Rattle.peer_sessions.specs.Moments.{moments_if}
use Rattle.peer_sessions.specs.Views.{face_keys, engine_of, sessions_of, IsOfKept, AreWhole}
use Rattle.peer_sessions.specs.Ties.{HasPlaces}
use Rattle.peer_sessions.specs.Hearing.{engine_answers, engine_hears, moments_reached, reached}
use Rattle.peer_sessions.proofs.MemoryLemmas.{LAST, set-closed, runs-closed}
use Rattle.peer_sessions.proofs.AnswerLemmas.{opens, over}
use Rattle.peer_sessions.proofs.EngineLemmas.{IsOfFace, answers-agree, step-agrees, touch-agrees, Stepped, hear-stepped}
use Rattle.peer_sessions.proofs.StepLemmas.{few-kept}
use Rattle.peer_sessions.proofs.SettleLemmas.{Settled, settled-from, shows-itself, places-of}

-- ---- the engine of a face

pub face-of : (k : Keys) (v : EngineValue) (m : Memory) (moments : List (ℕ × ℕ)) → AreWhole k v m moments → IsOfFace (face_keys k) (engine_of v)
face-of k v m moments whole = record {
  none = refl;
  sessions = refl;
  few = let few = few-kept k v m moments whole in omega (arith, few, whole.most, (whole.fit).few);
}

hear-party : (k : Keys) (v : EngineValue) (m : Memory) (moments : List (ℕ × ℕ)) → AreWhole k v m moments → (segment : SegmentValue) (now : ℕ)
    → datagram_step v.party (engine_of v) (Ok segment) now ≡ engine_hears (face_keys k) (engine_of v) segment now
hear-party k v m moments whole segment now = ap (λ (p : Party). datagram_step p (engine_of v) (Ok segment) now) whole.party

pub hear-shows : (k : Keys) (v later : EngineValue) (m : Memory) (moments : List (ℕ × ℕ)) (segment : SegmentValue) (now : ℕ) (effects : Effects) → AreWhole k v m moments
    → Steps v later (λ e. datagram_step v.party e (Ok segment) now) effects → Shows later (engine_hears (face_keys k) (engine_of v) segment now).engine
hear-shows k v later m moments segment now effects whole steps =
    subst (λ (s : EngineStep). Shows later s.engine) (hear-party k v m moments whole segment now) (steps.next (engine_of v) (shows-itself v whole.none))

pub hear-effects : (k : Keys) (v later : EngineValue) (m : Memory) (moments : List (ℕ × ℕ)) (segment : SegmentValue) (now : ℕ) (effects : Effects) → AreWhole k v m moments
    → Steps v later (λ e. datagram_step v.party e (Ok segment) now) effects → effects ≡ effects_of (engine_hears (face_keys k) (engine_of v) segment now).effects
hear-effects k v later m moments segment now effects whole steps =
    steps.effects_are (engine_of v) (shows-itself v whole.none) ∙ ap (λ (s : EngineStep). effects_of s.effects) (hear-party k v m moments whole segment now)

hears-stepped : (k : Keys) (v : EngineValue) (m : Memory) (moments : List (ℕ × ℕ)) (segment : SegmentValue) (now : ℕ) → AreWhole k v m moments
    → (met (face_keys k) (sessions_of v m moments) segment ≡ true → runs_in m.newer + length (v.inbound).receivers < m.most)
    → Stepped (engine_of v) (engine_hears (face_keys k) (engine_of v) segment now).engine (red_octets segment.content) (runs_in m.newer) m.most
hears-stepped k v m moments segment now whole room =
    hear-stepped (face_keys k) (sessions_of v m moments) segment now (runs_in m.newer) m.most (face-of k v m moments whole) whole.ascending whole.places room

pub hear-room : (k : Keys) (v later : EngineValue) (m : Memory) (moments : List (ℕ × ℕ)) (segment : SegmentValue) (now : ℕ) (effects : Effects) → AreWhole k v m moments
    → Steps v later (λ e. datagram_step v.party e (Ok segment) now) effects
    → (met (face_keys k) (sessions_of v m moments) segment ≡ true → runs_in m.newer + length (v.inbound).receivers < m.most) → HasPlaces later m
hear-room k v later m moments segment now effects whole steps room =
    places-of later (engine_hears (face_keys k) (engine_of v) segment now).engine m (hear-shows k v later m moments segment now effects whole steps) (hears-stepped k v m moments segment now whole room).places

-- no more octets than came
pub hear-cells : (k : Keys) (v later : EngineValue) (m : Memory) (moments : List (ℕ × ℕ)) (segment : SegmentValue) (now : ℕ) (effects : Effects) → AreWhole k v m moments
    → Steps v later (λ e. datagram_step v.party e (Ok segment) now) effects
    → (met (face_keys k) (sessions_of v m moments) segment ≡ true → runs_in m.newer + length (v.inbound).receivers < m.most)
    → cells_in (later.inbound).receivers ≤ cells_in (v.inbound).receivers + red_octets segment.content
hear-cells k v later m moments segment now effects whole steps room =
    subst (λ (t : List (ℕ × Receiving)). cells_in t ≤ cells_in (v.inbound).receivers + red_octets segment.content)
    ((hear-shows k v later m moments segment now effects whole steps).inbound).receivers (hears-stepped k v m moments segment now whole room).cells

-- ---- moments

apart-without : (n k : ℕ) (moments : List (ℕ × ℕ)) → AllByRecursion (λ j. nat_eq k j ≡ false) (keys_of moments) → AllByRecursion (λ j. nat_eq k j ≡ false) (keys_of (without n moments))
unfolding without
apart-without n k [] all = tt
apart-without n k (e ∷ moments) all = by (e.0 == n) (apart-without n k moments all.1) where
  by : (same : Bool) → AllByRecursion (λ j. nat_eq k j ≡ false) (keys_of (without n moments)) → AllByRecursion (λ j. nat_eq k j ≡ false) (keys_of (if same then without n moments else e ∷ without n moments))
  by true rest = rest
  by false rest = (all.0, rest)

apart-last : (n k : ℕ) (now : ℕ) (moments : List (ℕ × ℕ)) → nat_eq k n ≡ false → AllByRecursion (λ j. nat_eq k j ≡ false) (keys_of moments) → AllByRecursion (λ j. nat_eq k j ≡ false) (keys_of (moments ++ (n, now) ∷ []))
apart-last n k now [] other all = (other, tt)
apart-last n k now (e ∷ moments) other all = (all.0, apart-last n k now moments other all.1)

once-touched : (n now : ℕ) (moments : List (ℕ × ℕ)) → IsDistinct nat_eq (keys_of moments) → IsDistinct nat_eq (keys_of (without n moments ++ (n, now) ∷ []))
unfolding IsDistinct without
once-touched n now [] once = (tt, tt)
once-touched n now (e ∷ moments) once = by (e.0 == n) refl (once-touched n now moments once.1) where
  by : (same : Bool) → (e.0 == n) ≡ same → IsDistinct nat_eq (keys_of (without n moments ++ (n, now) ∷ []))
      → IsDistinct nat_eq (keys_of ((if same then without n moments else e ∷ without n moments) ++ (n, now) ∷ []))
  by true is rest = rest
  by false is rest = (apart-last n e.0 now (without n moments) (other e.0 is) (apart-without n e.0 moments once.0), rest) where
    other : (m : ℕ) → (m == n) ≡ false → nat_eq m n ≡ false
    other m is = grind (arith, nat_tests)

once-if : (n now : ℕ) (touched : Bool) (moments : List (ℕ × ℕ)) → IsDistinct nat_eq (keys_of moments) → IsDistinct nat_eq (keys_of (moments_if n now touched moments))
once-if n now true moments once = once-touched n now moments once
once-if n now false moments once = once

-- ---- a segment reached the engine, and what that closed is remembered

pub reach-settled : (k : Keys) (v later last : EngineValue) (m kept : Memory) (moments more left : List (ℕ × ℕ)) (segment : SegmentValue) (now : ℕ) (effects : Effects) (touched : Bool)
    → AreWhole k v m moments → Steps v later (λ e. datagram_step v.party e (Ok segment) now) effects
    → (met (face_keys k) (sessions_of v m moments) segment ≡ true → runs_in m.newer + length (v.inbound).receivers < m.most)
    → touched ≡ ((is_of_peer (face_keys k) segment.originator && is_receiving segment.session (later.inbound).receivers) && touches segment.content effects.notes)
    → more ≡ moments_if segment.session now touched moments
    → length ((later.inbound).closed).places ≡ LAST → last ≡ record later { inbound = reopened later.inbound } → IsBounded last
    → kept ≡ with_closed (closed_numbers (later.inbound).closed) m → left ≡ still_kept (later.inbound).receivers more
    → Settled k last kept left (reached (face_keys k) (sessions_of v m moments) segment now)
reach-settled k v later last m kept moments more left segment now effects touched whole steps room touch touches_are limit is bounded memory left_is =
    subst (λ (l : List (ℕ × ℕ)). Settled k last kept left (left_by (engine_hears (face_keys k) (engine_of v) segment now).engine m l)) same
    (settled-from k later last (engine_hears (face_keys k) (engine_of v) segment now).engine m kept more left whole.fit steps.whole (steps.party ∙ whole.party)
    shows limit is bounded stepped.ascending whole.most whole.keep whole.set stepped.places memory
    (subst (λ (l : List (ℕ × ℕ)). IsDistinct nat_eq (keys_of l)) (sym touches_are) (once-if segment.session now touched moments whole.once)) left_is) where
      shows : Shows later (engine_hears (face_keys k) (engine_of v) segment now).engine
      shows = hear-shows k v later m moments segment now effects whole steps

      told : effects ≡ effects_of (engine_hears (face_keys k) (engine_of v) segment now).effects
      told = hear-effects k v later m moments segment now effects whole steps

      stepped : Stepped (engine_of v) (engine_hears (face_keys k) (engine_of v) segment now).engine (red_octets segment.content) (runs_in m.newer) m.most
      stepped = hears-stepped k v m moments segment now whole room

      agrees : touched ≡ (is_of_peer (face_keys k) segment.originator && is_touched (engine_answers (face_keys k) (engine_of v) segment now))
      agrees =
          touch
          ∙ (ap (λ (t : List (ℕ × Receiving)). (is_of_peer (face_keys k) segment.originator && is_receiving segment.session t) && touches segment.content effects.notes) (sym (shows.inbound).receivers)
          ∙ (ap (λ (e : Effects). (is_of_peer (face_keys k) segment.originator && is_receiving segment.session (engine_hears (face_keys k) (engine_of v) segment now).engine.receivers) && touches segment.content e.notes) told
          ∙ touch-agrees (face_keys k) (engine_of v) segment now (face-of k v m moments whole)))

      same : more ≡ moments_reached (face_keys k) (sessions_of v m moments) segment now
      same = touches_are ∙ ap (λ (t : Bool). moments_if segment.session now t moments) agrees

-- ---- the memory

-- a place is made
pub placed-room : (k : Keys) (v : EngineValue) (m : Memory) (moments : List (ℕ × ℕ)) (now : ℕ) → AreWhole k v m moments
    → runs_in (with_place now (length (v.inbound).receivers) m).newer + length (v.inbound).receivers < (with_place now (length (v.inbound).receivers) m).most
unfolding turned
placed-room k v m moments now whole = by (is_full m (length (v.inbound).receivers)) refl where
  by : (full : Bool) → is_full m (length (v.inbound).receivers) ≡ full
      → runs_in (if full then turned now m else m).newer + length (v.inbound).receivers < (if full then turned now m else m).most
  by true is = let none = no-runs in let few = few-kept k v m moments whole in omega (arith, none, few)
  by false is = let small = leb-false m.most (runs_in m.newer + length (v.inbound).receivers) is in omega (arith, small)

pub placed-whole : (k : Keys) (v : EngineValue) (m : Memory) (moments : List (ℕ × ℕ)) (now receiving : ℕ) → AreWhole k v m moments → AreWhole k v (with_place now receiving m) moments
unfolding turned
placed-whole k v m moments now receiving whole = by (is_full m receiving) where
  by : (full : Bool) → AreWhole k v (if full then turned now m else m) moments
  by false = whole
  by true = record {
    fit = whole.fit;
    whole = whole.whole;
    party = whole.party;
    none = whole.none;
    bounded = whole.bounded;
    ascending = whole.ascending;
    most = whole.most;
    keep = whole.keep;
    set = length-uncovered LAST;
    places = let none = no-runs in let few = few-kept k v m moments whole in omega (arith, none, few);
    kept = whole.kept;
    once = whole.once;
  }

closed-whole : (k : Keys) (n : ℕ) (v : EngineValue) (m : Memory) (moments : List (ℕ × ℕ)) → n ≤ LAST → AreWhole k v m moments → runs_in m.newer + length (v.inbound).receivers < m.most
    → AreWhole k v (closed n m) moments
closed-whole k n v m moments most whole room = record {
  fit = whole.fit;
  whole = whole.whole;
  party = whole.party;
  none = whole.none;
  bounded = whole.bounded;
  ascending = whole.ascending;
  most = whole.most;
  keep = whole.keep;
  set = set-closed n m whole.set most;
  places = let few = runs-closed n m whole.set most in omega (arith, few, room);
  kept = whole.kept;
  once = whole.once;
}

-- a red piece came of a session that is over
pub touched-whole : (k : Keys) (n now : ℕ) (v : EngineValue) (m : Memory) (moments : List (ℕ × ℕ)) → n ≤ LAST → AreWhole k v m moments
    → AreWhole k v (touched n now (length (v.inbound).receivers) m) moments
touched-whole k n now v m moments most whole = by (is_old m n) where
  by : (old : Bool) → AreWhole k v (if old then closed n (with_place now (length (v.inbound).receivers) m) else m) moments
  by true = closed-whole k n v (with_place now (length (v.inbound).receivers) m) moments most (placed-whole k v m moments now (length (v.inbound).receivers) whole) (placed-room k v m moments now whole)
  by false = whole

-- ---- the step

not-kept : (k : FaceKeys) (s : Sessions) (segment : SegmentValue) → met k s segment ≡ true
    → (is_of_peer k segment.originator ≡ true) × (is_some (find segment.session (s.engine).receivers) ≡ false) × (may_open (k.party).most segment.content ≡ true)
not-kept k s segment is = by (is_of_peer k segment.originator) (is_some (find segment.session (s.engine).receivers)) (may_open (k.party).most segment.content) is where
  by : (a b c : Bool) → (a && (not b && c)) ≡ true → (a ≡ true) × (b ≡ false) × (c ≡ true)
  by true false true is = (refl, refl, refl)
  by true false false is = absurd (cc)
  by true true c is = absurd (cc)
  by false b c is = absurd (cc)

-- what the engine makes of a segment, where the memory has this of it
pub record HearsSo (k : FaceKeys) (s : Sessions) (segment : SegmentValue) (now : ℕ) (m : Memory) (gone : Option ℕ) : Type 0 where
  pub sessions : reached k (record s { memory = m }) segment now ≡ answered k s (Ok segment) now
  pub forgotten : gone ≡ forgets k s (Ok segment) now
  pub effects : engine_hears k s.engine segment now ≡ answers k s (Ok segment) now

moments-agree : (k : FaceKeys) (s : Sessions) (segment : SegmentValue) (now : ℕ) → IsOfFace k s.engine → (met k s segment ≡ true → is_remembered s.memory segment.session ≡ false)
    → moments_reached k s segment now ≡ moments_met k s segment now
moments-agree k s segment now face new = by (is_of_peer k segment.originator) refl where
  by : (peer : Bool) → is_of_peer k segment.originator ≡ peer
      → (if peer && is_touched (engine_answers k s.engine segment now) then without segment.session s.moments ++ (segment.session, now) ∷ [] else s.moments)
      ≡ (if peer && is_touched (answer_to k s segment now) then without segment.session s.moments ++ (segment.session, now) ∷ [] else s.moments)
  by false is = refl
  by true is = ap (λ (answer : Option (StepValue Receiving)). if is_touched answer then without segment.session s.moments ++ (segment.session, now) ∷ [] else s.moments)
      (answers-agree k s segment now face is new)

sessions-agree : (k : FaceKeys) (s : Sessions) (segment : SegmentValue) (now : ℕ) (m : Memory) → IsOfFace k s.engine → (met k s segment ≡ true → is_remembered s.memory segment.session ≡ false)
    → m ≡ memory_met k s segment now → reached k (record s { memory = m }) segment now ≡ answered k s (Ok segment) now
sessions-agree k s segment now m face new same =
    ap (λ (step : EngineStep). left_by step.engine m (moments_reached k s segment now)) (step-agrees k s segment now face new)
    ∙ (ap (λ (l : List (ℕ × ℕ)). left_by (answers k s (Ok segment) now).engine m l) (moments-agree k s segment now face new)
    ∙ ap (λ (c : Memory). left_by (answers k s (Ok segment) now).engine c (moments_met k s segment now)) same)

never : {b : Bool} {A : Type 0} → b ≡ false → b ≡ true → A
never is also = absurd (cc)

pub hears-as-is : (k : FaceKeys) (s : Sessions) (segment : SegmentValue) (now : ℕ) → IsOfFace k s.engine → met k s segment ≡ false → HearsSo k s segment now s.memory None
hears-as-is k s segment now face none = record {
  sessions = sessions-agree k s segment now s.memory face (λ is. never none is) (rw none refl);
  forgotten = rw none refl;
  effects = step-agrees k s segment now face (λ is. never none is);
}

pub hears-placed : (k : FaceKeys) (s : Sessions) (segment : SegmentValue) (now : ℕ) → IsOfFace k s.engine → met k s segment ≡ true → is_remembered s.memory segment.session ≡ false
    → HearsSo k s segment now (with_place now (length (s.engine).receivers) s.memory) (forgotten_by s.memory (length (s.engine).receivers))
hears-placed k s segment now face is new = record {
  sessions = sessions-agree k s segment now (with_place now (length (s.engine).receivers) s.memory) face (λ _. new)
      (sym (by _ _ _ _ (met k s segment) (is_remembered s.memory segment.session) (is_touched (answer_to k s segment now)) is new touches));
  forgotten = sym (by _ _ _ _ (met k s segment) (is_remembered s.memory segment.session) (is_touched (answer_to k s segment now)) is new touches);
  effects = step-agrees k s segment now face (λ _. new);
} where
  by : {X : Type 0} (x y z w : X) (a b c : Bool) → a ≡ true → b ≡ false → c ≡ true → (if not a then x else if b then y else if c then z else w) ≡ z
  by x y z w a b c is_a is_b is_c = rw (is_a, is_b, is_c) refl

  touches : is_touched (answer_to k s segment now) ≡ true
  touches =
      let all : (is_of_peer k segment.originator ≡ true) × (is_some (find segment.session (s.engine).receivers) ≡ false) × (may_open (k.party).most segment.content ≡ true) = not-kept k s segment is in
      rw new (opens (k.party).policy segment.session (k.party).most (find segment.session (s.engine).receivers) segment.content now all.1 all.2)

-- ---- a red piece of a session that is over

none-of : {X : Type 0} (x : Option X) → is_some x ≡ false → x ≡ None
none-of None is = refl
none-of (Some x) is = absurd (cc)

peer-parts : (k : FaceKeys) (originator : ℕ) → is_of_peer k originator ≡ true → ((originator == (k.party).peer) ≡ true) × ((originator == (k.party).own) ≡ false)
peer-parts k originator is = by (originator == (k.party).peer) (originator == (k.party).own) is where
  by : (a b : Bool) → (a && not b) ≡ true → (a ≡ true) × (b ≡ false)
  by true false is = (refl, refl)
  by true true is = absurd (cc)
  by false b is = absurd (cc)

over-answers : (k : FaceKeys) (s : Sessions) (segment : SegmentValue) (now : ℕ) → met k s segment ≡ true → is_remembered s.memory segment.session ≡ true
    → answers k s (Ok segment) now ≡ record {
      engine = s.engine;
      effects = record { out = []; ups = []; greens = []; notes = notes.Closed segment.session ∷ [] };
    }
unfolding replies with_receiver
over-answers k s segment now is old =
    let all : (is_of_peer k segment.originator ≡ true) × (is_some (find segment.session (s.engine).receivers) ≡ false) × (may_open (k.party).most segment.content ≡ true) = not-kept k s segment is in
    let ends : ((segment.originator == (k.party).peer) ≡ true) × ((segment.originator == (k.party).own) ≡ false) = peer-parts k segment.originator all.0 in
    let told : answer_to k s segment now ≡ Some (noting stays [] note_closed) = rw old (over (k.party).policy segment.session (k.party).most (find segment.session (s.engine).receivers) segment.content now all.1 all.2) in
    rw (ends.1, ends.0, told, none-of (find segment.session (s.engine).receivers) all.1) refl

still-same : (receivers : List (ℕ × Receiving)) (moments : List (ℕ × ℕ)) → AllByRecursion (IsOfKept receivers) moments → still_kept receivers moments ≡ moments
still-same receivers [] kept = refl
still-same receivers (e ∷ moments) kept = by (is_some (find e.0 receivers)) kept.0 (still-same receivers moments kept.1) where
  by : (b : Bool) → b ≡ true → still_kept receivers moments ≡ moments → (if b then e ∷ filter (λ (entry : ℕ × ℕ). is_some (find entry.0 receivers)) moments else filter (λ (entry : ℕ × ℕ). is_some (find entry.0 receivers)) moments) ≡ e ∷ moments
  by true is rest = ap (λ es. e ∷ es) rest
  by false is rest = absurd (cc)

pub record HearsOver (k : FaceKeys) (s : Sessions) (segment : SegmentValue) (now : ℕ) : Type 0 where
  pub sessions : record s { memory = touched segment.session now (length (s.engine).receivers) s.memory } ≡ answered k s (Ok segment) now
  pub forgotten : forgotten_at s.memory segment.session (length (s.engine).receivers) ≡ forgets k s (Ok segment) now
  pub effects : only_noted (notes.Closed segment.session) ≡ effects_of (answers k s (Ok segment) now).effects

pub hears-over : (k : FaceKeys) (v : EngineValue) (m : Memory) (moments : List (ℕ × ℕ)) (segment : SegmentValue) (now : ℕ) → met k (sessions_of v m moments) segment ≡ true → is_remembered m segment.session ≡ true
    → AllByRecursion (IsOfKept (v.inbound).receivers) moments → HearsOver k (sessions_of v m moments) segment now
unfolding with_closed
hears-over k v m moments segment now is old kept = record {
  sessions = sym (
      ap (λ (step : EngineStep). left_by step.engine (memory_met k s segment now) (moments_met k s segment now)) answered_so
      ∙ (ap (λ (c : Memory). left_by (engine_of v) c (moments_met k s segment now)) memory
      ∙ ap (λ (l : List (ℕ × ℕ)). record s { memory = touched segment.session now (length (v.inbound).receivers) m; moments = l }) moments_same));
  forgotten = rw (is, old) refl;
  effects = ap (λ (step : EngineStep). effects_of step.effects) (sym answered_so);
} where
  s : Sessions
  s = sessions_of v m moments

  answered_so : answers k s (Ok segment) now ≡ record { engine = engine_of v; effects = record { out = []; ups = []; greens = []; notes = notes.Closed segment.session ∷ [] } }
  answered_so = over-answers k s segment now is old

  memory : memory_met k s segment now ≡ touched segment.session now (length (v.inbound).receivers) m
  memory = rw (is, old) refl

  untouched_so : is_touched (answer_to k s segment now) ≡ false
  untouched_so =
      let all : (is_of_peer k segment.originator ≡ true) × (is_some (find segment.session (v.inbound).receivers) ≡ false) × (may_open (k.party).most segment.content ≡ true) = not-kept k s segment is in
      rw old (ap is_touched (over (k.party).policy segment.session (k.party).most (find segment.session (v.inbound).receivers) segment.content now all.1 all.2))

  moments_same : still_kept (v.inbound).receivers (moments_met k s segment now) ≡ moments
  moments_same = by (is_of_peer k segment.originator) (is_touched (answer_to k s segment now)) untouched_so where
    by : (a b : Bool) → b ≡ false → still_kept (v.inbound).receivers (if a && b then without segment.session moments ++ (segment.session, now) ∷ [] else moments) ≡ moments
    by true false is = still-same (v.inbound).receivers moments kept
    by false false is = still-same (v.inbound).receivers moments kept
    by a true is = absurd (cc)

-- ---- whether the engine touched it, as the code asks

pub touch-is : (a b r : Bool) (ns ms : List Note) (content : ContentValue) → a ≡ b → ns ≡ ms → ((a && r) && touches content ns) ≡ ((b && r) && touches content ms)
touch-is a b r ns ms content same told = rw (same, told) refl

-- ---- the whole step

pub record Trims (k : FaceKeys) (s last : Sessions) (read : Result SegmentValue (ℕ × SegmentCause)) (now : ℕ) (more : Effects) : Type 0 where
  pub sessions : last ≡ (hears_after k [] s read now).sessions
  pub effects : more ≡ effects_of (hears_after k [] s read now).effects

pub trims : (k k1 : FaceKeys) (s s1 last : Sessions) (read : Result SegmentValue (ℕ × SegmentCause)) (now : ℕ) (gone lent : List ℕ) (told more : Effects) → k1 ≡ k → s1 ≡ answered k s read now
    → gone ≡ to_trim k1 s1 → lent ≡ gone → last ≡ closes (to_trim k1 s1) s1 → told ≡ effects_of (answers k s read now).effects → more ≡ then_evicted told lent
    → Trims k s last read now more
trims k k1 s s1 last read now gone lent told more keys state gone_are lent_are closed_are told_is more_is = record {
  sessions = closed_are ∙ (ap (λ (f : FaceKeys). closes (to_trim f s1) s1) keys ∙ ap (λ (t : Sessions). closes (to_trim k t) t) state);
  effects = more_is ∙ (ap (λ (ns : List ℕ). then_evicted told ns) (lent_are ∙ (gone_are ∙ (ap (λ (f : FaceKeys). to_trim f s1) keys ∙ ap (λ (t : Sessions). to_trim k t) state)))
      ∙ ap (λ (e : Effects). then_evicted e (to_trim k (answered k s read now))) told_is);
}
