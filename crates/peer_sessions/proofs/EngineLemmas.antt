-- A segment reaches the engine of a face.

use Rattle.std.proofs.Common.{◌≡◌, ℕ, ◌+◌, ◌<◌, ◌≤◌, Bool, true, false, not, nat_le, ◌==◌, ◌&&◌, if◌then◌else◌, List, [], ◌∷◌, ◌++◌, length, Option, None, Some, is_some, Ok, refl, sym, ◌∙◌, ap, subst, arith}
use Rattle.std.specs.Option.{option_map}
use Rattle.std.proofs.lemmas.Bool.Decides.{nat_tests}
use Rattle.ltp_segment.specs.declared.session.Note.TheVariants as notes
use Rattle.ltp_segment.specs.Policy.{PolicyValue}
use Rattle.ltp_segment.specs.Values.{ContentValue, SegmentValue, a_piece, a_report, a_report_ack, a_sender_cancel, a_sender_cancel_ack, a_receiver_cancel, a_receiver_cancel_ack}
use Rattle.ltp_session.specs.Step.{Change, stays, keeps, ends, after, StepValue}
use Rattle.ltp_session.specs.Receiver.{Receiving, Admission, receiver_answers}
use Rattle.ltp_session.specs.Sender.{Sending}
use Rattle.ltp_session.specs.Table.{find, without, AreAscending}
use Rattle.ltp_session.specs.Engine.{Party, Engine, Reply, EngineStep, list_of, notes_of, is_used, is_closed, closed_runs, with_sender, with_receiver, without_evicted, longest_untouched, evicted_of, evicted_by, receiver_replies, sender_replies, to_sender, to_receiver, admission_of, arrives, replied_or_stranger, datagram_step}
use Rattle.ltp_laws.proofs.TableLemmas.{find-put, find-without, ascending-put, ascending-without}
use Rattle.ltp_engine.specs.Sessions.{cells_in, is_receiving}
use Rattle.ltp_engine.proofs.KeepLemmas.{length-put, length-put_found, length-without_found}
use Rattle.session_memory.specs.Memory.{is_remembered}
use Rattle.peer_sessions.specs.Keys.{FaceKeys}
use Rattle.peer_sessions.specs.Sessions.{Sessions, is_kept_by, is_touched, is_opened, makes_room, peer_replies, answer_to, replies, is_of_peer, met, answers}
use Rattle.peer_sessions.specs.Contents.{red_octets, touches_by, touches}
use Rattle.peer_sessions.specs.Hearing.{engine_answers, engine_hears}
use Rattle.peer_sessions.proofs.AnswerLemmas.{place, answer-same, answer-facts, Facts, kept_octets, octets_of, is_over_by, notes-left}
use Rattle.peer_sessions.proofs.CellLemmas.{cells-put, cells-without}

-- the engine of a face: no number is closed there, and its list of them is never full
pub record IsOfFace (k : FaceKeys) (e : Engine) : Type 0 where
  pub none : e.closed ≡ []
  pub sessions : (k.party).sessions ≡ (k.bounds).sessions
  pub few : length e.receivers < (k.party).history

-- ---- what is answered

two : (n most : ℕ) (a b : Bool) → a ≡ false → b ≡ false → record { session = n; most = most; closed = a; full = b } ≡ place n most false
two n most a b is_a is_b = rw (is_a, is_b) refl

place-of : (k : FaceKeys) (e : Engine) (n : ℕ) → IsOfFace k e → admission_of k.party e n ≡ place n (k.party).most false
unfolding closed_runs
place-of k e n face = two n (k.party).most (is_closed n e.closed) (nat_le (k.party).history (closed_runs e.closed + length e.receivers))
    (ap (λ (closed : List ℕ). is_closed n closed) face.none) (rw face.none (never (k.party).history (length e.receivers) face.few)) where
      never : (history receiving : ℕ) → receiving < history → nat_le history (0 + receiving) ≡ false
      never history receiving few = grind (arith, nat_tests)

-- whether the number is remembered doesn't count where it is no red piece that may open the session
pub answers-agree : (k : FaceKeys) (s : Sessions) (segment : SegmentValue) (now : ℕ) → IsOfFace k s.engine → is_of_peer k segment.originator ≡ true
    → (met k s segment ≡ true → is_remembered s.memory segment.session ≡ false)
    → engine_answers k s.engine segment now ≡ answer_to k s segment now
answers-agree k s segment now face peer new =
    ap (λ (p : Admission). receiver_answers (k.party).policy p (find segment.session (s.engine).receivers) segment.content now) (place-of k s.engine segment.session face)
    ∙ answer-same (k.party).policy segment.session (k.party).most false (is_remembered s.memory segment.session) (find segment.session (s.engine).receivers) segment.content now
    (λ none opens. sym (new (rw (peer, none, opens) refl)))

-- ---- who makes room

evicted-same : (k : FaceKeys) (e : Engine) (kept : Option Receiving) (change : Change Receiving) → (k.party).sessions ≡ (k.bounds).sessions
    → evicted_by k.party e kept change ≡ makes_room k e (is_opened kept change)
unfolding evicted_of
evicted-same k e None (keeps r) same = ap (λ n. if nat_le n (length e.receivers) then longest_untouched e.touched e.receivers else None) same
evicted-same k e None stays same = refl
evicted-same k e None ends same = refl
evicted-same k e (Some r) (keeps s) same = refl
evicted-same k e (Some r) stays same = refl
evicted-same k e (Some r) ends same = refl

replies-same : (k : FaceKeys) (e : Engine) (n : ℕ) (step : Option (StepValue Receiving)) → (k.party).sessions ≡ (k.bounds).sessions
    → receiver_replies k.party e n step ≡ peer_replies k e n step
replies-same k e n None same = refl
replies-same k e n (Some step) same = ap (λ (gone : Option ℕ). Some (record {
  engine = with_receiver (without_evicted e gone) n step.next;
  out = step.out;
  up = step.up;
  green = step.green;
  notes = list_of (option_map notes.Evicted gone) ++ notes_of n step;
})) (evicted-same k e (find n e.receivers) step.next same)

-- ---- the step of the engine is that of the face

pub step-agrees : (k : FaceKeys) (s : Sessions) (segment : SegmentValue) (now : ℕ) → IsOfFace k s.engine
    → (met k s segment ≡ true → is_remembered s.memory segment.session ≡ false)
    → engine_hears k s.engine segment now ≡ answers k s (Ok segment) now
unfolding datagram_step arrives replies
step-agrees k s segment now face new =
    ap (λ (reply : Option Reply). replied_or_stranger s.engine (record { originator = segment.originator; number = segment.session }) reply)
    (by (segment.originator == (k.party).own) refl (segment.originator == (k.party).peer) refl) where
      own : Option Reply
      own = if is_used k.party s.engine segment.session then to_sender k.party s.engine segment now else None

      by : (is_own : Bool) → (segment.originator == (k.party).own) ≡ is_own → (is_peer : Bool) → (segment.originator == (k.party).peer) ≡ is_peer
          → (if is_own then own else if is_peer then to_receiver k.party s.engine segment now else None)
          ≡ (if is_own then own else if is_peer then peer_replies k s.engine segment.session (answer_to k s segment now) else None)
      by true is_own is_peer peer = refl
      by false is_own false peer = refl
      by false is_own true peer =
          replies-same k s.engine segment.session (engine_answers k s.engine segment now) face.sessions
          ∙ ap (λ (step : Option (StepValue Receiving)). peer_replies k s.engine segment.session step) (answers-agree k s segment now face (rw (peer, is_own) refl) new)

-- ---- whether the session was touched

-- a content without an answer touches nothing
silent : (policy : PolicyValue) (p : Admission) (kept : Option Receiving) (content : ContentValue) (now : ℕ) → receiver_answers policy p kept content now ≡ None
    → (left : Bool) → touches_by content left ≡ false
unfolding receiver_answers
silent policy p kept (a_piece piece) now none left = absurd (cc (none))
silent policy p kept (a_report report) now none left = refl
silent policy p kept (a_report_ack serial) now none left = absurd (cc (none))
silent policy p kept (a_sender_cancel reason) now none left = refl
silent policy p kept a_sender_cancel_ack now none left = refl
silent policy p kept (a_receiver_cancel reason) now none left = refl
silent policy p kept a_receiver_cancel_ack now none left = absurd (cc (none))

and-none : (b : Bool) → (b && false) ≡ false
and-none true = refl
and-none false = refl

-- of the session of a step is kept what the step keeps
found-after : (p : Party) (e : Engine) (n : ℕ) (next : Change Receiving)
    → find n (with_receiver (without_evicted e (evicted_by p e (find n e.receivers) next)) n next).receivers ≡ after next (find n e.receivers)
unfolding with_receiver
found-after p e n stays = by (find n e.receivers) refl where
  by : (kept : Option Receiving) → find n e.receivers ≡ kept → find n (without_evicted e (evicted_by p e kept stays)).receivers ≡ find n e.receivers
  by None is = refl
  by (Some r) is = refl
found-after p e n (keeps r) = find-put n r (without_evicted e (evicted_by p e (find n e.receivers) (keeps r))).receivers
found-after p e n ends = find-without n (without_evicted e (evicted_by p e (find n e.receivers) ends)).receivers

touched-by : (k : FaceKeys) (e : Engine) (segment : SegmentValue) (answer : Option (StepValue Receiving)) → ((left : Bool) → answer ≡ None → touches_by segment.content left ≡ false)
    → ((step : StepValue Receiving) → answer ≡ Some step → Facts (k.party).most (find segment.session e.receivers) segment.content step)
    → (is_receiving segment.session (replied_or_stranger e (record { originator = segment.originator; number = segment.session }) (receiver_replies k.party e segment.session answer)).engine.receivers
    && touches segment.content (replied_or_stranger e (record { originator = segment.originator; number = segment.session }) (receiver_replies k.party e segment.session answer)).effects.notes)
    ≡ is_touched answer
touched-by k e segment None quiet facts = rw (quiet false refl) (and-none (is_receiving segment.session e.receivers))
touched-by k e segment (Some step) quiet facts =
    let fact : Facts (k.party).most (find segment.session e.receivers) segment.content step = facts step refl in
    ap (λ (x : Option Receiving). is_some x && touches segment.content (list_of (option_map notes.Evicted (evicted_by k.party e (find segment.session e.receivers) step.next)) ++ notes_of segment.session step))
    (found-after k.party e segment.session step.next)
    ∙ (ap (λ (left : Bool). is_some (after step.next (find segment.session e.receivers)) && touches_by segment.content left)
    (notes-left segment.session (evicted_by k.party e (find segment.session e.receivers) step.next) step)
    ∙ sym fact.touched)

pub touch-agrees : (k : FaceKeys) (e : Engine) (segment : SegmentValue) (now : ℕ) → IsOfFace k e
    → ((is_of_peer k segment.originator && is_receiving segment.session (engine_hears k e segment now).engine.receivers) && touches segment.content (engine_hears k e segment now).effects.notes)
    ≡ (is_of_peer k segment.originator && is_touched (engine_answers k e segment now))
unfolding datagram_step arrives
touch-agrees k e segment now face = by (segment.originator == (k.party).own) refl (segment.originator == (k.party).peer) refl where
  step : Option Reply → EngineStep
  step reply = replied_or_stranger e (record { originator = segment.originator; number = segment.session }) reply

  own : Option Reply
  own = if is_used k.party e segment.session then to_sender k.party e segment now else None

  by : (is_own : Bool) → (segment.originator == (k.party).own) ≡ is_own → (is_peer : Bool) → (segment.originator == (k.party).peer) ≡ is_peer
      → (((is_peer && not is_own) && is_receiving segment.session (step (if is_own then own else if is_peer then to_receiver k.party e segment now else None)).engine.receivers)
      && touches segment.content (step (if is_own then own else if is_peer then to_receiver k.party e segment now else None)).effects.notes)
      ≡ ((is_peer && not is_own) && is_touched (engine_answers k e segment now))
  by true is_own true peer = refl
  by true is_own false peer = refl
  by false is_own false peer = refl
  by false is_own true peer = touched-by k e segment (engine_answers k e segment now)
      (λ left none. silent (k.party).policy (admission_of k.party e segment.session) (find segment.session e.receivers) segment.content now none left)
      (λ step is. answer-facts (k.party).policy segment.session (k.party).most false (find segment.session e.receivers) segment.content now step
      (ap (λ (p : Admission). receiver_answers (k.party).policy p (find segment.session e.receivers) segment.content now) (sym (place-of k e segment.session face)) ∙ is))

-- ---- what is kept then

-- the engine after a segment of so many red octets: there are places for all numbers
pub record Stepped (old new : Engine) (octets runs most : ℕ) : Type 0 where
  pub places : runs + (length new.closed + length new.receivers) ≤ most
  pub ascending : AreAscending 0 new.receivers
  pub cells : cells_in new.receivers ≤ cells_in old.receivers + octets

-- where the receiving sessions stay as they are
stepped-so : (old new : Engine) (octets runs most : ℕ) → new.receivers ≡ old.receivers → new.closed ≡ [] → AreAscending 0 old.receivers → runs + length old.receivers ≤ most
    → Stepped old new octets runs most
stepped-so old new octets runs most same none up places = record {
  places = let zero : length new.closed ≡ 0 = ap (λ ns. length ns) none in let size : length new.receivers ≡ length old.receivers = ap (λ es. length es) same in omega (arith, zero, size, places);
  ascending = subst (λ es. AreAscending 0 es) (sym same) up;
  cells = let size : cells_in new.receivers ≡ cells_in old.receivers = ap cells_in same in omega (arith, size);
}

-- what is evicted was kept
pub longest-kept : (touched : List ℕ) (receivers : List (ℕ × Receiving)) (g : ℕ) → longest_untouched touched receivers ≡ Some g → is_some (find g receivers) ≡ true
longest-kept [] receivers g is = absurd (cc (is))
longest-kept (n ∷ touched) receivers g is = by (find n receivers) refl is where
  by : (kept : Option Receiving) → find n receivers ≡ kept → option_map (λ r. n) kept ≡ Some g → is_some (find g receivers) ≡ true
  by None is same = absurd (cc (same))
  by (Some r) is same = let at : n ≡ g = cc in subst (λ m. is_some (find m receivers) ≡ true) at (ap (λ x. is_some x) is)

evicted-kept : (p : Party) (e : Engine) (g : ℕ) → evicted_of p e ≡ Some g → is_some (find g e.receivers) ≡ true
unfolding evicted_of
evicted-kept p e g is = by (nat_le p.sessions (length e.receivers)) is where
  by : (full : Bool) → (if full then longest_untouched e.touched e.receivers else None) ≡ Some g → is_some (find g e.receivers) ≡ true
  by true is = longest-kept e.touched e.receivers g is
  by false is = absurd (cc (is))

differ : {b : Bool} → b ≡ false → b ≡ true → ⊥
differ is also = cc

receiver-stepped : (p : Party) (e : Engine) (n most runs full : ℕ) (content : ContentValue) (next : Change Receiving) (kept : Option Receiving) → find n e.receivers ≡ kept
    → (is_some kept ≡ false → is_over_by next ≡ false) → ((r : Receiving) → next ≡ keeps r → octets_of r.cells ≤ kept_octets kept + red_octets content)
    → (is_some kept ≡ false → is_kept_by next ≡ true → runs + length e.receivers < full)
    → e.closed ≡ [] → AreAscending 0 e.receivers → runs + length e.receivers ≤ full
    → Stepped e (with_receiver (without_evicted e (evicted_by p e kept next)) n next) (red_octets content) runs full
unfolding with_receiver
receiver-stepped p e n most runs full content stays None is none_ends octets room none up places = stepped-so e e (red_octets content) runs full refl none up places
receiver-stepped p e n most runs full content stays (Some r) is none_ends octets room none up places = stepped-so e e (red_octets content) runs full refl none up places
receiver-stepped p e n most runs full content ends None is none_ends octets room none up places = let no : true ≡ false = none_ends refl in absurd (cc)
receiver-stepped p e n most runs full content ends (Some r) is none_ends octets room none up places = record {
  places =
      let fewer = length-without_found n e.receivers (ap (λ x. is_some x) is) in
      let zero : length e.closed ≡ 0 = ap (λ ns. length ns) none in
      omega (arith, fewer, zero, places);
  ascending = ascending-without n 0 e.receivers up;
  cells = let fewer = cells-without n e.receivers in omega (arith, fewer);
}
receiver-stepped p e n most runs full content (keeps r) (Some s) is none_ends octets room none up places = record {
  places =
      let same = length-put_found n 0 r e.receivers (ap (λ x. is_some x) is) up in
      let zero : length e.closed ≡ 0 = ap (λ ns. length ns) none in
      omega (arith, same, zero, places);
  ascending = ascending-put n 0 r e.receivers (omega arith) up;
  cells =
      let more = cells-put n 0 r e.receivers up in
      let was : kept_octets (find n e.receivers) ≡ octets_of s.cells = ap kept_octets is in
      let few = octets r refl in
      omega (arith, more, was, few);
}
receiver-stepped p e n most runs full content (keeps r) None is none_ends octets room none up places = by (evicted_of p e) refl where
  below : runs + length e.receivers < full
  below = room refl refl

  few : octets_of r.cells ≤ 0 + red_octets content
  few = octets r refl

  by : (gone : Option ℕ) → evicted_of p e ≡ gone → Stepped e (with_receiver (without_evicted e gone) n (keeps r)) (red_octets content) runs full
  by None out = record {
    places =
        let one = length-put n r e.receivers in
        let zero : length e.closed ≡ 0 = ap (λ ns. length ns) none in
        omega (arith, one, zero, below);
    ascending = ascending-put n 0 r e.receivers (omega arith) up;
    cells = let more = cells-put n 0 r e.receivers up in omega (arith, more, few);
  }
  by (Some g) out = record {
    places =
        let one = length-put n r (without g e.receivers) in
        let fewer = length-without_found g e.receivers (evicted-kept p e g out) in
        let zero : length e.closed ≡ 0 = ap (λ ns. length ns) none in
        omega (arith, one, fewer, zero, below);
    ascending = ascending-put n 0 r (without g e.receivers) (omega arith) (ascending-without g 0 e.receivers up);
    cells =
        let more = cells-put n 0 r (without g e.receivers) (ascending-without g 0 e.receivers up) in
        let fewer = cells-without g e.receivers in
        omega (arith, more, fewer, few);
  }

-- where a red piece may open its session there is a place for it
pub hear-stepped : (k : FaceKeys) (s : Sessions) (segment : SegmentValue) (now runs full : ℕ) → IsOfFace k s.engine → AreAscending 0 (s.engine).receivers
    → runs + length (s.engine).receivers ≤ full → (met k s segment ≡ true → runs + length (s.engine).receivers < full)
    → Stepped s.engine (engine_hears k s.engine segment now).engine (red_octets segment.content) runs full
unfolding datagram_step arrives
hear-stepped k s segment now runs full face up places room = by (segment.originator == (k.party).own) refl (segment.originator == (k.party).peer) refl where
  step : Option Reply → EngineStep
  step reply = replied_or_stranger s.engine (record { originator = segment.originator; number = segment.session }) reply

  octets : ℕ
  octets = red_octets segment.content

  stranger : Stepped s.engine (step None).engine octets runs full
  stranger = stepped-so s.engine s.engine octets runs full refl face.none up places

  own : (used : Bool) (answer : Option (StepValue Sending)) → Stepped s.engine (step (if used then sender_replies s.engine segment.session answer else None)).engine octets runs full
  own false answer = stranger
  own true None = stranger
  own true (Some told) = stepped-so s.engine (with_sender s.engine segment.session told.next) octets runs full refl face.none up places

  peer : is_of_peer k segment.originator ≡ true → (answer : Option (StepValue Receiving)) → engine_answers k s.engine segment now ≡ answer
      → Stepped s.engine (step (receiver_replies k.party s.engine segment.session answer)).engine octets runs full
  peer of_peer None is = stranger
  peer of_peer (Some told) is =
      let fact : Facts (k.party).most (find segment.session (s.engine).receivers) segment.content told =
      answer-facts (k.party).policy segment.session (k.party).most false (find segment.session (s.engine).receivers) segment.content now told
      (ap (λ (p : Admission). receiver_answers (k.party).policy p (find segment.session (s.engine).receivers) segment.content now) (sym (place-of k s.engine segment.session face)) ∙ is) in
      receiver-stepped k.party s.engine segment.session (k.party).most runs full segment.content told.next (find segment.session (s.engine).receivers) refl
      fact.none_ends fact.octets (λ none kept. room (rw (of_peer, none, fact.opens none kept) refl)) face.none up places

  by : (is_own : Bool) → (segment.originator == (k.party).own) ≡ is_own → (is_peer : Bool) → (segment.originator == (k.party).peer) ≡ is_peer
      → Stepped s.engine (step (if is_own then (if is_used k.party s.engine segment.session then to_sender k.party s.engine segment now else None) else if is_peer then to_receiver k.party s.engine segment now else None)).engine octets runs full
  by true is_own is_peer is_peer_so = own (is_used k.party s.engine segment.session) _
  by false is_own false is_peer_so = stranger
  by false is_own true is_peer_so = peer (rw (is_peer_so, is_own) refl) (engine_answers k s.engine segment now) refl
