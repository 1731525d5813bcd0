-- What is handed up of a session of the peer are the pieces since it opened.

use Rattle.std.proofs.Common.{◌≡◌, ℕ, ◌==◌, Bool, true, false, not, ◌&&◌, if◌then◌else◌, List, [], ◌∷◌, Option, Some, None, is_some, Result, Ok, Err, inl, inr, refl, sym, ◌∙◌, ap, subst, eqb-true}
use Rattle.std.specs.Option.{option_map}
use Rattle.ltp_segment.specs.Kinds.{is_red}
use Rattle.ltp_segment.specs.Policy.{PolicyValue}
use Rattle.ltp_segment.specs.declared.fault.SegmentCause.{SegmentCause}
use Rattle.ltp_segment.specs.Values.{PieceValue, SegmentValue, ContentValue, a_piece, a_report, a_report_ack, a_sender_cancel, a_sender_cancel_ack, a_receiver_cancel, a_receiver_cancel_ack}
use Rattle.ltp_session.specs.Cells.{is_no_part}
use Rattle.ltp_session.specs.RedPart.{RedPiece, is_whole, IsRedPart}
use Rattle.ltp_session.proofs.RedPartLemmas.{red_part-whole}
use Rattle.ltp_session.specs.Step.{Change, stays, keeps, ends, after, StepValue, noting, sending, note_refused, note_bad_bounds, note_closed, unreachable}
use Rattle.ltp_session.specs.Receiver.{Receiving, Admission, fresh, is_cancelling, is_outside, is_miscoloured, hands_up_green, piece_step, piece_for, on_piece, receiver_answers}
use Rattle.ltp_session.specs.Sender.{Sending}
use Rattle.ltp_session.specs.Table.{find, without, AreAscending}
use Rattle.ltp_session.specs.Engine.{Party, Engine, Reply, EngineStep, UpValue, is_used, list_of, with_receiver, without_evicted, to_sender, sender_replies, replied_or_stranger, tick_step, receiver_changes}
use Rattle.ltp_receiver.specs.RedPart.{is_taken, red_piece}
use Rattle.ltp_receiver.proofs.LawLemmas.{Stands, Told, ByLaw, piece-law, ack-law, tick-law, nothing-stands}
use Rattle.ltp_laws.specs.View.{IsIn}
use Rattle.ltp_laws.proofs.TableLemmas.{find-without, find-without_other, find-ticked, after_tick}
use Rattle.ltp_engine.specs.RedParts.{meets, is_taken_by, with_content}
use Rattle.session_memory.specs.Memory.{passed, is_remembered}
use Rattle.peer_sessions.specs.Keys.{FaceKeys}
use Rattle.peer_sessions.specs.Sessions.{Sessions, left_by, closes, stale, passes, admission_in, makes_room, is_opened, peer_replies, answer_to, replies, answers, answered, to_trim, hears, ticks}
use Rattle.peer_sessions.specs.Runs.{SessionsEvent, a_datagram, a_tick, a_block, sessions_then}
use Rattle.peer_sessions.proofs.AnswerLemmas.{place}
use Rattle.peer_once.specs.Runs.{Face, TimedEvent, sessions_in, sessions_at, is_kept}
use Rattle.peer_once.specs.Pieces.{while_kept, pieces_heard, pieces_with, pieces_of, HandsUpRedParts}
use Rattle.peer_once.proofs.KeptLemmas.{apart-of}
use Rattle.peer_once.proofs.OnceLemmas.{found-after, found-other, up-passes, up-run}

-- ---- one session

pub never-whole : (body : List ℕ) (pieces : List RedPiece) → is_whole pieces ≡ false → IsRedPart pieces body → ⊥
never-whole body pieces unfinished part = let whole = red_part-whole pieces body part in cc

-- a step that hands nothing up, and leaves the session or ends it
rests : (step : StepValue Receiving) (kept : Option Receiving) (pieces : List RedPiece) → step.next ≡ stays → step.up ≡ None → Told kept pieces → ByLaw step kept pieces pieces
rests step kept pieces next none told = record {
  told = subst (λ c. Told (after c kept) pieces) (sym next) told;
  hands = λ body is. absurd (never-some body (sym none ∙ is));
  handed = λ body unfinished part. absurd (never-whole body pieces unfinished part);
} where
  never-some : (body : List ℕ) → None ≡ Some body → ⊥
  never-some body is = cc

leaves : (step : StepValue Receiving) (kept : Option Receiving) (pieces : List RedPiece) → step.next ≡ ends → step.up ≡ None → ByLaw step kept pieces pieces
leaves step kept pieces next none = record {
  told = subst (λ c. Told (after c kept) pieces) (sym next) tt;
  hands = λ body is. absurd (never-some body (sym none ∙ is));
  handed = λ body unfinished part. absurd (never-whole body pieces unfinished part);
} where
  never-some : (body : List ℕ) → None ≡ Some body → ⊥
  never-some body is = cc

-- a session opens
opened : (n : ℕ) (step : StepValue Receiving) (pieces now : List RedPiece) → ByLaw step (Some (fresh n)) pieces now → ByLaw step None pieces now
opened n step pieces now law = record { told = by step.next law.told; hands = law.hands; handed = law.handed } where
  by : (c : Change Receiving) → Told (after c (Some (fresh n))) now → Told (after c None) now
  by stays told = tt
  by (keeps r) told = told
  by ends told = tt

stepped : (policy : PolicyValue) (r : Receiving) (piece : PieceValue) (now : ℕ) (pieces : List RedPiece) → Stands r pieces → is_cancelling r.phase ≡ false
    → ByLaw (piece_step policy r piece now) (Some r) pieces (if is_taken r piece then red_piece piece ∷ pieces else pieces)
stepped policy r piece now pieces stands free =
    rw free (piece-law policy r piece now pieces stands free (is_red piece.kind) (is_outside r piece) (is_miscoloured r piece) refl refl refl)

first-law : (policy : PolicyValue) (n most : ℕ) (piece : PieceValue) (now : ℕ) (red over : Bool)
    → ByLaw (if not red then hands_up_green stays piece else if over then noting stays [] note_closed else piece_step policy (fresh n) piece now) None []
    (if is_taken_by (if not red then None else if over then None else Some (fresh n)) piece then red_piece piece ∷ [] else [])
first-law policy n most piece now false over = rests _ None [] refl refl tt
first-law policy n most piece now true true = rests _ None [] refl refl tt
first-law policy n most piece now true false = opened n _ [] _ (stepped policy (fresh n) piece now [] (nothing-stands n) refl)

piece-told : (policy : PolicyValue) (n most : ℕ) (over : Bool) (kept : Option Receiving) (piece : PieceValue) (now : ℕ) (pieces : List RedPiece) → Told kept pieces → (kept ≡ None → pieces ≡ [])
    → ByLaw (on_piece policy (place n most over) kept piece now) kept pieces (with_content (place n most over) kept (a_piece piece) pieces)
piece-told policy n most over None piece now pieces told none = subst (λ ps. ByLaw (on_piece policy (place n most over) None piece now) None ps (with_content (place n most over) None (a_piece piece) ps)) (sym (none refl))
    (by (piece.service == 1) (is_no_part most piece.offset piece.body)) where
      by : (served no_part : Bool) → ByLaw (if not served then noting stays (a_receiver_cancel unreachable ∷ []) (note_refused piece.service) else if no_part then noting stays [] note_bad_bounds else piece_for policy (place n most over) None piece now) None []
          (if served && (not no_part && is_taken_by (meets (place n most over) None piece) piece) then red_piece piece ∷ [] else [])
      by false no_part = rests _ None [] refl refl tt
      by true true = rests _ None [] refl refl tt
      by true false = first-law policy n most piece now (is_red piece.kind) over
piece-told policy n most over (Some r) piece now pieces stands none = by (piece.service == 1) (is_no_part most piece.offset piece.body) (is_cancelling r.phase) refl where
  by : (served no_part cancelling : Bool) → is_cancelling r.phase ≡ cancelling
      → ByLaw (if not served then noting stays (a_receiver_cancel unreachable ∷ []) (note_refused piece.service) else if no_part then noting stays [] note_bad_bounds else if cancelling then noting stays [] note_closed else piece_step policy r piece now) (Some r) pieces
      (if served && (not no_part && is_taken r piece) then red_piece piece ∷ pieces else pieces)
  by false no_part cancelling is = rests _ (Some r) pieces refl refl stands
  by true true cancelling is = rests _ (Some r) pieces refl refl stands
  by true false true is = rw is (rests _ (Some r) pieces refl refl stands)
  by true false false is = stepped policy r piece now pieces stands is

got : {X : Type 0} (x : X) {y : X} → Some x ≡ Some y → x ≡ y
got x is = cc

content-law : (policy : PolicyValue) (n most : ℕ) (over : Bool) (kept : Option Receiving) (content : ContentValue) (now : ℕ) (step : StepValue Receiving) (pieces : List RedPiece)
    → receiver_answers policy (place n most over) kept content now ≡ Some step → Told kept pieces → (kept ≡ None → pieces ≡ []) → ByLaw step kept pieces (with_content (place n most over) kept content pieces)
unfolding receiver_answers
content-law policy n most over kept (a_piece piece) now step pieces is told none =
    subst (λ (t : StepValue Receiving). ByLaw t kept pieces (with_content (place n most over) kept (a_piece piece) pieces)) (got (on_piece policy (place n most over) kept piece now) is) (piece-told policy n most over kept piece now pieces told none)
content-law policy n most over kept (a_report report) now step pieces is told none = absurd (cc (is))
content-law policy n most over None (a_report_ack serial) now step pieces is told none = subst (λ (t : StepValue Receiving). ByLaw t None pieces pieces) (got _ is) (rests _ None pieces refl refl tt)
content-law policy n most over (Some r) (a_report_ack serial) now step pieces is told none = subst (λ (t : StepValue Receiving). ByLaw t (Some r) pieces pieces) (got _ is) (ack-law r serial pieces told)
content-law policy n most over None (a_sender_cancel reason) now step pieces is told none = subst (λ (t : StepValue Receiving). ByLaw t None pieces pieces) (got _ is) (rests _ None pieces refl refl tt)
content-law policy n most over (Some r) (a_sender_cancel reason) now step pieces is told none = subst (λ (t : StepValue Receiving). ByLaw t (Some r) pieces pieces) (got _ is) (leaves _ (Some r) pieces refl refl)
content-law policy n most over kept a_sender_cancel_ack now step pieces is told none = absurd (cc (is))
content-law policy n most over kept (a_receiver_cancel reason) now step pieces is told none = absurd (cc (is))
content-law policy n most over None a_receiver_cancel_ack now step pieces is told none = subst (λ (t : StepValue Receiving). ByLaw t None pieces pieces) (got _ is) (rests _ None pieces refl refl tt)
content-law policy n most over (Some r) a_receiver_cancel_ack now step pieces is told none = subst (λ (t : StepValue Receiving). ByLaw t (Some r) pieces pieces) (got _ is) (by (is_cancelling r.phase)) where
  by : (cancelling : Bool) → ByLaw (if cancelling then sending ends [] else sending stays []) (Some r) pieces pieces
  by true = leaves _ (Some r) pieces refl refl
  by false = rests _ (Some r) pieces refl refl told

-- what has no answer counts for nothing
unanswered : (policy : PolicyValue) (p : Admission) (kept : Option Receiving) (content : ContentValue) (now : ℕ) (pieces : List RedPiece) → receiver_answers policy p kept content now ≡ None → with_content p kept content pieces ≡ pieces
unfolding receiver_answers
unanswered policy p kept (a_piece piece) now pieces is = absurd (cc (is))
unanswered policy p kept (a_report report) now pieces is = refl
unanswered policy p kept (a_report_ack serial) now pieces is = refl
unanswered policy p kept (a_sender_cancel reason) now pieces is = refl
unanswered policy p kept a_sender_cancel_ack now pieces is = refl
unanswered policy p kept (a_receiver_cancel reason) now pieces is = refl
unanswered policy p kept a_receiver_cancel_ack now pieces is = refl

-- ---- sessions are closed

-- what is kept of session n agrees with some pieces
abbrev IsTold : ℕ → Engine → List RedPiece → Type 0
IsTold n e pieces = Told (find n e.receivers) pieces

told-ends : (n m : ℕ) (e : Engine) (pieces : List RedPiece) → IsTold n e pieces → IsTold n (with_receiver e m ends) pieces
unfolding with_receiver
told-ends n m e pieces told = by (m == n) refl where
  by : (same : Bool) → (m == n) ≡ same → Told (find n (without m e.receivers)) pieces
  by true is = subst (λ kept. Told kept pieces) (sym (subst (λ j. find j (without m e.receivers) ≡ None) (eqb-true m n is) (find-without m e.receivers))) tt
  by false is = subst (λ kept. Told kept pieces) (sym (find-without_other n m e.receivers (apart-of m n is))) told

told-closes : (n : ℕ) (numbers : List ℕ) (s : Sessions) (pieces : List RedPiece) → IsTold n s.engine pieces → IsTold n (closes numbers s).engine pieces
unfolding closes
told-closes n [] s pieces told = told
told-closes n (m ∷ numbers) s pieces told = told-closes n numbers (left_by (with_receiver s.engine m ends) s.memory s.moments) pieces (told-ends n m s.engine pieces told)

told-evicted : (n : ℕ) (e : Engine) (gone : Option ℕ) (pieces : List RedPiece) → IsTold n e pieces → IsTold n (without_evicted e gone) pieces
told-evicted n e None pieces told = told
told-evicted n e (Some g) pieces told = told-ends n g e pieces told

-- of one that isn't kept there are no pieces
told-while : (kept : Option Receiving) (pieces : List RedPiece) → Told kept pieces → Told kept (while_kept (is_some kept) pieces)
told-while None pieces told = tt
told-while (Some r) pieces told = told

none-while : (kept : Option Receiving) (pieces : List RedPiece) → kept ≡ None → while_kept (is_some kept) pieces ≡ []
none-while None pieces is = refl
none-while (Some r) pieces is = absurd (cc (is))

-- ---- a segment

-- what is handed up with a step, by the pieces before it and with it
record IsLawful (n : ℕ) (step : EngineStep) (pieces now : List RedPiece) : Type 0 where
  told : IsTold n step.engine now
  hands : (body : List ℕ) → IsIn (record { session = n; body = body }) step.effects.ups → (is_whole pieces ≡ false) × IsRedPart now body
  handed : (body : List ℕ) → is_whole pieces ≡ false → IsRedPart now body → IsIn (record { session = n; body = body }) step.effects.ups

silent : (s : Sessions) (n : ℕ) (step : EngineStep) (pieces : List RedPiece) → step.effects.ups ≡ [] → step.engine.receivers ≡ (s.engine).receivers → IsTold n s.engine pieces → IsLawful n step pieces pieces
silent s n step pieces none same told = record {
  told = subst (λ es. Told (find n es) pieces) (sym same) told;
  hands = λ body among. absurd (subst (λ ups. IsIn (record { session = n; body = body }) ups) none among);
  handed = λ body unfinished part. absurd (never-whole body pieces unfinished part);
}

abbrev answered_by : FaceKeys → Sessions → SegmentValue → Option (StepValue Receiving) → EngineStep
answered_by k s segment answer = replied_or_stranger s.engine (record { originator = segment.originator; number = segment.session }) (peer_replies k s.engine segment.session answer)

abbrev up_in : ℕ → List ℕ → UpValue
up_in n body = record { session = n; body = body }

here : (k : FaceKeys) (s : Sessions) (segment : SegmentValue) (now : ℕ) (pieces : List RedPiece) (answer : Option (StepValue Receiving)) → answer_to k s segment now ≡ answer
    → IsTold segment.session s.engine pieces → (find segment.session (s.engine).receivers ≡ None → pieces ≡ [])
    → IsLawful segment.session (answered_by k s segment answer) pieces (with_content (admission_in k s segment.session) (find segment.session (s.engine).receivers) segment.content pieces)
here k s segment now pieces None is told none =
    subst (λ ps. IsLawful segment.session (answered_by k s segment None) pieces ps) (sym (unanswered (k.party).policy (admission_in k s segment.session) (find segment.session (s.engine).receivers) segment.content now pieces is))
    (silent s segment.session (answered_by k s segment None) pieces refl refl told)
here k s segment now pieces (Some t) is told none = record {
  told = subst (λ kept. Told kept (with_content (admission_in k s segment.session) (find segment.session (s.engine).receivers) segment.content pieces)) (sym (found-after k s.engine segment.session t.next)) law.told;
  hands = λ body among. law.hands body (is_up t.up body among);
  handed = λ body unfinished part. subst (λ u. IsIn (up_in segment.session body) (list_of (option_map (λ b. up_in segment.session b) u))) (sym (law.handed body unfinished part)) (inl refl);
} where
  law : ByLaw t (find segment.session (s.engine).receivers) pieces (with_content (admission_in k s segment.session) (find segment.session (s.engine).receivers) segment.content pieces)
  law = content-law (k.party).policy segment.session (k.party).most (is_remembered s.memory segment.session) (find segment.session (s.engine).receivers) segment.content now t pieces is told none

  is_up : (up : Option (List ℕ)) (body : List ℕ) → IsIn (up_in segment.session body) (list_of (option_map (λ b. up_in segment.session b) up)) → up ≡ Some body
  is_up None body among = absurd among
  is_up (Some b) body (inl same) = ap (λ (u : UpValue). Some u.body) same
  is_up (Some b) body (inr none_so) = absurd none_so

elsewhere : (k : FaceKeys) (s : Sessions) (segment : SegmentValue) (n : ℕ) (pieces : List RedPiece) (answer : Option (StepValue Receiving)) → (segment.session == n) ≡ false → IsTold n s.engine pieces
    → IsLawful n (answered_by k s segment answer) pieces pieces
elsewhere k s segment n pieces None other told = silent s n (answered_by k s segment None) pieces refl refl told
elsewhere k s segment n pieces (Some t) other told = record {
  told = subst (λ kept. Told kept pieces) (sym (found-other n segment.session (without_evicted s.engine gone) t.next (apart-of segment.session n other))) (told-evicted n s.engine gone pieces told);
  hands = λ body among. absurd (none t.up body among);
  handed = λ body unfinished part. absurd (never-whole body pieces unfinished part);
} where
  gone : Option ℕ
  gone = makes_room k s.engine (is_opened (find segment.session (s.engine).receivers) t.next)

  none : (up : Option (List ℕ)) (body : List ℕ) → IsIn (up_in n body) (list_of (option_map (λ b. up_in segment.session b) up)) → ⊥
  none None body among = among
  none (Some b) body (inl same) = apart-of segment.session n other (sym (ap (λ (u : UpValue). u.session) same))
  none (Some b) body (inr none_so) = none_so

segment-lawful : (k : FaceKeys) (s : Sessions) (segment : SegmentValue) (now n : ℕ) (pieces : List RedPiece) → IsTold n s.engine pieces → (find n (s.engine).receivers ≡ None → pieces ≡ [])
    → IsLawful n (answers k s (Ok segment) now) pieces (pieces_heard k n s (Ok segment) pieces)
unfolding replies
segment-lawful k s segment now n pieces told none = by (segment.originator == (k.party).own) (segment.originator == (k.party).peer) where
  step : Option Reply → EngineStep
  step reply = replied_or_stranger s.engine (record { originator = segment.originator; number = segment.session }) reply

  own : (used : Bool) (answer : Option (StepValue Sending)) → IsLawful n (step (if used then sender_replies s.engine segment.session answer else None)) pieces pieces
  own false answer = silent s n _ pieces refl refl told
  own true None = silent s n _ pieces refl refl told
  own true (Some t) = silent s n _ pieces refl refl told

  peer : (same : Bool) → (segment.session == n) ≡ same
      → IsLawful n (answered_by k s segment (answer_to k s segment now)) pieces (if same then with_content (admission_in k s n) (find n (s.engine).receivers) segment.content pieces else pieces)
  peer false other = elsewhere k s segment n pieces (answer_to k s segment now) other told
  peer true same =
      let at : segment.session ≡ n = eqb-true segment.session n same in
      subst (λ j. IsLawful j (answered_by k s segment (answer_to k s segment now)) pieces (with_content (admission_in k s j) (find j (s.engine).receivers) segment.content pieces)) at
      (here k s segment now pieces (answer_to k s segment now) refl (subst (λ j. IsTold j s.engine pieces) (sym at) told) (subst (λ j. find j (s.engine).receivers ≡ None → pieces ≡ []) (sym at) none))

  by : (is_own is_peer : Bool) → IsLawful n
      (step (if is_own then (if is_used k.party s.engine segment.session then to_sender k.party s.engine segment now else None) else if is_peer then peer_replies k s.engine segment.session (answer_to k s segment now) else None)) pieces
      (if (is_peer && not is_own) && (segment.session == n) then with_content (admission_in k s n) (find n (s.engine).receivers) segment.content pieces else pieces)
  by true true = own (is_used k.party s.engine segment.session) _
  by true false = own (is_used k.party s.engine segment.session) _
  by false true = peer (segment.session == n) refl
  by false false = silent s n _ pieces refl refl told

read-lawful : (k : FaceKeys) (s : Sessions) (read : Result SegmentValue (ℕ × SegmentCause)) (now n : ℕ) (pieces : List RedPiece) → IsTold n s.engine pieces → (find n (s.engine).receivers ≡ None → pieces ≡ [])
    → IsLawful n (answers k s read now) pieces (pieces_heard k n s read pieces)
read-lawful k s (Err refusal) now n pieces told none = silent s n _ pieces refl refl told
read-lawful k s (Ok segment) now n pieces told none = segment-lawful k s segment now n pieces told none

-- ---- events

told-passes : (k : FaceKeys) (now n : ℕ) (s : Sessions) (pieces : List RedPiece) → IsTold n s.engine pieces → IsTold n (passes k now s).engine pieces
told-passes k now n s pieces told = told-closes n (stale k now s) (record s { memory = passed now s.memory }) pieces told

heard-lawful : (f : Face) (n now : ℕ) (read : Result SegmentValue (ℕ × SegmentCause)) (earlier : List TimedEvent) (pieces : List RedPiece) → IsTold n (sessions_in f earlier).engine pieces
    → IsLawful n (answers f.keys (sessions_at f earlier now) read now) (while_kept (is_kept n (sessions_at f earlier now)) pieces)
    (pieces_heard f.keys n (sessions_at f earlier now) read (while_kept (is_kept n (sessions_at f earlier now)) pieces))
heard-lawful f n now read earlier pieces told =
    read-lawful f.keys (sessions_at f earlier now) read now n (while_kept (is_kept n (sessions_at f earlier now)) pieces)
    (told-while (find n ((sessions_at f earlier now).engine).receivers) pieces (told-passes f.keys now n (sessions_in f earlier) pieces told))
    (none-while (find n ((sessions_at f earlier now).engine).receivers) pieces)

ticked-told : (p : Party) (e : Engine) (now n : ℕ) (pieces : List RedPiece) → AreAscending 0 e.receivers → IsTold n e pieces → IsTold n (tick_step p e now).engine pieces
unfolding tick_step
ticked-told p e now n pieces up told = subst (λ kept. Told kept pieces) (sym (find-ticked (receiver_changes p now) n 0 e.receivers up)) (by (find n e.receivers) told) where
  by : (kept : Option Receiving) → Told kept pieces → Told (after_tick (receiver_changes p now) kept) pieces
  by None told = tt
  by (Some r) told = (tick-law p.policy r now pieces told).told

event-told : (f : Face) (n now : ℕ) (event : SessionsEvent) (earlier : List TimedEvent) (pieces : List RedPiece) → IsTold n (sessions_in f earlier).engine pieces
    → IsTold n (sessions_then f.keys now event (sessions_in f earlier)).engine (pieces_with f.keys n now event (sessions_in f earlier) pieces)
unfolding hears ticks
event-told f n now (a_datagram read) earlier pieces told =
    told-closes n (to_trim f.keys (answered f.keys (sessions_at f earlier now) read now)) (answered f.keys (sessions_at f earlier now) read now) _ (left read _ (heard-lawful f n now read earlier pieces told).told) where
      left : (heard : Result SegmentValue (ℕ × SegmentCause)) (ps : List RedPiece) → IsTold n (answers f.keys (sessions_at f earlier now) heard now).engine ps → IsTold n (answered f.keys (sessions_at f earlier now) heard now).engine ps
      left (Err refusal) ps told = told
      left (Ok segment) ps told = told
event-told f n now a_tick earlier pieces told =
    ticked-told f.keys.party (sessions_at f earlier now).engine now n pieces (up-passes f.keys now (sessions_in f earlier) (up-run f earlier)) (told-passes f.keys now n (sessions_in f earlier) pieces told)
event-told f n now (a_block block) earlier pieces told = told

run-told : (f : Face) (n : ℕ) (events : List TimedEvent) → IsTold n (sessions_in f events).engine (pieces_of f n events)
unfolding pieces_of find
run-told f n [] = tt
run-told f n (event ∷ earlier) = event-told f n event.0 event.1 earlier (pieces_of f n earlier) (run-told f n earlier)

pub hands_up_red_parts : HandsUpRedParts
unfolding hears pieces_of
hands_up_red_parts f n now read earlier body =
    let law = heard-lawful f n now read earlier (pieces_of f n earlier) (run-told f n earlier) in
    ((λ among. let got_so = law.hands body among in record { not_before = got_so.0; part = got_so.1 }), (λ becomes. law.handed body becomes.not_before becomes.part))
