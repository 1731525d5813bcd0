-- What an engine hands up, whoever is at the other end.

use Rattle.std.proofs.Common.{◌≡◌, ◌≢◌, ℕ, Bool, true, false, not, ◌==◌, ◌&&◌, ◌||◌, List, [], ◌∷◌, ◌++◌, Option, None, Some, is_some, Ok, Err, ◌⊎◌, inl, inr, refl, sym, ◌∙◌, ap, subst, if◌then◌else◌}
use Rattle.std.specs.List.{AllByRecursion}
use Rattle.std.specs.Option.{option_map}
use Rattle.std.proofs.lemmas.Bool.{eqb-true, eqb-false}
use Rattle.ltp_segment.specs.Kinds.{is_red, is_checkpoint}
use Rattle.ltp_segment.specs.Policy.{PolicyValue}
use Rattle.ltp_segment.specs.Values.{ContentValue, PieceValue, SegmentValue, a_piece, a_report, a_report_ack, a_sender_cancel, a_sender_cancel_ack, a_receiver_cancel, a_receiver_cancel_ack}
use Rattle.ltp_session.specs.Cells.{is_no_part}
use Rattle.ltp_session.specs.RedPart.{RedPiece, is_whole, IsRedPart}
use Rattle.ltp_session.proofs.RedPartLemmas.{red_part-whole, whole-stays}
use Rattle.ltp_session.specs.Receiver.{Receiving, Admission, fresh, is_cancelling, is_outside, is_miscoloured, piece_step, hands_up_green, first_piece, piece_for, on_piece, receiver_answers, receiver_tick}
use Rattle.ltp_session.specs.Sender.{Sending, sender_answers}
use Rattle.ltp_session.specs.Step.{StepValue, Change, after, stays, keeps, ends, noting, note_refused, note_bad_bounds, note_closed, note_history_full}
use Rattle.ltp_session.specs.Table.{find, ended, AreAscending}
use Rattle.ltp_session.specs.Timer.{is_past_serials}
use Rattle.ltp_session.specs.Engine.{Party, Engine, Reply, SubmitFault, UpValue, is_used, is_closed, list_of, with_receiver, evicted_by, without_evicted, admission_of, sender_replies, receiver_replies, arrives, submits, submits_unless, submit_fault, submit_step, replied_or_stranger, datagram_step, tick_step, receiver_changes}
use Rattle.ltp_session.specs.World.{first_end, second_end}
use Rattle.ltp_receiver.specs.RedPart.{is_taken, red_piece}
use Rattle.ltp_receiver.proofs.LawLemmas.{Stands, Told, ByLaw, piece-law, ack-law, tick-law, nothing-stands}
use Rattle.ltp_laws.specs.View.{IsIn, View, closed_after}
use Rattle.ltp_laws.proofs.FrameLemmas.{receiver-here, receiver-others, roomy-received, Left, alone, closed_for_room}
use Rattle.ltp_laws.proofs.RunLemmas.{two_ends}
use Rattle.ltp_laws.proofs.ListLemmas.{both_arms, answered}
use Rattle.ltp_laws.proofs.TableLemmas.{find-ticked, after_tick, ascending-ticked}
use Rattle.ltp_engine.specs.RedParts.{Coming, a_block_comes, a_datagram_comes, a_moment_comes, unless_faulty, engine_with, ups_with, engine_after, ups_of, meets, is_taken_by, counts, with_content, is_of_peer, with_coming, pieces_of, HandsUpRedParts, EachOnce, HandsUpEachOnce}
use Rattle.ltp_engine.proofs.KeepLemmas.{is_over_by, closed-ended}

-- ---- one session

-- what is kept of a session agrees with the pieces that count; without any none was kept
abbrev Known : Option Receiving → Bool → List RedPiece → Type 0
Known (Some r) closed pieces = Stands r pieces
Known None true pieces = Unit {0}
Known None false pieces = pieces ≡ []

-- a step is by the law
record Lawful (t : StepValue Receiving) (kept : Option Receiving) (closed : Bool) (pieces now : List RedPiece) : Type 0 where
  known : Known (after t.next kept) (closed_after t.next closed) now
  hands : (body : List ℕ) → t.up ≡ Some body → (is_whole pieces ≡ false) × IsRedPart now body
  handed : (body : List ℕ) → is_whole pieces ≡ false → IsRedPart now body → t.up ≡ Some body

never-up : (t : StepValue Receiving) (body : List ℕ) (pieces : List RedPiece) → t.up ≡ None → t.up ≡ Some body → (is_whole pieces ≡ false) × IsRedPart pieces body
never-up t body pieces none is = absurd (cc)

never-whole : (body : List ℕ) (pieces : List RedPiece) → is_whole pieces ≡ false → IsRedPart pieces body → ⊥
never-whole body pieces unfinished part = let whole = red_part-whole pieces body part in cc

rests : (t : StepValue Receiving) (kept : Option Receiving) (closed : Bool) (pieces : List RedPiece) → t.next ≡ stays → t.up ≡ None → Known kept closed pieces
    → Lawful t kept closed pieces pieces
rests t kept closed pieces next none known = record {
  known = subst (λ c. Known (after c kept) (closed_after c closed) pieces) (sym next) known;
  hands = λ body is. never-up t body pieces none is;
  handed = λ body unfinished part. absurd (never-whole body pieces unfinished part);
}

leaves : (t : StepValue Receiving) (kept : Option Receiving) (closed : Bool) (pieces : List RedPiece) → t.next ≡ ends → t.up ≡ None
    → Lawful t kept closed pieces pieces
leaves t kept closed pieces next none = record {
  known = subst (λ c. Known (after c kept) (closed_after c closed) pieces) (sym next) tt;
  hands = λ body is. never-up t body pieces none is;
  handed = λ body unfinished part. absurd (never-whole body pieces unfinished part);
}

by-law : (t : StepValue Receiving) (r : Receiving) (closed : Bool) (pieces now : List RedPiece) → ByLaw t (Some r) pieces now → Lawful t (Some r) closed pieces now
by-law t r closed pieces now law = record { known = by_next t.next law.told; hands = law.hands; handed = law.handed } where
  by_next : (c : Change Receiving) → Told (after c (Some r)) now → Known (after c (Some r)) (closed_after c closed) now
  by_next stays told = told
  by_next (keeps s) told = told
  by_next ends told = tt

-- ---- a session opens

abbrev Opens : Change Receiving → Type 0
Opens stays = ⊥
Opens (keeps s) = Unit {0}
Opens ends = ⊥

opens-piece : (policy : PolicyValue) (r : Receiving) (q : PieceValue) (now : ℕ) → is_outside r q ≡ false → Opens (piece_step policy r q now).next
unfolding piece_step
opens-piece policy r q now inside =
    rw inside (both_arms (λ (t : StepValue Receiving). Opens t.next) (is_miscoloured r q) _ _ tt
    (both_arms (λ (t : StepValue Receiving). Opens t.next) (is_red q.kind) _ _
    (both_arms (λ (t : StepValue Receiving). Opens t.next) (is_checkpoint q.kind) _ _
    (both_arms (λ (t : StepValue Receiving). Opens t.next) (is_past_serials r.serial) _ _ tt tt) tt) tt))

outside-rests : (policy : PolicyValue) (r : Receiving) (q : PieceValue) (now : ℕ) → is_outside r q ≡ true
    → ((piece_step policy r q now).next ≡ stays) × ((piece_step policy r q now).up ≡ None)
unfolding piece_step
outside-rests policy r q now outside = rw outside (refl, refl)

fresh-lawful : (policy : PolicyValue) (n : ℕ) (q : PieceValue) (now : ℕ) (pieces : List RedPiece) → pieces ≡ []
    → Lawful (piece_step policy (fresh n) q now) None false pieces (if is_taken (fresh n) q then red_piece q ∷ pieces else pieces)
fresh-lawful policy n q now pieces none = by_outside (is_outside (fresh n) q) refl where
  by_outside : (out : Bool) → is_outside (fresh n) q ≡ out
      → Lawful (piece_step policy (fresh n) q now) None false pieces (if is_taken (fresh n) q then red_piece q ∷ pieces else pieces)
  by_outside true outside =
      let rest = outside-rests policy (fresh n) q now outside in
      let not_taken : is_taken (fresh n) q ≡ false = rw outside (and_false (is_red q.kind)) in
      rw not_taken (rests _ None false pieces rest.0 rest.1 none)
    where
      and_false : (b : Bool) → (b && false) ≡ false
      and_false true = refl
      and_false false = refl
  by_outside false inside =
      let law = piece-law policy (fresh n) q now pieces (subst (Stands (fresh n)) (sym none) (nothing-stands n)) refl
      (is_red q.kind) (is_outside (fresh n) q) (is_miscoloured (fresh n) q) refl refl refl in
      record { known = by_next _ _ (opens-piece policy (fresh n) q now inside) law.told; hands = law.hands; handed = law.handed }
    where
      by_next : (c : Change Receiving) (counted : List RedPiece) → Opens c → Told (after c (Some (fresh n))) counted → Known (after c None) (closed_after c false) counted
      by_next stays counted opens told = absurd opens
      by_next (keeps s) counted opens told = told
      by_next ends counted opens told = absurd opens

-- ---- a content comes

first-lawful : (policy : PolicyValue) (place : Admission) (q : PieceValue) (now : ℕ) (pieces : List RedPiece) → Known None place.closed pieces
    → Lawful (first_piece policy place q now) None place.closed pieces (if is_taken_by (meets place None q) q then red_piece q ∷ pieces else pieces)
first-lawful policy place q now pieces known = by_tests (is_red q.kind) place.closed place.full known where
  by_tests : (red closed full : Bool) → Known None closed pieces
      → Lawful (if not red then hands_up_green stays q else if closed then noting stays [] note_closed else if full then noting stays [] note_history_full else piece_step policy (fresh place.session) q now)
      None closed pieces
      (if is_taken_by (if not red then None else if closed then None else if full then None else Some (fresh place.session)) q then red_piece q ∷ pieces else pieces)
  by_tests false closed full known = rests _ None closed pieces refl refl known
  by_tests true true full known = rests _ None true pieces refl refl known
  by_tests true false true known = rests _ None false pieces refl refl known
  by_tests true false false known = fresh-lawful policy place.session q now pieces known

kept-lawful : (policy : PolicyValue) (place : Admission) (kept : Option Receiving) (q : PieceValue) (now : ℕ) (pieces : List RedPiece) → Known kept place.closed pieces
    → Lawful (piece_for policy place kept q now) kept place.closed pieces (if is_taken_by (meets place kept q) q then red_piece q ∷ pieces else pieces)
kept-lawful policy place None q now pieces known = first-lawful policy place q now pieces known
kept-lawful policy place (Some r) q now pieces stands = by_test (is_cancelling r.phase) refl where
  by_test : (cancels : Bool) → is_cancelling r.phase ≡ cancels
      → Lawful (piece_for policy place (Some r) q now) (Some r) place.closed pieces (if is_taken r q then red_piece q ∷ pieces else pieces)
  by_test true is = rw is (rests _ (Some r) place.closed pieces refl refl stands)
  by_test false is =
      rw is (by-law _ r place.closed pieces _
      (piece-law policy r q now pieces stands is (is_red q.kind) (is_outside r q) (is_miscoloured r q) refl refl refl))

piece-lawful : (policy : PolicyValue) (place : Admission) (kept : Option Receiving) (q : PieceValue) (now : ℕ) (pieces : List RedPiece) → Known kept place.closed pieces
    → Lawful (on_piece policy place kept q now) kept place.closed pieces (if counts place kept q then red_piece q ∷ pieces else pieces)
piece-lawful policy place kept q now pieces known = by_tests (q.service == 1) (is_no_part place.most q.offset q.body) where
  by_tests : (served none : Bool)
      → Lawful (if not served then noting stays (a_receiver_cancel 1 ∷ []) (note_refused q.service) else if none then noting stays [] note_bad_bounds else piece_for policy place kept q now)
      kept place.closed pieces (if served && (not none && is_taken_by (meets place kept q) q) then red_piece q ∷ pieces else pieces)
  by_tests false none = rests _ kept place.closed pieces refl refl known
  by_tests true true = rests _ kept place.closed pieces refl refl known
  by_tests true false = kept-lawful policy place kept q now pieces known

content-lawful : (policy : PolicyValue) (place : Admission) (kept : Option Receiving) (content : ContentValue) (now : ℕ) (t : StepValue Receiving) (pieces : List RedPiece)
    → receiver_answers policy place kept content now ≡ Some t → Known kept place.closed pieces
    → Lawful t kept place.closed pieces (with_content place kept content pieces)
unfolding receiver_answers
content-lawful policy place kept (a_piece q) now t pieces hears known =
    answered (λ t. Lawful t kept place.closed pieces (with_content place kept (a_piece q) pieces)) _ t hears (piece-lawful policy place kept q now pieces known)
content-lawful policy place None (a_report_ack serial) now t pieces hears known =
    answered (λ t. Lawful t None place.closed pieces pieces) _ t hears (rests _ None place.closed pieces refl refl known)
content-lawful policy place (Some r) (a_report_ack serial) now t pieces hears known =
    answered (λ t. Lawful t (Some r) place.closed pieces pieces) _ t hears (by-law _ r place.closed pieces pieces (ack-law r serial pieces known))
content-lawful policy place None (a_sender_cancel reason) now t pieces hears known =
    answered (λ t. Lawful t None place.closed pieces pieces) _ t hears (rests _ None place.closed pieces refl refl known)
content-lawful policy place (Some r) (a_sender_cancel reason) now t pieces hears known =
    answered (λ t. Lawful t (Some r) place.closed pieces pieces) _ t hears (leaves _ (Some r) place.closed pieces refl refl)
content-lawful policy place None a_receiver_cancel_ack now t pieces hears known =
    answered (λ t. Lawful t None place.closed pieces pieces) _ t hears (rests _ None place.closed pieces refl refl known)
content-lawful policy place (Some r) a_receiver_cancel_ack now t pieces hears known =
    answered (λ t. Lawful t (Some r) place.closed pieces pieces) _ t hears
    (both_arms (λ (t : StepValue Receiving). Lawful t (Some r) place.closed pieces pieces) (is_cancelling r.phase) _ _
    (leaves _ (Some r) place.closed pieces refl refl) (rests _ (Some r) place.closed pieces refl refl known))
content-lawful policy place kept (a_report x) now t pieces hears known = absurd (cc)
content-lawful policy place kept a_sender_cancel_ack now t pieces hears known = absurd (cc)
content-lawful policy place kept (a_receiver_cancel reason) now t pieces hears known = absurd (cc)

-- what has no answer counts for nothing
unanswered : (policy : PolicyValue) (place : Admission) (kept : Option Receiving) (content : ContentValue) (now : ℕ) (pieces : List RedPiece)
    → receiver_answers policy place kept content now ≡ None → with_content place kept content pieces ≡ pieces
unfolding receiver_answers
unanswered policy place kept (a_piece q) now pieces is = absurd (cc)
unanswered policy place kept (a_report_ack serial) now pieces is = absurd (cc)
unanswered policy place kept (a_sender_cancel reason) now pieces is = absurd (cc)
unanswered policy place kept a_receiver_cancel_ack now pieces is = absurd (cc)
unanswered policy place kept (a_report x) now pieces is = refl
unanswered policy place kept a_sender_cancel_ack now pieces is = refl
unanswered policy place kept (a_receiver_cancel reason) now pieces is = refl

-- ---- an engine

record IsKnown (n : ℕ) (e : Engine) (pieces : List RedPiece) : Type 0 where
  ascending : AreAscending 0 e.receivers
  known : Known (find n e.receivers) (is_closed n e.closed) pieces

abbrev up_in : ℕ → List ℕ → UpValue
up_in n body = record { session = n; body = body }

-- the engine after an event, and what is handed up with it
record EngineLaw (n : ℕ) (e : Engine) (ups : List UpValue) (pieces now : List RedPiece) : Type 0 where
  known : IsKnown n e now
  hands : (body : List ℕ) → IsIn (up_in n body) ups → (is_whole pieces ≡ false) × IsRedPart now body
  handed : (body : List ℕ) → is_whole pieces ≡ false → IsRedPart now body → IsIn (up_in n body) ups

silent : (n : ℕ) (e : Engine) (pieces : List RedPiece) → IsKnown n e pieces → EngineLaw n e [] pieces pieces
silent n e pieces known = record {
  known = known;
  hands = λ body among. absurd among;
  handed = λ body unfinished part. never-whole body pieces unfinished part;
}

same-known : (n : ℕ) (e f : Engine) (pieces : List RedPiece) → f.receivers ≡ e.receivers → f.closed ≡ e.closed → IsKnown n e pieces → IsKnown n f pieces
same-known n e f pieces receivers closed known = record {
  ascending = subst (λ t. AreAscending 0 t) (sym receivers) known.ascending;
  known = subst (λ t. Known (find n t) (is_closed n f.closed) pieces) (sym receivers) (subst (λ c. Known (find n e.receivers) (is_closed n c) pieces) (sym closed) known.known);
}

-- ---- a segment of a session of the peer

here-law : (n : ℕ) (e f : Engine) (t : StepValue Receiving) (pieces now : List RedPiece) → AreAscending 0 f.receivers
    → find n f.receivers ≡ after t.next (find n e.receivers) → is_closed n f.closed ≡ closed_after t.next (is_closed n e.closed)
    → Lawful t (find n e.receivers) (is_closed n e.closed) pieces now
    → EngineLaw n f (list_of (option_map (λ body. up_in n body) t.up)) pieces now
here-law n e f t pieces now ascending found closed law = record {
  known = record { ascending = ascending; known = subst (λ k. Known k (is_closed n f.closed) now) (sym found) (subst (λ c. Known (after t.next (find n e.receivers)) c now) (sym closed) law.known) };
  hands = λ body among. law.hands body (is_up t.up body among);
  handed = λ body unfinished part. subst (λ u. IsIn (up_in n body) (list_of (option_map (λ b. up_in n b) u))) (sym (law.handed body unfinished part)) (inl refl);
} where
  is_up : (up : Option (List ℕ)) (body : List ℕ) → IsIn (up_in n body) (list_of (option_map (λ b. up_in n b) up)) → up ≡ Some body
  is_up None body among = absurd among
  is_up (Some b) body (inl same) = ap (λ (u : UpValue). Some u.body) same
  is_up (Some b) body (inr none) = absurd none

elsewhere-law : (n m : ℕ) (f : Engine) (up : Option (List ℕ)) (pieces : List RedPiece) → m ≢ n → IsKnown n f pieces
    → EngineLaw n f (list_of (option_map (λ body. up_in m body) up)) pieces pieces
elsewhere-law n m f up pieces apart known = record {
  known = known;
  hands = λ body among. absurd (other up body among);
  handed = λ body unfinished part. absurd (never-whole body pieces unfinished part);
} where
  other : (up : Option (List ℕ)) (body : List ℕ) → IsIn (up_in n body) (list_of (option_map (λ b. up_in m b) up)) → ⊥
  other None body among = among
  other (Some b) body (inl same) = apart (ap (λ (u : UpValue). u.session) same)
  other (Some b) body (inr none) = none

-- the engine after a step of session m
abbrev stepped : Party → Engine → ℕ → StepValue Receiving → Engine
stepped p e m t = with_receiver (without_evicted e (evicted_by p e (find m e.receivers) t.next)) m t.next

stepped-here : (p : Party) (e : Engine) (n : ℕ) (t : StepValue Receiving)
    → (find n (stepped p e n t).receivers ≡ after t.next (find n e.receivers)) × (is_closed n (stepped p e n t).closed ≡ closed_after t.next (is_closed n e.closed))
stepped-here p e n t =
    let same = receiver-here first_end second_end p p e e [] n t (two_ends first_end) in
    (ap (λ (v : View). v.receiver) same, ap (λ (v : View). v.closed) same)

stepped-elsewhere : (p : Party) (e : Engine) (n m : ℕ) (t : StepValue Receiving) (pieces : List RedPiece) → m ≢ n → Known (find n e.receivers) (is_closed n e.closed) pieces
    → Known (find n (stepped p e m t).receivers) (is_closed n (stepped p e m t).closed) pieces
stepped-elsewhere p e n m t pieces apart known = by_left _ _ (receiver-others first_end second_end p p e e [] m n t (two_ends first_end) apart) known where
  by_left : (v v' : View) → Left v v' → Known v.receiver v.closed pieces → Known v'.receiver v'.closed pieces
  by_left v v' (alone is) was = subst (λ (x : View). Known x.receiver x.closed pieces) (sym is) was
  by_left v v' (closed_for_room r kept is) was = subst (λ (x : View). Known x.receiver x.closed pieces) (sym is) tt

peer-law : (p : Party) (e : Engine) (n : ℕ) (s : SegmentValue) (now : ℕ) (pieces : List RedPiece) → IsKnown n e pieces → (answer : Option (StepValue Receiving))
    → receiver_answers p.policy (admission_of p e s.session) (find s.session e.receivers) s.content now ≡ answer
    → EngineLaw n (replied_or_stranger e (record { originator = s.originator; number = s.session }) (receiver_replies p e s.session answer)).engine
    (replied_or_stranger e (record { originator = s.originator; number = s.session }) (receiver_replies p e s.session answer)).effects.ups
    pieces (if s.session == n then with_content (admission_of p e n) (find n e.receivers) s.content pieces else pieces)
peer-law p e n s now pieces known answer is = by_same (s.session == n) refl where
  by_same : (same : Bool) → (s.session == n) ≡ same
      → EngineLaw n (replied_or_stranger e (record { originator = s.originator; number = s.session }) (receiver_replies p e s.session answer)).engine
      (replied_or_stranger e (record { originator = s.originator; number = s.session }) (receiver_replies p e s.session answer)).effects.ups
      pieces (if same then with_content (admission_of p e n) (find n e.receivers) s.content pieces else pieces)
  by_same true same = let here : s.session ≡ n = eqb-true s.session n same in at_it s.session here answer is where
    at_it : (m : ℕ) → m ≡ n → (answer : Option (StepValue Receiving)) → receiver_answers p.policy (admission_of p e m) (find m e.receivers) s.content now ≡ answer
        → EngineLaw n (replied_or_stranger e (record { originator = s.originator; number = m }) (receiver_replies p e m answer)).engine
        (replied_or_stranger e (record { originator = s.originator; number = m }) (receiver_replies p e m answer)).effects.ups
        pieces (with_content (admission_of p e n) (find n e.receivers) s.content pieces)
    at_it m here None is =
        rw (unanswered p.policy (admission_of p e n) (find n e.receivers) s.content now pieces (subst (λ k. receiver_answers p.policy (admission_of p e k) (find k e.receivers) s.content now ≡ None) here is))
        (silent n e pieces known)
    at_it m here (Some t) is =
        subst (λ k. EngineLaw n (stepped p e k t) (list_of (option_map (λ body. up_in k body) t.up)) pieces (with_content (admission_of p e n) (find n e.receivers) s.content pieces)) (sym here)
        (here-law n e (stepped p e n t) t pieces _ ((roomy-received p e n t.next).receivers known.ascending) (stepped-here p e n t).0 (stepped-here p e n t).1
        (content-lawful p.policy (admission_of p e n) (find n e.receivers) s.content now t pieces
        (subst (λ k. receiver_answers p.policy (admission_of p e k) (find k e.receivers) s.content now ≡ Some t) here is) known.known))
  by_same false other = elsewhere answer where
    elsewhere : (answer : Option (StepValue Receiving))
        → EngineLaw n (replied_or_stranger e (record { originator = s.originator; number = s.session }) (receiver_replies p e s.session answer)).engine
        (replied_or_stranger e (record { originator = s.originator; number = s.session }) (receiver_replies p e s.session answer)).effects.ups pieces pieces
    elsewhere None = silent n e pieces known
    elsewhere (Some t) = elsewhere-law n s.session (stepped p e s.session t) t.up pieces (eqb-false s.session n other)
        (record { ascending = (roomy-received p e s.session t.next).receivers known.ascending; known = stepped-elsewhere p e n s.session t pieces (eqb-false s.session n other) known.known })

segment-law : (p : Party) (e : Engine) (n : ℕ) (s : SegmentValue) (now : ℕ) (pieces : List RedPiece) → IsKnown n e pieces
    → EngineLaw n (replied_or_stranger e (record { originator = s.originator; number = s.session }) (arrives p e s now)).engine
    (replied_or_stranger e (record { originator = s.originator; number = s.session }) (arrives p e s now)).effects.ups
    pieces (if is_of_peer p n s then with_content (admission_of p e n) (find n e.receivers) s.content pieces else pieces)
unfolding arrives
segment-law p e n s now pieces known = by_tests (s.originator == p.own) (s.originator == p.peer) (is_used p e s.session) where
  Law : Option Reply → List RedPiece → Type 0
  Law reply more = EngineLaw n (replied_or_stranger e (record { originator = s.originator; number = s.session }) reply).engine
      (replied_or_stranger e (record { originator = s.originator; number = s.session }) reply).effects.ups pieces more

  own_law : (answer : Option (StepValue Sending)) → Law (sender_replies e s.session answer) pieces
  own_law None = silent n e pieces known
  own_law (Some t) = silent n _ pieces (same-known n e _ pieces refl refl known)

  by_tests : (own peer used : Bool)
      → Law (if own then (if used then sender_replies e s.session (sender_answers p.policy (find s.session e.senders) s.content now) else None)
      else if peer then receiver_replies p e s.session (receiver_answers p.policy (admission_of p e s.session) (find s.session e.receivers) s.content now) else None)
      (if not own && (peer && (s.session == n)) then with_content (admission_of p e n) (find n e.receivers) s.content pieces else pieces)
  by_tests true peer true = own_law _
  by_tests true peer false = silent n e pieces known
  by_tests false true used = peer-law p e n s now pieces known _ refl
  by_tests false false used = silent n e pieces known

-- ---- the other events

block-law : (p : Party) (e : Engine) (n : ℕ) (block : List ℕ) (red now : ℕ) (pieces : List RedPiece) → IsKnown n e pieces
    → IsKnown n (unless_faulty e (submit_step p e (submits p e block red now))) pieces
unfolding submits
block-law p e n block red now pieces known = by_fault (submit_fault p e block) where
  by_fault : (fault : Option SubmitFault) → IsKnown n (unless_faulty e (submit_step p e (submits_unless fault p e block red now))) pieces
  by_fault (Some fault) = known
  by_fault None = same-known n e _ pieces refl refl known

closed-append : (n : ℕ) (xs ys : List ℕ) → is_closed n (xs ++ ys) ≡ (is_closed n xs || is_closed n ys)
closed-append n [] ys = refl
closed-append n (x ∷ xs) ys = ap (λ b. (x == n) || b) (closed-append n xs ys) ∙ ors (x == n) (is_closed n xs) (is_closed n ys) where
  ors : (a b d : Bool) → (a || (b || d)) ≡ ((a || b) || d)
  ors true b d = refl
  ors false b d = refl

moment-known : (p : Party) (e : Engine) (n now : ℕ) (pieces : List RedPiece) → IsKnown n e pieces → IsKnown n (tick_step p e now).engine pieces
unfolding tick_step
moment-known p e n now pieces known = record {
  ascending = ascending-ticked (receiver_changes p now) 0 e.receivers known.ascending;
  known = rw (
    find-ticked (receiver_changes p now) n 0 e.receivers known.ascending,
    closed-append n (ended (receiver_changes p now) e.receivers) e.closed,
    closed-ended (receiver_changes p now) n 0 e.receivers known.ascending,
  )
      (by_kept (find n e.receivers) (is_closed n e.closed) known.known);
} where
  by_kept : (kept : Option Receiving) (closed : Bool) → Known kept closed pieces
      → Known (after_tick (receiver_changes p now) kept) (is_over_by (receiver_changes p now) kept || closed) pieces
  by_kept None true told = tt
  by_kept None false told = told
  by_kept (Some r) closed stands = by_change (receiver_tick p.policy r now).next (tick-law p.policy r now pieces stands).told where
    by_change : (c : Change Receiving) → Told (after c (Some r)) pieces → Known (after c (Some r)) (not (is_some (after c (Some r))) || closed) pieces
    by_change stays told = told
    by_change (keeps s) told = told
    by_change ends told = tt

-- ---- every event

coming-law : (p : Party) (e : Engine) (n : ℕ) (coming : Coming) (pieces : List RedPiece) → IsKnown n e pieces
    → EngineLaw n (engine_with p e coming) (ups_with p e coming) pieces (with_coming p e n coming pieces)
unfolding datagram_step
coming-law p e n (a_block_comes block red now) pieces known = silent n _ pieces (block-law p e n block red now pieces known)
coming-law p e n (a_datagram_comes (Err refusal) now) pieces known = silent n e pieces known
coming-law p e n (a_datagram_comes (Ok s) now) pieces known = segment-law p e n s now pieces known
coming-law p e n (a_moment_comes now) pieces known = silent n _ pieces (moment-known p e n now pieces known)

known-after : (p : Party) (n : ℕ) (comings : List Coming) → IsKnown n (engine_after p comings) (pieces_of p n comings)
unfolding engine_after pieces_of find
known-after p n [] = record { ascending = tt; known = refl }
known-after p n (coming ∷ earlier) =
    (coming-law p (engine_after p earlier) n coming (pieces_of p n earlier) (known-after p n earlier)).known

pub hands_up_red_parts : HandsUpRedParts
unfolding pieces_of
hands_up_red_parts p n earlier coming body = (
  λ among. let law = (law_of).hands body among in record { not_before = law.0; part = law.1 },
  λ becomes. (law_of).handed body becomes.not_before becomes.part,
) where
  law_of : EngineLaw n (engine_with p (engine_after p earlier) coming) (ups_with p (engine_after p earlier) coming) (pieces_of p n earlier)
      (with_coming p (engine_after p earlier) n coming (pieces_of p n earlier))
  law_of = coming-law p (engine_after p earlier) n coming (pieces_of p n earlier) (known-after p n earlier)

-- ---- at most once

with_content-whole : (place : Admission) (kept : Option Receiving) (content : ContentValue) (pieces : List RedPiece) → is_whole pieces ≡ true → is_whole (with_content place kept content pieces) ≡ true
with_content-whole place kept (a_piece q) pieces whole =
    both_arms (λ (now : List RedPiece). is_whole now ≡ true) (counts place kept q) _ _ (whole-stays pieces (red_piece q) whole) whole
with_content-whole place kept (a_report x) pieces whole = whole
with_content-whole place kept (a_report_ack serial) pieces whole = whole
with_content-whole place kept (a_sender_cancel reason) pieces whole = whole
with_content-whole place kept a_sender_cancel_ack pieces whole = whole
with_content-whole place kept (a_receiver_cancel reason) pieces whole = whole
with_content-whole place kept a_receiver_cancel_ack pieces whole = whole

with_coming-whole : (p : Party) (e : Engine) (n : ℕ) (coming : Coming) (pieces : List RedPiece) → is_whole pieces ≡ true → is_whole (with_coming p e n coming pieces) ≡ true
with_coming-whole p e n (a_block_comes block red now) pieces whole = whole
with_coming-whole p e n (a_datagram_comes (Err refusal) now) pieces whole = whole
with_coming-whole p e n (a_datagram_comes (Ok s) now) pieces whole =
    both_arms (λ (now : List RedPiece). is_whole now ≡ true) (is_of_peer p n s) _ _
    (with_content-whole (admission_of p e n) (find n e.receivers) s.content pieces whole) whole
with_coming-whole p e n (a_moment_comes now) pieces whole = whole

among-either : {X : Type 0} (x : X) (xs ys : List X) → IsIn x (xs ++ ys) → IsIn x xs ⊎ IsIn x ys
among-either x [] ys among = inr among
among-either x (z ∷ xs) ys (inl here) = inl (inl here)
among-either x (z ∷ xs) ys (inr there) = later (among-either x xs ys there) where
  later : IsIn x xs ⊎ IsIn x ys → IsIn x (z ∷ xs) ⊎ IsIn x ys
  later (inl first) = inl (inr first)
  later (inr second) = inr second

-- once a session's red part was handed up, it is whole
whole-after : (p : Party) (n : ℕ) (comings : List Coming) (body : List ℕ) → IsIn (up_in n body) (ups_of p comings) → is_whole (pieces_of p n comings) ≡ true
unfolding ups_of pieces_of
whole-after p n [] body among = absurd among
whole-after p n (coming ∷ earlier) body among =
    by_either (among-either (up_in n body) (ups_with p (engine_after p earlier) coming) (ups_of p earlier) among) (λ there. whole-after p n earlier body there) where
      by_either : IsIn (up_in n body) (ups_with p (engine_after p earlier) coming) ⊎ IsIn (up_in n body) (ups_of p earlier)
          → (IsIn (up_in n body) (ups_of p earlier) → is_whole (pieces_of p n earlier) ≡ true)
          → is_whole (with_coming p (engine_after p earlier) n coming (pieces_of p n earlier)) ≡ true
      by_either (inl here) further =
          let law = coming-law p (engine_after p earlier) n coming (pieces_of p n earlier) (known-after p n earlier) in
          red_part-whole _ body (law.hands body here).1
      by_either (inr there) further = with_coming-whole p (engine_after p earlier) n coming (pieces_of p n earlier) (further there)

list_of-single : {X : Type 0} (o : Option X) → (list_of o ≡ []) ⊎ ((x : X) × (list_of o ≡ x ∷ []))
list_of-single None = inl refl
list_of-single (Some x) = inr (x, refl)

ups-single : (p : Party) (e : Engine) (coming : Coming) → (ups_with p e coming ≡ []) ⊎ ((up : UpValue) × (ups_with p e coming ≡ up ∷ []))
unfolding datagram_step
ups-single p e (a_block_comes block red now) = inl refl
ups-single p e (a_datagram_comes (Err refusal) now) = inl refl
ups-single p e (a_datagram_comes (Ok s) now) = by_reply (arrives p e s now) where
  by_reply : (reply : Option Reply)
      → ((replied_or_stranger e (record { originator = s.originator; number = s.session }) reply).effects.ups ≡ [])
      ⊎ ((up : UpValue) × ((replied_or_stranger e (record { originator = s.originator; number = s.session }) reply).effects.ups ≡ up ∷ []))
  by_reply None = inl refl
  by_reply (Some reply) = list_of-single (option_map (λ body. up_in s.session body) reply.up)
ups-single p e (a_moment_comes now) = inl refl

all-from : {X : Type 0} (P : X → Type 0) (xs : List X) → ((x : X) → IsIn x xs → P x) → AllByRecursion P xs
all-from P [] each = tt
all-from P (x ∷ xs) each = (each x (inl refl), all-from P xs (λ y among. each y (inr among)))

pub each_once : HandsUpEachOnce
unfolding ups_of
each_once p [] = tt
each_once p (coming ∷ earlier) = by_single (ups-single p (engine_after p earlier) coming) (each_once p earlier) where
  by_single : (ups_with p (engine_after p earlier) coming ≡ []) ⊎ ((up : UpValue) × (ups_with p (engine_after p earlier) coming ≡ up ∷ []))
      → EachOnce (ups_of p earlier) → EachOnce (ups_with p (engine_after p earlier) coming ++ ups_of p earlier)
  by_single (inl none) once = subst (λ ups. EachOnce (ups ++ ups_of p earlier)) (sym none) once
  by_single (inr (up, is)) once = subst (λ ups. EachOnce (ups ++ ups_of p earlier)) (sym is) (all-from _ (ups_of p earlier) apart, once) where
    apart : (other : UpValue) → IsIn other (ups_of p earlier) → other.session ≡ up.session → ⊥
    apart other among same =
        let law = coming-law p (engine_after p earlier) up.session coming (pieces_of p up.session earlier) (known-after p up.session earlier) in
        let open_yet = (law.hands up.body (subst (λ ups. IsIn up ups) (sym is) (inl refl))).0 in
        let whole = whole-after p up.session earlier other.body (subst (λ n. IsIn (up_in n other.body) (ups_of p earlier)) same among) in
        cc
