-- The sessions that are being sent at a face, when its sessions hear something: none begins, and where one is open no
-- longer, a note says so.

use Rattle.std.proofs.Common.{◌≡◌, ℕ, ◌==◌, Bool, true, false, List, [], ◌∷◌, ◌++◌, Option, None, Some, Result, Ok, Err, refl, sym, ◌∙◌, ap, subst, arith, if◌then◌else◌}
use Rattle.std.specs.List.{list_any}
use Rattle.std.specs.Option.{option_map}
use Rattle.std.proofs.lemmas.Bool.{eqb-true}
use Rattle.ltp_segment.specs.declared.fault.SegmentCause.{SegmentCause}
use Rattle.ltp_segment.specs.declared.session.Note.{Note}
use Rattle.ltp_segment.specs.Values.{SegmentValue}
use Rattle.ltp_session.specs.Step.{Change, NoteValue, stays, keeps, ends, after, StepValue, note_bad_bounds, note_cancelled, note_closed, note_failed, note_history_full, note_refused, note_sent}
use Rattle.ltp_session.specs.Receiver.{Receiving}
use Rattle.ltp_session.specs.Sender.{Sending, sender_answers}
use Rattle.ltp_session.specs.Table.{find, settled, then_kept, ticked, AreAscending}
use Rattle.ltp_session.specs.Views.{note_of}
use Rattle.ltp_session.specs.Engine.{Engine, EngineStep, Party, Reply, is_used, list_of, notes_of, receiver_ticks, replied_or_stranger, sender_changes, sender_replies, sender_ticks, tick_remarks, tick_step, to_sender, with_receiver, without_evicted}
use Rattle.ltp_sender.specs.Sender.{is_kept_open}
use Rattle.ltp_laws.proofs.FrameLemmas.{next-with_receiver, senders-with_receiver}
use Rattle.ltp_laws.proofs.TableLemmas.{after_tick, ascending-settled, ascending-ticked, find-settled, find-settled_other, find-ticked, self_eqb}
use Rattle.ltp_engine.specs.Sessions.{is_open}
use Rattle.session_memory.specs.Memory.{passed}
use Rattle.peer_sessions.specs.Keys.{FaceKeys}
use Rattle.peer_sessions.specs.Sessions.{Sessions, answer_to, answered, answers, closes, evictions, hears, left_by, makes_room, is_opened, passes, peer_replies, replies, stale, ticks, to_trim}
use Rattle.peer_once.proofs.KeptLemmas.{apart-of}
use Rattle.peer_events.specs.Laws.{is_end}
use Rattle.peer_session_laws.proofs.AnyLemmas.{any-first, any-later}
use Rattle.peer_session_laws.proofs.SenderLemmas.{Ends, IsEndNote, Shuts, ends-answer, ends-due, not-both, shuts-answer, shuts-due}

-- ---- an engine

-- one of these notes says that session n was sent, failed, or was cancelled
abbrev pub tells_end : ℕ → List Note → Bool
tells_end n told = list_any (is_end n) told

-- a step with which no session begins
pub record Rests (n : ℕ) (e f : Engine) (told : List Note) : Type 0 where
  pub ascends : AreAscending 0 e.senders → AreAscending 0 f.senders
  pub next : f.next ≡ e.next
  pub opens : AreAscending 0 e.senders → is_open n f.senders ≡ true → is_open n e.senders ≡ true
  pub tells : is_open n e.senders ≡ true → is_open n f.senders ≡ false → tells_end n told ≡ true

pub rests-same : (n : ℕ) (e f : Engine) (told : List Note) → f.senders ≡ e.senders → f.next ≡ e.next → Rests n e f told
rests-same n e f told same next = record {
  ascends = λ up. subst (AreAscending 0) (sym same) up;
  next = next;
  opens = λ up so. subst (λ t. is_open n t ≡ true) same so;
  tells = λ was shut. not-both (is_open n e.senders) was (ap (is_open n) (sym same) ∙ shut);
}

rests-more : (n : ℕ) (e f : Engine) (told more : List Note) → Rests n e f told → Rests n e f (told ++ more)
rests-more n e f told more rests = record {
  ascends = rests.ascends;
  next = rests.next;
  opens = rests.opens;
  tells = λ was shut. any-first (is_end n) told more (rests.tells was shut);
}

noted-end : (n : ℕ) (note : Option NoteValue) → IsEndNote note → tells_end n (list_of (option_map (note_of n) note)) ≡ true
noted-end n None is = absurd is
noted-end n (Some note_sent) is = rw (self_eqb n) refl
noted-end n (Some (note_failed reason)) is = rw (self_eqb n) refl
noted-end n (Some (note_refused service)) is = absurd is
noted-end n (Some (note_cancelled reason)) is = rw (self_eqb n) refl
noted-end n (Some note_bad_bounds) is = absurd is
noted-end n (Some note_closed) is = absurd is
noted-end n (Some note_history_full) is = absurd is

rests-settled : (n m : ℕ) (e : Engine) (step : StepValue Sending) → Shuts (find m e.senders) step.next → Ends (find m e.senders) step
    → Rests n e (record e { senders = settled m step.next e.senders }) (notes_of m step)
rests-settled n m e step shuts ended = record {
  ascends = λ up. ascending-settled m 0 step.next e.senders (omega arith) up;
  next = refl;
  opens = λ up so. opens (m == n) refl so;
  tells = λ was shut. tells (m == n) refl was shut;
} where
  there : (m == n) ≡ true → is_open n (settled m step.next e.senders) ≡ is_kept_open (after step.next (find m e.senders))
  there is = ap (λ k. is_open k (settled m step.next e.senders)) (sym (eqb-true m n is)) ∙ ap is_kept_open (find-settled m step.next e.senders)

  here : (m == n) ≡ true → is_open n e.senders ≡ is_kept_open (find m e.senders)
  here is = ap (λ k. is_open k e.senders) (sym (eqb-true m n is))

  apart : (m == n) ≡ false → is_open n (settled m step.next e.senders) ≡ is_open n e.senders
  apart is = ap is_kept_open (find-settled_other n m step.next e.senders (apart-of m n is))

  opens : (same : Bool) → (m == n) ≡ same → is_open n (settled m step.next e.senders) ≡ true → is_open n e.senders ≡ true
  opens true is so = here is ∙ shuts (sym (there is) ∙ so)
  opens false is so = sym (apart is) ∙ so

  tells : (same : Bool) → (m == n) ≡ same → is_open n e.senders ≡ true → is_open n (settled m step.next e.senders) ≡ false → tells_end n (notes_of m step) ≡ true
  tells true is was shut = subst (λ k. tells_end k (notes_of m step) ≡ true) (eqb-true m n is)
      (noted-end m step.note (ended (sym (here is) ∙ was) (sym (there is) ∙ shut)))
  tells false is was shut = not-both (is_open n e.senders) was (sym (apart is) ∙ shut)

-- ---- a datagram

evicted : (e : Engine) (gone : Option ℕ) → ((without_evicted e gone).senders ≡ e.senders) × ((without_evicted e gone).next ≡ e.next)
evicted e None = (refl, refl)
evicted e (Some n) = (senders-with_receiver e n ends, next-with_receiver e n ends)

rests-answers : (k : FaceKeys) (s : Sessions) (segment : SegmentValue) (now n : ℕ)
    → Rests n s.engine (answers k s (Ok segment) now).engine (answers k s (Ok segment) now).effects.notes
unfolding replies
rests-answers k s segment now n = by (segment.originator == k.party.own) (segment.originator == k.party.peer) where
  e : Engine
  e = s.engine

  step : Option Reply → EngineStep
  step reply = replied_or_stranger e (record { originator = segment.originator; number = segment.session }) reply

  RestsWith : Option Reply → Type 0
  RestsWith reply = Rests n e (step reply).engine (step reply).effects.notes

  stranger : RestsWith None
  stranger = rests-same n e e _ refl refl

  own : (used : Bool) (answer : Option (StepValue Sending)) → sender_answers k.party.policy (find segment.session e.senders) segment.content now ≡ answer
      → RestsWith (if used then sender_replies e segment.session answer else None)
  own false answer is = stranger
  own true None is = stranger
  own true (Some told) is = rests-settled n segment.session e told
      (shuts-answer k.party.policy (find segment.session e.senders) segment.content now told is)
      (ends-answer k.party.policy (find segment.session e.senders) segment.content now told is)

  peer : (answer : Option (StepValue Receiving)) → RestsWith (peer_replies k e segment.session answer)
  peer None = stranger
  peer (Some told) =
      let gone : Option ℕ = makes_room k e (is_opened (find segment.session e.receivers) told.next) in
      let room = without_evicted e gone in
      rests-same n e (with_receiver room segment.session told.next) _
      (senders-with_receiver room segment.session told.next ∙ (evicted e gone).0) (next-with_receiver room segment.session told.next ∙ (evicted e gone).1)

  by : (is_own is_peer : Bool) → RestsWith (if is_own then (if is_used k.party e segment.session then to_sender k.party e segment now else None)
      else if is_peer then peer_replies k e segment.session (answer_to k s segment now) else None)
  by true is_peer = own (is_used k.party e segment.session) _ refl
  by false true = peer (answer_to k s segment now)
  by false false = stranger

-- closing sessions of the peer is nothing to those that are sent
pub sent-closes : (numbers : List ℕ) (s : Sessions) → ((closes numbers s).engine.senders ≡ s.engine.senders) × ((closes numbers s).engine.next ≡ s.engine.next)
unfolding closes
sent-closes [] s = (refl, refl)
sent-closes (n ∷ numbers) s =
    let rest = sent-closes numbers (left_by (with_receiver s.engine n ends) s.memory s.moments) in
    (rest.0 ∙ senders-with_receiver s.engine n ends, rest.1 ∙ next-with_receiver s.engine n ends)

rests-in : (n : ℕ) (e f g h : Engine) (told : List Note) → f.senders ≡ e.senders → f.next ≡ e.next → Rests n f g told → h.senders ≡ g.senders → h.next ≡ g.next → Rests n e h told
rests-in n e f g h told first next rests last after_it = record {
  ascends = λ up. subst (AreAscending 0) (sym last) (rests.ascends (subst (AreAscending 0) (sym first) up));
  next = after_it ∙ (rests.next ∙ next);
  opens = λ up so. subst (λ t. is_open n t ≡ true) first (rests.opens (subst (AreAscending 0) (sym first) up) (subst (λ t. is_open n t ≡ true) last so));
  tells = λ was shut. rests.tells (ap (is_open n) first ∙ was) (ap (is_open n) (sym last) ∙ shut);
}

pub rests-hears : (k : FaceKeys) (s : Sessions) (read : Result SegmentValue (ℕ × SegmentCause)) (now n : ℕ)
    → Rests n s.engine (hears k s read now).sessions.engine (hears k s read now).effects.notes
unfolding hears
rests-hears k s read now n =
    let past = sent-closes (stale k now s) (record s { memory = passed now s.memory }) in
    let trimmed = sent-closes (to_trim k (answered k (passes k now s) read now)) (answered k (passes k now s) read now) in
    rests-more n s.engine (hears k s read now).sessions.engine (answers k (passes k now s) read now).effects.notes
    (evictions (to_trim k (answered k (passes k now s) read now)))
    (rests-in n s.engine (passes k now s).engine (answers k (passes k now s) read now).engine _ (answers k (passes k now s) read now).effects.notes
    past.0 past.1 (heard read) (trimmed.0 ∙ (left read).0) (trimmed.1 ∙ (left read).1))
  where
    heard : (read : Result SegmentValue (ℕ × SegmentCause))
        → Rests n (passes k now s).engine (answers k (passes k now s) read now).engine (answers k (passes k now s) read now).effects.notes
    heard (Err refusal) = rests-same n (passes k now s).engine (passes k now s).engine _ refl refl
    heard (Ok segment) = rests-answers k (passes k now s) segment now n

    left : (read : Result SegmentValue (ℕ × SegmentCause)) → ((answered k (passes k now s) read now).engine.senders ≡ (answers k (passes k now s) read now).engine.senders)
        × ((answered k (passes k now s) read now).engine.next ≡ (answers k (passes k now s) read now).engine.next)
    left (Err refusal) = (refl, refl)
    left (Ok segment) = (refl, refl)

-- ---- a tick

shuts-ticked : (p : Party) (now : ℕ) (kept : Option Sending) → is_kept_open (after_tick (sender_changes p now) kept) ≡ true → is_kept_open kept ≡ true
shuts-ticked p now None = λ so. so
shuts-ticked p now (Some s) = shuts-due p.policy s now

abbrev EndsTable : ℕ → (Sending → StepValue Sending) → List (ℕ × Sending) → Type 0
EndsTable n tick entries =
    is_kept_open (find n entries) ≡ true → is_kept_open (find n (ticked (λ s. (tick s).next) entries)) ≡ false → tells_end n (tick_remarks tick entries) ≡ true

ends-table : (n : ℕ) (tick : Sending → StepValue Sending) → ((s : Sending) → Ends (Some s) (tick s)) → (entries : List (ℕ × Sending)) → EndsTable n tick entries
unfolding find ticked tick_remarks
ends-table n tick each [] = λ was shut. absurd (cc was)
ends-table n tick each (entry ∷ entries) = by_number (ends-table n tick each entries) (entry.0 == n) refl where
  here-change : (change : Change Sending) → (entry.0 == n) ≡ true
      → is_kept_open (find n (then_kept entry change (ticked (λ s. (tick s).next) entries))) ≡ false → is_kept_open (after change (Some entry.1)) ≡ false
  here-change stays same shut = rw same at shut
  here-change (keeps state) same shut = rw same at shut
  here-change ends same shut = refl

  other-change : (change : Change Sending) → (entry.0 == n) ≡ false → is_kept_open (find n (then_kept entry change (ticked (λ s. (tick s).next) entries))) ≡ false
      → is_kept_open (find n (ticked (λ s. (tick s).next) entries)) ≡ false
  other-change stays other shut = rw other at shut
  other-change (keeps state) other shut = rw other at shut
  other-change ends other shut = shut

  by_number : EndsTable n tick entries → (here : Bool) → (entry.0 == n) ≡ here → EndsTable n tick (entry ∷ entries)
  by_number rest true is = λ was shut.
      let open_here : is_kept_open (Some entry.1) ≡ true = rw is at was in
      let ended = each entry.1 open_here (here-change (tick entry.1).next is shut) in
      subst (λ k. tells_end k (notes_of entry.0 (tick entry.1) ++ tick_remarks tick entries) ≡ true) (eqb-true entry.0 n is)
      (any-first (is_end entry.0) (notes_of entry.0 (tick entry.1)) (tick_remarks tick entries) (noted-end entry.0 (tick entry.1).note ended))
  by_number rest false is = λ was shut.
      any-later (is_end n) (notes_of entry.0 (tick entry.1)) (tick_remarks tick entries) (rest (rw is at was) (other-change (tick entry.1).next is shut))

pub rests-ticks : (k : FaceKeys) (s : Sessions) (now n : ℕ) → Rests n s.engine (ticks k s now).sessions.engine (ticks k s now).effects.notes
unfolding ticks tick_step
rests-ticks k s now n =
    let past = sent-closes (stale k now s) (record s { memory = passed now s.memory }) in
    let e = (passes k now s).engine in
    rests-in n s.engine e (tick_step k.party e now).engine (ticks k s now).sessions.engine (ticks k s now).effects.notes past.0 past.1 (record {
      ascends = λ up. ascending-ticked (sender_changes k.party now) 0 e.senders up;
      next = refl;
      opens = λ up so. shuts-ticked k.party now (find n e.senders) (subst (λ kept. is_kept_open kept ≡ true) (find-ticked (sender_changes k.party now) n 0 e.senders up) so);
      tells = λ was shut. any-first (is_end n) (tick_remarks (sender_ticks k.party now) e.senders) (tick_remarks (receiver_ticks k.party now) e.receivers)
          (ends-table n (sender_ticks k.party now) (λ t. ends-due k.party.policy t now) e.senders was shut);
    }) refl refl
