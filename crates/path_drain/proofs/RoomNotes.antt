-- No note of an engine in a drain says that room was made, or that there was none.

use Rattle.std.proofs.Common.{◌≡◌, ℕ, Bool, true, false, List, [], ◌∷◌, Option, None, Some}
use Rattle.std.proofs.Common.{Result, Ok, refl, sym, subst, ◌==◌, if◌then◌else◌}
use Rattle.std.specs.List.{AllByRecursion}
use Rattle.std.specs.Option.{option_map}
use Rattle.ltp_segment.specs.declared.session.Note.{Note}
use Rattle.ltp_segment.specs.declared.session.Note.TheVariants as notes
use Rattle.ltp_segment.specs.Policy.{PolicyValue}
use Rattle.ltp_segment.specs.Values.{SegmentValue}
use Rattle.ltp_session.specs.Engine.{Engine, EngineStep, Party, Reply, SubmitFault, arrives}
use Rattle.ltp_session.specs.Engine.{datagram_step, list_of, notes_of, submit_fault, submit_step}
use Rattle.ltp_session.specs.Engine.{submits, submits_unless, receiver_ticks, replied_or_stranger}
use Rattle.ltp_session.specs.Engine.{sender_ticks, tick_remarks, tick_step}
use Rattle.ltp_session.specs.Receiver.{Receiving, receiver_tick}
use Rattle.ltp_session.specs.Sender.{Sending, SendingPhase, begin, sender_cancelling, sender_due}
use Rattle.ltp_session.specs.Sender.{sender_open, sender_tick, sending_timer}
use Rattle.ltp_session.specs.Step.{NoteValue, StepValue, note_bad_bounds, note_cancelled}
use Rattle.ltp_session.specs.Step.{note_closed, note_failed, note_history_full, note_refused}
use Rattle.ltp_session.specs.Step.{note_sent}
use Rattle.ltp_session.specs.Timer.{is_due, may_repeat}
use Rattle.ltp_session.specs.Views.{note_of}
use Rattle.ltp_laws.proofs.ListLemmas.{all-append, both_arms}
use Rattle.ltp_laws.proofs.WalkLemmas.{walk-tick}
use Rattle.path_drain.proofs.Arrivals.{Arrived, by_receiver, by_sender, unheard}
use Rattle.path_drain.proofs.FullLemmas.{NotFull}

-- a note of something else
abbrev pub NotForRoom : Note → Type 0
NotForRoom (notes.Sent n) = Unit {0}
NotForRoom (notes.Failed n reason) = Unit {0}
NotForRoom (notes.Refused n service) = Unit {0}
NotForRoom (notes.Cancelled n reason) = Unit {0}
NotForRoom (notes.Evicted n) = ⊥
NotForRoom notes.Stranger = Unit {0}
NotForRoom (notes.BadSegment at cause) = Unit {0}
NotForRoom (notes.BadBounds n) = Unit {0}
NotForRoom (notes.Closed n) = Unit {0}
NotForRoom (notes.HistoryFull n) = ⊥

abbrev pub NoneOfRoom : List Note → Type 0
NoneOfRoom noted = AllByRecursion NotForRoom noted

-- ---- a step

pub step-notes : {S : Type 0} (n : ℕ) (t : StepValue S) → NotFull t → NoneOfRoom (notes_of n t)
step-notes n t room = by t.note refl
  where
    by : (o : Option NoteValue) → t.note ≡ o → NoneOfRoom (list_of (option_map (note_of n) o))
    by None is = tt
    by (Some note_sent) is = (tt, tt)
    by (Some (note_failed reason)) is = (tt, tt)
    by (Some (note_refused service)) is = (tt, tt)
    by (Some (note_cancelled reason)) is = (tt, tt)
    by (Some note_bad_bounds) is = (tt, tt)
    by (Some note_closed) is = (tt, tt)
    by (Some note_history_full) is = absurd (room is)

pub arrival-notes : (p : Party) (e f : Engine) (segment : SegmentValue) (now : ℕ)
    → Arrived e f segment.session (arrives p e segment now)
    → NoneOfRoom (datagram_step p e (Ok segment) now).effects.notes
unfolding datagram_step
arrival-notes p e f segment now arrived = by (arrives p e segment now) arrived
  where
    To : Option Reply → Type 0
    To x = NoneOfRoom (replied_or_stranger e
        (record { originator = segment.originator; number = segment.session }) x).effects.notes

    by : (x : Option Reply) → Arrived e f segment.session x → NoneOfRoom (replied_or_stranger e
        (record { originator = segment.originator; number = segment.session }) x).effects.notes
    by x (unheard is) = subst (λ x. NoneOfRoom (replied_or_stranger e
        (record { originator = segment.originator; number = segment.session }) x).effects.notes)
        (sym is) (tt, tt)
    by x (by_sender t is of room) = subst (λ x. NoneOfRoom (replied_or_stranger e
        (record { originator = segment.originator; number = segment.session }) x).effects.notes)
        (sym is) (step-notes segment.session t room)
    by x (by_receiver t is of stays_up ups room) = subst (λ x. NoneOfRoom (replied_or_stranger e
        (record { originator = segment.originator; number = segment.session }) x).effects.notes)
        (sym is) (step-notes segment.session t room)

-- ---- a submit

begin-not_full : (policy : PolicyValue) (n : ℕ) (block : List ℕ) (red now : ℕ)
    → NotFull (begin policy n block red now)
unfolding begin
begin-not_full policy n block red now = by (red == 0)
  where
    by : (b : Bool) → (if b then Some note_sent else None) ≡ Some note_history_full → ⊥
    by true = λ is. absurd (cc)
    by false = λ is. absurd (cc)

abbrev ok_step : EngineStep → Result EngineStep SubmitFault
ok_step step = Ok step

ok-same : (x y : EngineStep) → ok_step x ≡ ok_step y → x ≡ y
ok-same x y is = cc

pub submission-notes : (p : Party) (e : Engine) (block : List ℕ) (red now : ℕ) (step : EngineStep)
    → submit_step p e (submits p e block red now) ≡ Ok step → NoneOfRoom step.effects.notes
unfolding submits
submission-notes p e block red now step is = by (submit_fault p e block) is
  where
    by : (o : Option SubmitFault) → submit_step p e (submits_unless o p e block red now) ≡ Ok step
        → NoneOfRoom step.effects.notes
    by None is = subst (λ (x : EngineStep). NoneOfRoom x.effects.notes) (ok-same _ step is)
        (step-notes e.next (begin p.policy e.next block red now)
        (begin-not_full p.policy e.next block red now))
    by (Some fault) is = absurd (cc)

-- ---- ticks

sender-tick_room : (policy : PolicyValue) (now : ℕ) (s : Sending)
    → NotFull (sender_tick policy s now)
unfolding sender_tick
sender-tick_room policy now s =
    both_arms NotFull (is_due (sending_timer s.phase) now) _ _ (by_phase s.phase)
    (λ h. absurd (cc))
  where
    by_phase : (phase : SendingPhase) → NotFull (sender_due policy s phase now)
    by_phase (sender_open c timer) =
        both_arms NotFull (may_repeat policy timer) _ _ (λ h. absurd (cc)) (λ h. absurd (cc))
    by_phase (sender_cancelling reason timer) =
        both_arms NotFull (may_repeat policy timer) _ _ (λ h. absurd (cc)) (λ h. absurd (cc))

receiver-tick_room : (policy : PolicyValue) (now : ℕ) (r : Receiving)
    → NotFull (receiver_tick policy r now)
receiver-tick_room policy now r = walk-tick policy r now NotFull (record {
  early = λ h. absurd (cc);
  resent = λ p phase h. absurd (cc);
  timed_out_handed = λ p phase handed h. absurd (cc);
  timed_out = λ p phase waiting h. absurd (cc);
  recancelled = λ reason timer phase h. absurd (cc);
  let_go = λ reason timer phase h. absurd (cc);
})

remarks-room : {S : Type 0} (tick : S → StepValue S) → ((s : S) → NotFull (tick s))
    → (es : List (ℕ × S)) → NoneOfRoom (tick_remarks tick es)
unfolding tick_remarks
remarks-room tick room [] = tt
remarks-room tick room (e ∷ es) =
    all-append NotForRoom (notes_of e.0 (tick e.1)) (tick_remarks tick es)
    (step-notes e.0 (tick e.1) (room e.1)) (remarks-room tick room es)

pub tick-notes_room : (p : Party) (e : Engine) (now : ℕ)
    → NoneOfRoom (tick_step p e now).effects.notes
unfolding tick_step
tick-notes_room p e now =
    all-append NotForRoom (tick_remarks (sender_ticks p now) e.senders)
    (tick_remarks (receiver_ticks p now) e.receivers)
    (remarks-room (sender_ticks p now) (sender-tick_room p.policy now) e.senders)
    (remarks-room (receiver_ticks p now) (receiver-tick_room p.policy now) e.receivers)
