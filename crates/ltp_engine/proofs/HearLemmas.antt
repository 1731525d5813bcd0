-- A segment that comes, and what it does to an engine.

use Rattle.std.proofs.Common.{◌≡◌, ℕ, ◌+◌, ◌<◌, ◌≤◌, Bool, true, false, not, ◌==◌, ◌&&◌, nat_lt, nat_le, List, [], ◌∷◌, length, Option, None, Some, is_some, map, refl, sym, ◌∙◌, ap, arith, subst, if◌then◌else◌}
use Rattle.std.specs.List.{AllByRecursion}
use Rattle.std.specs.Option.{option_map}
use Rattle.ltp_segment.specs.Policy.{PolicyValue}
use Rattle.ltp_segment.specs.Values.{PieceValue, ReportValue, ContentValue, a_piece, a_report, a_report_ack, a_sender_cancel, a_sender_cancel_ack, a_receiver_cancel, a_receiver_cancel_ack, SegmentValue}
use Rattle.ltp_segment.specs.Kinds.{is_red}
use Rattle.ltp_segment.specs.declared.session.Step.{Step}
use Rattle.ltp_segment.specs.declared.session.Note.{Note}
use Rattle.ltp_segment.specs.declared.session.Note.TheVariants as notes
use Rattle.ltp_segment.specs.declared.session.TheConstants.{BLOCK_MAX}
use Rattle.ltp_session.specs.Step.{Change, stays, keeps, ends, StepValue, sending, noting, note_closed, note_bad_bounds, note_sent, note_history_full, note_refused, unreachable, by_system}
use Rattle.ltp_session.specs.Cells.{is_no_part}
use Rattle.ltp_session.specs.Timer.{is_past_serials}
use Rattle.ltp_session.specs.Sender.{Sending, SendingPhase, sender_open, sender_cancelling, sender_answers, report_step, takes_report, next_round, gives_up, sends_again, with_report, is_all_claimed, red_segments, unclaimed, checkpoint_at, last_segment, ends_cancelling, on_sender_cancel_ack}
use Rattle.ltp_session.specs.Receiver.{Receiving, Admission, receiver_answers, on_piece, piece_for, first_piece, piece_step, fresh, hands_up_green}
use Rattle.ltp_session.specs.Table.{find, put, settled, AreAscending}
use Rattle.ltp_session.specs.Engine.{Party, Engine, EngineStep, UpValue, is_used, sender_replies, receiver_replies, arrives, datagram_step, replied_or_stranger, noted, evicted_by, without_evicted, with_receiver, list_of}
use Rattle.ltp_session.specs.Engine.{to_sender}
use Rattle.ltp_session.specs.Views.{SessionValue}
use Rattle.std.proofs.Common.{Result, Ok, Err}
use Rattle.ltp_segment.specs.declared.fault.SegmentCause.{SegmentCause}
use Rattle.std.proofs.lemmas.Bool.{ne_eqb, eq-eqb}
use Rattle.std.proofs.lemmas.Bool.Decides.{nat_tests}
use Rattle.ltp_laws.specs.Kept.{IfKept, IfKeeps}
use Rattle.ltp_laws.proofs.TableLemmas.{self_eqb, ascending-settled}
use Rattle.ltp_laws.proofs.FrameLemmas.{senders-with_receiver, next-with_receiver}
use Rattle.ltp_engine.specs.declared.closed.TheConstants.{LAST}
use Rattle.ltp_engine.specs.declared.effects.Effects.{Effects}
use Rattle.ltp_engine.specs.declared.effects.Up.{Up}
use Rattle.ltp_engine.specs.declared.inbound.Inbound.{Inbound}
use Rattle.ltp_engine.specs.Values.{InboundValue, EngineValue}
use Rattle.ltp_engine.specs.Bounds.{IsInboundSound, SendsAtMost, ReceivesAtMost}
use Rattle.ltp_engine.specs.Tables.{table_of}
use Rattle.ltp_engine.specs.Inbound.{inbound_of, settled_in, with_room, admission_in}
use Rattle.ltp_engine.specs.Sides.{SenderDoes, ReceiverDoes}
use Rattle.ltp_engine.specs.Effects.{effects_of, up_of, only_noted}
use Rattle.ltp_engine.specs.Shows.{Shows, ShowsInbound}
use Rattle.ltp_engine.specs.Steps.{Steps}
use Rattle.ltp_engine.specs.Ties.{made_of, AreWhole, own_step, peer_step, sent_of, handed_of}
use Rattle.ltp_engine.proofs.TableLemmas.{table_of-live_all, live-table}
use Rattle.ltp_engine.proofs.InboundLemmas.{opens}
use Rattle.ltp_engine.proofs.BlockLemmas.{all-settled, all-find, sender-within, receiver-within}
use Rattle.ltp_engine.proofs.KeepLemmas.{MayOpen, sound-step, length-put_found, length-without}
use Rattle.ltp_engine.proofs.ShowLemmas.{StepsIn, shows-step, same-place}
use Rattle.ltp_engine.proofs.ChangeLemmas.{in-order}

either : {X : Type 0} (P : X → Type 0) (b : Bool) (x y : X) → P x → P y → P (if b then x else y)
either P true x y at_x at_y = at_x
either P false x y at_x at_y = at_y

-- ---- a step of a sending session hands nothing up, and begins none

abbrev pub HandsNothing : StepValue Sending → Type 0
HandsNothing step = (step.up ≡ None) × (step.green ≡ None)

report-hands : (p : PolicyValue) (s : Sending) (report : ReportValue) (now : ℕ) → HandsNothing (report_step p s report now)
unfolding report_step
report-hands p s report now = either HandsNothing (nat_lt s.red report.upper) (noting stays [] note_bad_bounds) (takes_report p s s.phase report now (a_report_ack report.serial ∷ [])) (refl, refl) (by_phase s.phase) where
  acks : List ContentValue
  acks = a_report_ack report.serial ∷ []

  t : Sending
  t = with_report s report

  by_last : (checkpoint : ℕ × List ℕ → PieceValue) (segments : List (ℕ × List ℕ)) (o : Option (ℕ × List ℕ)) → HandsNothing (sends_again p t now segments checkpoint o acks)
  by_last checkpoint segments None = (refl, refl)
  by_last checkpoint segments (Some segment) = (refl, refl)

  by_round : (c : PieceValue) → HandsNothing (next_round p t c.checkpoint report.serial now acks)
  by_round c = either HandsNothing (is_past_serials (c.checkpoint + 1)) (gives_up p t by_system now acks)
      (sends_again p t now (unclaimed t.claimed (red_segments p t.block t.red)) (checkpoint_at (length t.block) t.red (c.checkpoint + 1) report.serial) (last_segment (unclaimed t.claimed (red_segments p t.block t.red))) acks)
      (refl, refl) (by_last _ _ (last_segment (unclaimed t.claimed (red_segments p t.block t.red))))

  by_phase : (phase : SendingPhase) → HandsNothing (takes_report p s phase report now acks)
  by_phase (sender_open c timer) = either HandsNothing (is_all_claimed t.claimed) (noting ends acks note_sent)
      (if report.checkpoint == c.checkpoint then next_round p t c.checkpoint report.serial now acks else sending (keeps t) acks) (refl, refl)
      (either HandsNothing (report.checkpoint == c.checkpoint) (next_round p t c.checkpoint report.serial now acks) (sending (keeps t) acks) (by_round c) (refl, refl))
  by_phase (sender_cancelling reason timer) = (refl, refl)

ack-hands : (kept : Option Sending) → HandsNothing (on_sender_cancel_ack kept)
ack-hands None = (refl, refl)
ack-hands (Some s) = by_phase s.phase where
  by_phase : (phase : SendingPhase) → HandsNothing (ends_cancelling phase)
  by_phase (sender_open c timer) = (refl, refl)
  by_phase (sender_cancelling reason timer) = (refl, refl)

some-is : {X : Type 0} (P : X → Type 0) (x y : X) → Some x ≡ Some y → P x → P y
some-is P x y is at = let same : x ≡ y = cc in subst P same at

pub sender-hands : (p : PolicyValue) (kept : Option Sending) (content : ContentValue) (now : ℕ) (step : StepValue Sending)
    → sender_answers p kept content now ≡ Some step → HandsNothing step
unfolding sender_answers
sender-hands p kept (a_piece piece) now step is = absurd (cc)
sender-hands p None (a_report report) now step is = some-is HandsNothing _ step is (refl, refl)
sender-hands p (Some s) (a_report report) now step is = some-is HandsNothing _ step is (report-hands p s report now)
sender-hands p kept (a_report_ack serial) now step is = absurd (cc)
sender-hands p kept (a_sender_cancel reason) now step is = absurd (cc)
sender-hands p kept a_sender_cancel_ack now step is = some-is HandsNothing _ step is (ack-hands kept)
sender-hands p None (a_receiver_cancel reason) now step is = some-is HandsNothing _ step is (refl, refl)
sender-hands p (Some s) (a_receiver_cancel reason) now step is = some-is HandsNothing _ step is (refl, refl)
sender-hands p kept a_receiver_cancel_ack now step is = absurd (cc)

pub sender-stays : (p : PolicyValue) (content : ContentValue) (now : ℕ) (step : StepValue Sending)
    → sender_answers p None content now ≡ Some step → step.next ≡ stays
unfolding sender_answers
sender-stays p (a_piece piece) now step is = absurd (cc)
sender-stays p (a_report report) now step is = some-is (λ s. s.next ≡ stays) _ step is refl
sender-stays p (a_report_ack serial) now step is = absurd (cc)
sender-stays p (a_sender_cancel reason) now step is = absurd (cc)
sender-stays p a_sender_cancel_ack now step is = some-is (λ s. s.next ≡ stays) _ step is refl
sender-stays p (a_receiver_cancel reason) now step is = some-is (λ s. s.next ≡ stays) _ step is refl
sender-stays p a_receiver_cancel_ack now step is = absurd (cc)

-- ---- a segment of a session that the engine began

length-settled : {S : Type 0} (n : ℕ) (change : Change S) (t : List (ℕ × S)) → AreAscending 0 t → (find n t ≡ None → change ≡ stays) → length (settled n change t) ≤ length t
length-settled n stays t up unmoved = omega arith
length-settled {S = S} n (keeps s) t up unmoved = by_kept (find n t) refl where
  by_kept : (kept : Option S) → find n t ≡ kept → length (put n s t) ≤ length t
  by_kept None absent = let h : keeps s ≡ stays = unmoved absent in absurd (cc)
  by_kept (Some r) found = length-put_found n 0 s t (ap (λ x. is_some x) found) up
length-settled n ends t up unmoved = length-without n t

pub own-whole : (p : Party) (next n now : ℕ) (content : ContentValue) (senders senders' : List (ℕ × SessionValue Sending)) (inbound : Inbound) (told : Option Step)
    → AreWhole p next senders inbound
    → SenderDoes p.own p.policy n (sender_answers p.policy (find n (table_of senders)) content now) senders senders' told
    → AreWhole p next senders' inbound
own-whole p next n now content senders senders' inbound told whole does = by_answer (sender_answers p.policy (find n (table_of senders)) content now) refl told does where
  by_answer : (answer : Option (StepValue Sending)) → sender_answers p.policy (find n (table_of senders)) content now ≡ answer → (told : Option Step)
      → SenderDoes p.own p.policy n answer senders senders' told → AreWhole p next senders' inbound
  by_answer None is None does = subst (λ es. AreWhole p next es inbound) (sym does) whole
  by_answer None is (Some t) does = absurd does
  by_answer (Some step) is None does = absurd does
  by_answer (Some step) is (Some t) does =
      let tab = ap (λ es. table_of es) does.next ∙ table_of-live_all p.own p.policy (settled n step.next (table_of senders)) in
      let unmoved = λ (absent : find n (table_of senders) ≡ None). sender-stays p.policy content now step (ap (λ kept. sender_answers p.policy kept content now) (sym absent) ∙ is) in
      let few = length-settled n step.next (table_of senders) whole.sound.ascending unmoved in
      record {
        own = live-table p.own p.policy senders' (settled n step.next (table_of senders)) does.next;
        others = whole.others;
        sound = record {
          some = whole.sound.some;
          countable = whole.sound.countable;
          begun = whole.sound.begun;
          numbers = whole.sound.numbers;
          senders = rw tab (omega (arith, few, whole.sound.senders));
          ascending = subst (λ t. AreAscending 0 t) (sym tab) (ascending-settled n 0 step.next (table_of senders) (omega arith) whole.sound.ascending);
          inbound = whole.sound.inbound;
          sent = subst (λ t. AllByRecursion (SendsAtMost p.most) t) (sym tab)
              (all-settled (SendsAtMost p.most) n step.next (table_of senders) whole.sound.sent
              (sender-within p.most n p.policy (find n (table_of senders)) content now step unmoved is (all-find (SendsAtMost p.most) n (table_of senders) whole.sound.sent)));
          received = whole.sound.received;
        };
      }

pub own-reply : (p : Party) (next n now : ℕ) (content : ContentValue) (senders : List (ℕ × SessionValue Sending)) (inbound : Inbound) (answer : Option (StepValue Sending)) (e : Engine)
    → nat_le p.first n ≡ true → nat_lt n next ≡ true → sender_answers p.policy (find n (table_of senders)) content now ≡ answer
    → Shows (made_of false p next senders inbound) e
    → own_step p e n content now ≡ replied_or_stranger e (record { originator = p.own; number = n }) (sender_replies e n answer)
own-reply p next n now content senders inbound answer e low below is shows =
    ap (λ b. replied_or_stranger e (record { originator = p.own; number = n }) (if b then to_sender p e (record { originator = p.own; session = n; content = content }) now else None)) used
    ∙ (ap (λ t. replied_or_stranger e (record { originator = p.own; number = n }) (sender_replies e n (sender_answers p.policy (find n t) content now))) shows.senders
    ∙ ap (λ a. replied_or_stranger e (record { originator = p.own; number = n }) (sender_replies e n a)) is) where
      used : is_used p e n ≡ true
      used = ap (λ k. nat_le p.first n && nat_lt n k) shows.next ∙ rw (low, below) refl

pub own-steps : (p : Party) (next n now : ℕ) (content : ContentValue) (senders senders' : List (ℕ × SessionValue Sending)) (inbound : Inbound) (told : Option Step) (effects : Effects)
    → nat_le p.first n ≡ true → nat_lt n next ≡ true
    → SenderDoes p.own p.policy n (sender_answers p.policy (find n (table_of senders)) content now) senders senders' told
    → effects ≡ sent_of n told
    → Steps (made_of false p next senders inbound) (made_of false p next senders' inbound) (λ e. own_step p e n content now) effects
own-steps p next n now content senders senders' inbound told effects low below does says = by_answer (sender_answers p.policy (find n (table_of senders)) content now) refl told does says where
  reply : (answer : Option (StepValue Sending)) → sender_answers p.policy (find n (table_of senders)) content now ≡ answer → (e : Engine) → Shows (made_of false p next senders inbound) e
      → replied_or_stranger e (record { originator = p.own; number = n }) (sender_replies e n answer) ≡ own_step p e n content now
  reply answer is e shows = sym (own-reply p next n now content senders inbound answer e low below is shows)

  by_answer : (answer : Option (StepValue Sending)) → sender_answers p.policy (find n (table_of senders)) content now ≡ answer → (told : Option Step)
      → SenderDoes p.own p.policy n answer senders senders' told → effects ≡ sent_of n told
      → Steps (made_of false p next senders inbound) (made_of false p next senders' inbound) (λ e. own_step p e n content now) effects
  by_answer None is (Some t) does says = absurd does
  by_answer (Some step) is None does says = absurd does
  by_answer None is None does says = record {
    whole = refl;
    party = refl;
    next = λ e shows. subst (λ x. Shows (made_of false p next senders' inbound) x.engine) (reply None is e shows)
        (record { next = shows.next; senders = shows.senders ∙ ap (λ es. table_of es) (sym does); inbound = shows.inbound });
    effects_are = λ e shows. subst (λ x. effects ≡ effects_of x.effects) (reply None is e shows) says;
  }
  by_answer (Some step) is (Some t) does says =
      let tab = ap (λ es. table_of es) does.next ∙ table_of-live_all p.own p.policy (settled n step.next (table_of senders)) in
      let (no_up, no_green) = sender-hands p.policy (find n (table_of senders)) content now step is in
      record {
        whole = refl;
        party = refl;
        next = λ e shows. subst (λ x. Shows (made_of false p next senders' inbound) x.engine) (reply (Some step) is e shows)
            (record {
              next = shows.next;
              senders = ap (λ t. settled n step.next t) shows.senders ∙ sym tab;
              inbound = record { receivers = shows.inbound.receivers; touched = shows.inbound.touched; closed = shows.inbound.closed };
            });
        effects_are = λ e shows. subst (λ x. effects ≡ effects_of x.effects) (reply (Some step) is e shows)
            (says ∙ rw (does.says, no_up, no_green) refl);
      }

-- ---- a segment of a session that the peer began

first-may : (p : PolicyValue) (place : Admission) (piece : PieceValue) (now : ℕ) → MayOpen place (first_piece p place piece now).next
first-may p place piece now = by_red (is_red piece.kind) where
  by_full : (full : Bool) → place.closed ≡ false → place.full ≡ full → MayOpen place (if full then noting stays [] note_history_full else piece_step p (fresh place.session) piece now).next
  by_full true open_is is = tt
  by_full false open_is is =
      let (r, keeping) = opens place.session p piece now in
      subst (λ c. MayOpen place c) (sym keeping) (open_is, is)

  by_closed : (closed : Bool) → place.closed ≡ closed
      → MayOpen place (if closed then noting stays [] note_closed else if place.full then noting stays [] note_history_full else piece_step p (fresh place.session) piece now).next
  by_closed true is = tt
  by_closed false is = by_full place.full is refl

  by_red : (red : Bool) → MayOpen place (if not red then hands_up_green stays piece
      else if place.closed then noting stays [] note_closed else if place.full then noting stays [] note_history_full else piece_step p (fresh place.session) piece now).next
  by_red false = tt
  by_red true = by_closed place.closed refl

piece-may : (p : PolicyValue) (place : Admission) (piece : PieceValue) (now : ℕ) → MayOpen place (on_piece p place None piece now).next
piece-may p place piece now = by_served (piece.service == 1) where
  by_part : (none : Bool) → MayOpen place (if none then noting stays [] note_bad_bounds else first_piece p place piece now).next
  by_part true = tt
  by_part false = first-may p place piece now

  by_served : (served : Bool) → MayOpen place (if not served then noting stays (a_receiver_cancel unreachable ∷ []) (note_refused piece.service)
      else if is_no_part place.most piece.offset piece.body then noting stays [] note_bad_bounds else piece_for p place None piece now).next
  by_served false = tt
  by_served true = by_part (is_no_part place.most piece.offset piece.body)

pub receiver-may : (p : PolicyValue) (place : Admission) (content : ContentValue) (now : ℕ) (step : StepValue Receiving)
    → receiver_answers p place None content now ≡ Some step → MayOpen place step.next
unfolding receiver_answers
receiver-may p place (a_piece piece) now step is = some-is (λ s. MayOpen place s.next) _ step is (piece-may p place piece now)
receiver-may p place (a_report report) now step is = absurd (cc)
receiver-may p place (a_report_ack serial) now step is = some-is (λ s. MayOpen place s.next) _ step is tt
receiver-may p place (a_sender_cancel reason) now step is = some-is (λ s. MayOpen place s.next) _ step is tt
receiver-may p place a_sender_cancel_ack now step is = absurd (cc)
receiver-may p place (a_receiver_cancel reason) now step is = absurd (cc)
receiver-may p place a_receiver_cancel_ack now step is = some-is (λ s. MayOpen place s.next) _ step is tt

all-room : (most : ℕ) (i : InboundValue) (gone : Option ℕ) → AllByRecursion (ReceivesAtMost most) i.receivers → AllByRecursion (ReceivesAtMost most) (with_room i gone).receivers
all-room most i None all = all
all-room most i (Some m) all = all-settled (ReceivesAtMost most) m ends i.receivers all tt

pub peer-whole : (p : Party) (next n now : ℕ) (content : ContentValue) (senders : List (ℕ × SessionValue Sending)) (old new : Inbound) (told : Option (Option ℕ × Step))
    → p.most ≡ BLOCK_MAX → n ≤ LAST → AreWhole p next senders old
    → ReceiverDoes p.peer p.policy p.sessions n (receiver_answers p.policy (admission_in (inbound_of old) BLOCK_MAX p.history n) (find n (inbound_of old).receivers) content now) old new told
    → AreWhole p next senders new
peer-whole p next n now content senders old new told greatest most whole does = by_answer (receiver_answers p.policy (admission_in (inbound_of old) BLOCK_MAX p.history n) (find n (inbound_of old).receivers) content now) refl told does where
  by_answer : (answer : Option (StepValue Receiving)) → receiver_answers p.policy (admission_in (inbound_of old) BLOCK_MAX p.history n) (find n (inbound_of old).receivers) content now ≡ answer
      → (told : Option (Option ℕ × Step)) → ReceiverDoes p.peer p.policy p.sessions n answer old new told → AreWhole p next senders new
  by_answer None is None does = subst (λ i. AreWhole p next senders i) (sym does) whole
  by_answer None is (Some t) does = absurd does
  by_answer (Some step) is None does = absurd does
  by_answer (Some step) is (Some t) does =
      let after_it = settled_in (with_room (inbound_of old) t.0) n step.next in
      record {
        own = whole.own;
        others = does.next.live;
        sound = record {
          some = whole.sound.some;
          countable = whole.sound.countable;
          begun = whole.sound.begun;
          numbers = whole.sound.numbers;
          senders = whole.sound.senders;
          ascending = whole.sound.ascending;
          inbound = subst (IsInboundSound p) (sym does.next.is)
              (sound-step p (inbound_of old) n BLOCK_MAX t.0 step.next most whole.sound.some (in-order p.peer p.policy old whole.others) whole.sound.inbound does.gone
              (λ absent. receiver-may p.policy (admission_in (inbound_of old) BLOCK_MAX p.history n) content now step (ap (λ kept. receiver_answers p.policy (admission_in (inbound_of old) BLOCK_MAX p.history n) kept content now) (sym absent) ∙ is)));
          sent = whole.sound.sent;
          received = subst (λ i. AllByRecursion (ReceivesAtMost p.most) i.receivers) (sym does.next.is)
              (all-settled (ReceivesAtMost p.most) n step.next (with_room (inbound_of old) t.0).receivers
              (all-room p.most (inbound_of old) t.0 whole.sound.received)
              (subst (λ m. IfKeeps (λ r. ReceivesAtMost m (n, r)) step.next) (sym greatest)
              (receiver-within n p.policy (admission_in (inbound_of old) BLOCK_MAX p.history n) (find n (inbound_of old).receivers) content now step is
              (subst (λ m. IfKept (λ r. ReceivesAtMost m (n, r)) (find n (inbound_of old).receivers)) greatest (all-find (ReceivesAtMost p.most) n (inbound_of old).receivers whole.sound.received)))));
        };
      }

ups-same : (n : ℕ) (up : Option (List ℕ))
    → list_of {X = Up} (option_map (λ body. record { session = n; body = body }) up)
    ≡ map up_of (list_of {X = UpValue} (option_map (λ body. record { session = n; body = body }) up))
ups-same n None = refl
ups-same n (Some body) = refl

pub peer-reply : (p : Party) (next n now : ℕ) (content : ContentValue) (senders : List (ℕ × SessionValue Sending)) (old : Inbound) (answer : Option (StepValue Receiving)) (e : Engine)
    → p.most ≡ BLOCK_MAX → receiver_answers p.policy (admission_in (inbound_of old) BLOCK_MAX p.history n) (find n (inbound_of old).receivers) content now ≡ answer
    → Shows (made_of false p next senders old) e
    → peer_step p e n content now ≡ replied_or_stranger e (record { originator = p.peer; number = n }) (receiver_replies p e n answer)
peer-reply p next n now content senders old answer e greatest is shows =
    ap (λ x. replied_or_stranger e (record { originator = p.peer; number = n }) (receiver_replies p e n (receiver_answers p.policy x (find n e.receivers) content now)))
    (same-place p (inbound_of old) e n shows.inbound ∙ ap (λ m. admission_in (inbound_of old) m p.history n) greatest)
    ∙ (ap (λ t. replied_or_stranger e (record { originator = p.peer; number = n }) (receiver_replies p e n (receiver_answers p.policy (admission_in (inbound_of old) BLOCK_MAX p.history n) (find n t) content now))) shows.inbound.receivers
    ∙ ap (λ a. replied_or_stranger e (record { originator = p.peer; number = n }) (receiver_replies p e n a)) is)

pub peer-steps : (p : Party) (next n now : ℕ) (content : ContentValue) (senders : List (ℕ × SessionValue Sending)) (old new : Inbound) (told : Option (Option ℕ × Step)) (effects : Effects)
    → p.most ≡ BLOCK_MAX → n ≤ LAST → AreWhole p next senders old
    → ReceiverDoes p.peer p.policy p.sessions n (receiver_answers p.policy (admission_in (inbound_of old) BLOCK_MAX p.history n) (find n (inbound_of old).receivers) content now) old new told
    → effects ≡ handed_of n told
    → Steps (made_of false p next senders old) (made_of false p next senders new) (λ e. peer_step p e n content now) effects
peer-steps p next n now content senders old new told effects greatest most whole does says =
    by_answer (receiver_answers p.policy (admission_in (inbound_of old) BLOCK_MAX p.history n) (find n (inbound_of old).receivers) content now) refl told does says where
      reply : (answer : Option (StepValue Receiving)) → receiver_answers p.policy (admission_in (inbound_of old) BLOCK_MAX p.history n) (find n (inbound_of old).receivers) content now ≡ answer
          → (e : Engine) → Shows (made_of false p next senders old) e
          → replied_or_stranger e (record { originator = p.peer; number = n }) (receiver_replies p e n answer) ≡ peer_step p e n content now
      reply answer is e shows = sym (peer-reply p next n now content senders old answer e greatest is shows)

      by_answer : (answer : Option (StepValue Receiving)) → receiver_answers p.policy (admission_in (inbound_of old) BLOCK_MAX p.history n) (find n (inbound_of old).receivers) content now ≡ answer
          → (told : Option (Option ℕ × Step)) → ReceiverDoes p.peer p.policy p.sessions n answer old new told → effects ≡ handed_of n told
          → Steps (made_of false p next senders old) (made_of false p next senders new) (λ e. peer_step p e n content now) effects
      by_answer None is (Some t) does says = absurd does
      by_answer (Some step) is None does says = absurd does
      by_answer None is None does says = record {
        whole = refl;
        party = refl;
        next = λ e shows. subst (λ x. Shows (made_of false p next senders new) x.engine) (reply None is e shows)
            (record { next = shows.next; senders = shows.senders; inbound = subst (λ i. ShowsInbound (inbound_of i) e) (sym does) shows.inbound });
        effects_are = λ e shows. subst (λ x. effects ≡ effects_of x.effects) (reply None is e shows) says;
      }
      by_answer (Some step) is (Some t) does says = record {
        whole = refl;
        party = refl;
        next = λ e shows. subst (λ x. Shows (made_of false p next senders new) x.engine) (reply (Some step) is e shows)
            (record {
              next = next-with_receiver (without_evicted e (gone_of e)) n step.next ∙ (next-without e (gone_of e) ∙ shows.next);
              senders = senders-with_receiver (without_evicted e (gone_of e)) n step.next ∙ (senders-without e (gone_of e) ∙ shows.senders);
              inbound = subst (λ i. ShowsInbound i (with_receiver (without_evicted e (gone_of e)) n step.next)) (sym does.next.is) (moves e shows).shows;
            });
        effects_are = λ e shows. subst (λ x. effects ≡ effects_of x.effects) (reply (Some step) is e shows)
            (says ∙ (rw (does.says, (moves e shows).same) (rw (ups-same n step.up) refl)));
      } where
        gone_of : Engine → Option ℕ
        gone_of e = evicted_by p e (find n e.receivers) step.next

        next-without : (e : Engine) (gone : Option ℕ) → (without_evicted e gone).next ≡ e.next
        next-without e None = refl
        next-without e (Some m) = next-with_receiver e m ends

        senders-without : (e : Engine) (gone : Option ℕ) → (without_evicted e gone).senders ≡ e.senders
        senders-without e None = refl
        senders-without e (Some m) = senders-with_receiver e m ends

        moves : (e : Engine) → Shows (made_of false p next senders old) e
            → StepsIn (inbound_of old) (settled_in (with_room (inbound_of old) t.0) n step.next) e (with_receiver (without_evicted e (gone_of e)) n step.next) t.0 (gone_of e)
        moves e shows = shows-step p (inbound_of old) e n BLOCK_MAX t.0 step.next most whole.sound.inbound shows.inbound does.gone
            (λ absent. receiver-may p.policy (admission_in (inbound_of old) BLOCK_MAX p.history n) content now step (ap (λ kept. receiver_answers p.policy (admission_in (inbound_of old) BLOCK_MAX p.history n) kept content now) (sym absent) ∙ is))

-- ---- a segment of either side, or a stranger's

pub at_least : (a b : ℕ) → a ≤ b → nat_le a b ≡ true
at_least a b is = grind (arith, nat_tests)

pub less : (a b : ℕ) → a < b → nat_lt a b ≡ true
less a b is = grind (arith, nat_tests)

pub steps-as : (old new : EngineValue) (f g : Engine → EngineStep) (told : Effects) → Steps old new f told → ((e : Engine) → f e ≡ g e) → Steps old new g told
steps-as old new f g told steps same = record {
  whole = steps.whole;
  party = steps.party;
  next = λ e shows. subst (λ x. Shows new x.engine) (same e) (steps.next e shows);
  effects_are = λ e shows. subst (λ x. told ≡ effects_of x.effects) (same e) (steps.effects_are e shows);
}

pub datagram-own : (p : Party) (o n now : ℕ) (content : ContentValue) (e : Engine) → o ≡ p.own
    → own_step p e n content now ≡ datagram_step p e (Ok (record { originator = o; session = n; content = content })) now
unfolding datagram_step arrives
datagram-own p o n now content e is = rw is (rw (self_eqb p.own) refl)

pub datagram-peer : (p : Party) (o n now : ℕ) (content : ContentValue) (e : Engine) → (o ≡ p.own → ⊥) → o ≡ p.peer
    → peer_step p e n content now ≡ datagram_step p e (Ok (record { originator = o; session = n; content = content })) now
unfolding datagram_step arrives
datagram-peer p o n now content e apart is = rw (ne_eqb o p.own apart, eq-eqb o p.peer is) (rw is refl)

pub datagram-stranger : (p : Party) (o n now : ℕ) (content : ContentValue) (e : Engine) → (o ≡ p.own → ⊥) → (o ≡ p.peer → ⊥)
    → noted e notes.Stranger ≡ datagram_step p e (Ok (record { originator = o; session = n; content = content })) now
unfolding datagram_step arrives
datagram-stranger p o n now content e apart from_peer = rw (ne_eqb o p.own apart, ne_eqb o p.peer from_peer) refl

pub steps-noted : (v : EngineValue) (note : Note) (told : Effects) → v.spent ≡ false → told ≡ only_noted note → Steps v v (λ e. noted e note) told
steps-noted v note told whole says = record { whole = whole; party = refl; next = λ e shows. shows; effects_are = λ e shows. says }

pub datagram-read : (p : Party) (s : SegmentValue) (now : ℕ) (read : Result SegmentValue (ℕ × SegmentCause)) (e : Engine) → Ok s ≡ read
    → datagram_step p e (Ok s) now ≡ datagram_step p e read now
datagram-read p s now read e is = ap (λ r. datagram_step p e r now) is

pub datagram-refused : (p : Party) (at now : ℕ) (cause : SegmentCause) (read : Result SegmentValue (ℕ × SegmentCause)) (e : Engine) → Err (at, cause) ≡ read
    → noted e (notes.BadSegment at cause) ≡ datagram_step p e read now
unfolding datagram_step
datagram-refused p at now cause read e is = ap (λ r. datagram_step p e r now) is
