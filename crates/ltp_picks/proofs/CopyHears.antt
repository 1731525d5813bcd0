-- A segment comes to a session's end: with what it brings about, the session takes one event less.

use Rattle.std.proofs.Common.{◌≡◌, ℕ, ◌+◌, ◌<◌, ◌≤◌, Bool, true, false, List, []}
use Rattle.std.proofs.Common.{◌∷◌, ◌++◌, length, Option, None, Some, inl, inr, refl, sym, ◌∙◌}
use Rattle.std.proofs.Common.{ap, arith, subst, nat_lt}
use Rattle.std.proofs.lemmas.Bool.{eq-eqb, ne_eqb}
use Rattle.std.proofs.lemmas.Bool.Decides.{nat_tests}
use Rattle.std.proofs.lemmas.List.{append-nil}
use Rattle.ltp_segment.specs.Kinds.{is_red}
use Rattle.ltp_segment.specs.Policy.{PolicyValue}
use Rattle.ltp_segment.specs.Values.{ContentValue, PieceValue, a_piece, a_report}
use Rattle.ltp_segment.specs.Values.{a_report_ack, a_sender_cancel, a_sender_cancel_ack}
use Rattle.ltp_segment.specs.Values.{a_receiver_cancel, a_receiver_cancel_ack}
use Rattle.ltp_session.specs.Engine.{Party}
use Rattle.ltp_session.specs.Receiver.{Admission, Receiving, is_cancelling, on_piece}
use Rattle.ltp_session.specs.Receiver.{on_receiver_cancel_ack, on_sender_cancel}
use Rattle.ltp_session.specs.Receiver.{piece_stop, receiver_answers}
use Rattle.ltp_session.specs.Sender.{Sending, ends_cancelling, on_receiver_cancel}
use Rattle.ltp_session.specs.Sender.{on_sender_cancel_ack, sender_answers, sender_open}
use Rattle.ltp_session.specs.Step.{Change, StepValue, after, ends, note_history_full, stays}
use Rattle.ltp_laws.specs.SenderSteps.{NoPieces}
use Rattle.ltp_laws.specs.Acknowledgements.{IsSenderCancelling}
use Rattle.ltp_laws.specs.Blocks.{IsContentOf, IsPieceOf}
use Rattle.ltp_laws.specs.Cancels.{IsReceiverCancelling}
use Rattle.ltp_laws.specs.Facts.{SessionFacts}
use Rattle.ltp_laws.specs.Kept.{IfKept, IsClosedOr}
use Rattle.ltp_laws.specs.View.{IsIn, View, closed_after, receiver_moves, sender_moves}
use Rattle.ltp_laws.proofs.FactLemmas.{session-keep}
use Rattle.ltp_laws.proofs.ListLemmas.{answered}
use Rattle.ltp_laws.proofs.SerialLemmas.{all-among}
use Rattle.ltp_drain.specs.Calm.{AreFit, Drains, Falls, Given, WaitsOn}
use Rattle.ltp_drain.specs.Hopeful.{IsKeptSender}
use Rattle.ltp_drain.specs.Standing.{Standing, setting_by}
use Rattle.ltp_drain.proofs.ReceiverDrains.{receiver-falls}
use Rattle.ltp_drain.proofs.SenderDrains.{EndsWell, sender-advances, sender-falls}
use Rattle.ltp_drain.proofs.StartLemmas.{session-gives}
use Rattle.ltp_picks.proofs.CopyRows.{piece-falls}
use Rattle.ltp_picks.proofs.CopySessions.{over-more, said-more}
use Rattle.ltp_picks.proofs.EchoLemmas.{all-plain, echo, echoes, echoes-none, none-right, plain}
use Rattle.ltp_picks.proofs.FrontRows.{DrainsBeside, FrontsReceiver, FrontsSender}

-- what a segment that came leaves of a session, with the echoes that it made
pub record Heard (p q : Party) (n : ℕ) (v' : View) (new_s new_r out : List ContentValue)
    (m : ℕ) : Type 0 where
  pub left : ℕ
  pub less : left + echoes out < m
  pub standing : Standing SessionFacts (setting_by p q n) v' new_s new_r left

-- ---- to the sender

-- a receiver that sent a cancel is done, and then no sender is open
no-cancel-open : (block : List ℕ) (red : ℕ) (v : View) (s : Sending) (reason : ℕ)
    → SessionFacts block red v → IsIn (a_receiver_cancel reason) v.by_receiver
    → ((r : Receiving) → v.receiver ≡ Some r → is_cancelling r.phase ≡ false)
    → v.closed ≡ false → ⊥
no-cancel-open block red v s reason facts sent listening unclosed =
    by_kept v.receiver refl (facts.offs.cancels reason sent)
  where
    by_kept : (o : Option Receiving) → v.receiver ≡ o → IsClosedOr IsReceiverCancelling o v.closed
        → ⊥
    by_kept None is done = cc
    by_kept (Some r) is done = let calm = listening r is in cc

-- where it falls, nothing that it says cancels
sender-fell : (p q : Party) (n red : ℕ) (block : List ℕ) (v : View) (t : StepValue Sending)
    (new_s new_r : List ContentValue) (m : ℕ) → SessionFacts block red (sender_moves v t)
    → Falls (setting_by p q n red) (sender_moves v t) (new_s ++ t.out) new_r m
    → Heard p q n (sender_moves v t) (new_s ++ plain t.out) new_r t.out m
sender-fell p q n red block v t new_s new_r m facts falls =
    let none = none-right new_s t.out falls.drains.calm.none_s in
    record {
      left = falls.left;
      less = omega (arith, falls.less, echoes-none t.out none);
      standing = record {
        block = block;
        red = red;
        facts = facts;
        drains = subst (λ (out : List ContentValue). Drains (setting_by p q n red)
            (sender_moves v t) (new_s ++ out) new_r falls.left)
            (sym (all-plain t.out none)) falls.drains;
      };
    }

-- its sender says so much more, none of it plain, and is as it was
quiet-sender : (p q : Party) (n red : ℕ) (block : List ℕ) (v : View) (t : StepValue Sending)
    (e : ContentValue) (new_s new_r : List ContentValue) (m : ℕ)
    → DrainsBeside (setting_by p q n red) v e new_s new_r m → (more : List ContentValue)
    → t.next ≡ stays → t.out ≡ more → NoPieces more → plain more ≡ [] → echoes more < echo e
    → SessionFacts block red (sender_moves v t)
    → Heard p q n (sender_moves v t) (new_s ++ plain t.out) new_r t.out m
quiet-sender p q n red block v t e new_s new_r m front more next out none quiet fewer facts = record {
  left = front.left;
  less = omega (arith, front.less, fewer, ap echoes out);
  standing = record {
    block = block;
    red = red;
    facts = facts;
    drains = subst (λ (said : List ContentValue). Drains (setting_by p q n red)
        (sender_moves v t) said new_r front.left)
        (sym (append-nil new_s) ∙ ap (λ (out : List ContentValue). new_s ++ out)
        (sym (ap plain out ∙ quiet)))
        (subst (λ (v' : View). Drains (setting_by p q n red) v' new_s new_r front.left) same
        (said-more (setting_by p q n red) v new_s new_r more [] front.left front.left front.drains
        (omega arith) front.drains.serials none (λ h. refl)));
  };
}
  where
    same : record v {
      by_sender = v.by_sender ++ more;
      by_receiver = v.by_receiver ++ [];
    } ≡ sender_moves v t
    same = ap (λ (said : List ContentValue). record v {
      by_sender = v.by_sender ++ more;
      by_receiver = said;
    }) (append-nil v.by_receiver)
        ∙ ap (λ (out : List ContentValue). record v { by_sender = v.by_sender ++ out }) (sym out)
        ∙ ap (λ (ch : Change Sending). record v {
          sender = after ch v.sender;
          by_sender = v.by_sender ++ t.out;
        }) (sym next)

-- what a calm session's sender answers to a cancel, or to an answer of one
deaf-ack : (o : Option Sending) (t : StepValue Sending)
    → ((s : Sending) → o ≡ Some s → WaitsOn s) → Some (on_sender_cancel_ack o) ≡ Some t
    → (t.next ≡ stays) × (t.out ≡ [])
deaf-ack None t waiting hears =
    answered (λ (t : StepValue Sending). (t.next ≡ stays) × (t.out ≡ [])) _ t hears (refl, refl)
deaf-ack (Some s) t waiting hears =
    let waits = waiting s refl in
    let hears' : Some (ends_cancelling (sender_open waits.checkpoint waits.timer)) ≡ Some t =
    ap (λ phase. Some (ends_cancelling phase)) (sym waits.is) ∙ hears in
    answered (λ (t : StepValue Sending). (t.next ≡ stays) × (t.out ≡ [])) _ t hears' (refl, refl)

acks-cancel : (o : Option Sending) (reason : ℕ) (t : StepValue Sending)
    → ((s : Sending) → o ≡ Some s → ⊥) → Some (on_receiver_cancel o reason) ≡ Some t
    → (t.next ≡ stays) × (t.out ≡ a_receiver_cancel_ack ∷ [])
acks-cancel None reason t over hears =
    answered (λ (t : StepValue Sending). (t.next ≡ stays) × (t.out ≡ a_receiver_cancel_ack ∷ []))
    _ t hears (refl, refl)
acks-cancel (Some s) reason t over hears = absurd (over s refl)

one-none : NoPieces (a_receiver_cancel_ack ∷ [])
one-none x (inl here) = cc
one-none x (inr none) = none

pub sender-heard : (p q : Party) (n red : ℕ) (block : List ℕ) (v : View) (e : ContentValue)
    (now : ℕ) (new_s new_r : List ContentValue) (m : ℕ) (t : StepValue Sending)
    → 1 ≤ p.policy.segment → SessionFacts block red v → AreFit q.most v.by_sender
    → FrontsSender (setting_by p q n red) v e new_s new_r m
    → IsIn e v.by_receiver → sender_answers p.policy v.sender e now ≡ Some t
    → Heard p q n (sender_moves v t) (new_s ++ plain t.out) new_r t.out m
unfolding sender_answers plain echoes
sender-heard p q n red block v (a_report x) now new_s new_r m t cuts facts fit front sent hears =
    sender-fell p q n red block v t new_s new_r m
    (session-keep.sender block red p.policy v (a_report x) now t sent hears tt tt facts)
    (sender-falls (setting_by p q n red) block p.policy q.most v (a_report x) now new_s new_r m t
    (session-gives.gives block red q.most v fit facts) refl cuts front hears)
sender-heard p q n red block v (a_receiver_cancel reason) now new_s new_r m t cuts facts fit front
    sent hears =
    let acks = acks-cancel v.sender reason t (λ s is. no-cancel-open block red v s reason facts sent
    front.drains.calm.receiving (front.drains.calm.unclosed s is)) hears in
    quiet-sender p q n red block v t (a_receiver_cancel reason) new_s new_r m front
    (a_receiver_cancel_ack ∷ []) acks.0 acks.1 one-none refl (omega arith)
    (session-keep.sender block red p.policy v (a_receiver_cancel reason) now t sent hears tt tt facts)
sender-heard p q n red block v a_sender_cancel_ack now new_s new_r m t cuts facts fit front sent
    hears =
    let deaf = deaf-ack v.sender t front.drains.calm.sending hears in
    quiet-sender p q n red block v t a_sender_cancel_ack new_s new_r m front [] deaf.0 deaf.1
    (λ x none. none) refl (omega arith)
    (session-keep.sender block red p.policy v a_sender_cancel_ack now t sent hears tt tt facts)
sender-heard p q n red block v (a_piece piece) now new_s new_r m t cuts facts fit front sent hears =
    absurd (cc)
sender-heard p q n red block v (a_report_ack serial) now new_s new_r m t cuts facts fit front sent
    hears = absurd (cc)
sender-heard p q n red block v (a_sender_cancel reason) now new_s new_r m t cuts facts fit front
    sent hears = absurd (cc)
sender-heard p q n red block v a_receiver_cancel_ack now new_s new_r m t cuts facts fit front sent
    hears = absurd (cc)

-- an open sender stays so, or its red part was handed up and it is noted as sent
pub sender-ends : (p q : Party) (n red : ℕ) (block : List ℕ) (v : View) (e : ContentValue)
    (now : ℕ) (new_s new_r : List ContentValue) (m : ℕ) (t : StepValue Sending)
    → 1 ≤ p.policy.segment → SessionFacts block red v → AreFit q.most v.by_sender
    → FrontsSender (setting_by p q n red) v e new_s new_r m
    → IsIn e v.by_receiver → sender_answers p.policy v.sender e now ≡ Some t → IsKeptSender v.sender
    → EndsWell v t
unfolding sender_answers
sender-ends p q n red block v (a_report x) now new_s new_r m t cuts facts fit front sent hears
    is_open =
    sender-advances (setting_by p q n red) block p.policy q.most v (a_report x) now new_s new_r m t
    (session-gives.gives block red q.most v fit facts) refl cuts front hears is_open
sender-ends p q n red block v (a_receiver_cancel reason) now new_s new_r m t cuts facts fit front
    sent hears is_open =
    let acks = acks-cancel v.sender reason t (λ s is. no-cancel-open block red v s reason facts sent
    front.drains.calm.receiving (front.drains.calm.unclosed s is)) hears in
    inl (subst (λ (ch : Change Sending). IsKeptSender (after ch v.sender)) (sym acks.0) is_open)
sender-ends p q n red block v a_sender_cancel_ack now new_s new_r m t cuts facts fit front sent hears
    is_open =
    let deaf = deaf-ack v.sender t front.drains.calm.sending hears in
    inl (subst (λ (ch : Change Sending). IsKeptSender (after ch v.sender)) (sym deaf.0) is_open)
sender-ends p q n red block v (a_piece piece) now new_s new_r m t cuts facts fit front sent hears
    is_open = absurd (cc)
sender-ends p q n red block v (a_report_ack serial) now new_s new_r m t cuts facts fit front sent
    hears is_open = absurd (cc)
sender-ends p q n red block v (a_sender_cancel reason) now new_s new_r m t cuts facts fit front sent
    hears is_open = absurd (cc)
sender-ends p q n red block v a_receiver_cancel_ack now new_s new_r m t cuts facts fit front sent
    hears is_open = absurd (cc)

-- ---- to the receiver

-- a red piece of a session that isn't known, where there is no room, is noted as such
full-noted : (policy : PolicyValue) (place : Admission) (q : PieceValue) (now : ℕ)
    → q.service ≡ 1 → 1 ≤ length q.body → piece_stop q ≤ place.most → is_red q.kind ≡ true
    → place.closed ≡ false → place.full ≡ true
    → (on_piece policy place None q now).note ≡ Some note_history_full
full-noted policy place q now service some within red_kind open_number full =
    rw (
      eq-eqb q.service 1 service,
      ne_eqb (length q.body) 0 (λ h. absurd (omega (arith, h, some))),
      not-past (piece_stop q) place.most within,
      red_kind,
      open_number,
      full,
    ) refl
  where
    not-past : (a b : ℕ) → a ≤ b → nat_lt b a ≡ false
    not-past a b low = grind (arith, nat_tests)

-- a sender that sent a cancel isn't open
cancelled-over : (block : List ℕ) (red : ℕ) (v : View) (reason : ℕ) → SessionFacts block red v
    → IsIn (a_sender_cancel reason) v.by_sender
    → ((s : Sending) → v.sender ≡ Some s → WaitsOn s) → IsKeptSender v.sender → ⊥
cancelled-over block red v reason facts sent waiting is_open = by_kept v.sender refl is_open
    (facts.acks.cancels reason sent)
  where
    by_kept : (o : Option Sending) → v.sender ≡ o → IsKeptSender o
        → IfKept (λ s. IsSenderCancelling s.phase) o → ⊥
    by_kept None is is_open over = is_open
    by_kept (Some s) is is_open over =
        let waits = waiting s is in subst IsSenderCancelling waits.is over

-- a cancel's answer is nothing to a receiver that isn't cancelling
abbrev idle-step : StepValue Receiving
idle-step = record { next = stays; out = []; up = None; green = None; note = None }

rest-of : (r : Receiving) → is_cancelling r.phase ≡ false
    → Some idle-step ≡ Some (on_receiver_cancel_ack (Some r))
rest-of r calm = rw calm refl

deaf-receiver : (o : Option Receiving) (t : StepValue Receiving)
    → ((r : Receiving) → o ≡ Some r → is_cancelling r.phase ≡ false)
    → Some (on_receiver_cancel_ack o) ≡ Some t → (t.next ≡ stays) × (t.out ≡ [])
deaf-receiver None t listening hears =
    answered (λ (t : StepValue Receiving). (t.next ≡ stays) × (t.out ≡ [])) _ t hears (refl, refl)
deaf-receiver (Some r) t listening hears =
    answered (λ (t : StepValue Receiving). (t.next ≡ stays) × (t.out ≡ [])) _ t
    (rest-of r (listening r refl) ∙ hears) (refl, refl)

-- where it falls, nothing that it says cancels
receiver-fell : (p q : Party) (n red : ℕ) (block : List ℕ) (v : View) (t : StepValue Receiving)
    (new_s new_r : List ContentValue) (m : ℕ) → SessionFacts block red (receiver_moves v t)
    → Falls (setting_by p q n red) (receiver_moves v t) new_s (new_r ++ t.out) m
    → Heard p q n (receiver_moves v t) new_s (new_r ++ plain t.out) t.out m
receiver-fell p q n red block v t new_s new_r m facts falls =
    let none = none-right new_r t.out falls.drains.calm.none_r in
    record {
      left = falls.left;
      less = omega (arith, falls.less, echoes-none t.out none);
      standing = record {
        block = block;
        red = red;
        facts = facts;
        drains = subst (λ (out : List ContentValue). Drains (setting_by p q n red)
            (receiver_moves v t) new_s (new_r ++ out) falls.left)
            (sym (all-plain t.out none)) falls.drains;
      };
    }

-- its receiver says so much more, none of it plain; it is as it was, or over where its sender is
still-receiver : (p q : Party) (n red : ℕ) (block : List ℕ) (v v' : View) (t : StepValue Receiving)
    (e : ContentValue) (new_s new_r : List ContentValue) (m : ℕ) → v' ≡ receiver_moves v t
    → (front : DrainsBeside (setting_by p q n red) v e new_s new_r m) → (more : List ContentValue)
    → t.out ≡ more → plain more ≡ [] → echoes more < echo e
    → SessionFacts block red (receiver_moves v t)
    → Drains (setting_by p q n red) v' new_s new_r front.left
    → Heard p q n (receiver_moves v t) new_s (new_r ++ plain t.out) t.out m
still-receiver p q n red block v v' t e new_s new_r m same front more out quiet fewer facts drains =
    record {
      left = front.left;
      less = omega (arith, front.less, fewer, ap echoes out);
      standing = record {
        block = block;
        red = red;
        facts = facts;
        drains = subst (λ (said : List ContentValue). Drains (setting_by p q n red)
            (receiver_moves v t) new_s said front.left)
            (sym (append-nil new_r) ∙ ap (λ (out : List ContentValue). new_r ++ out)
            (sym (ap plain out ∙ quiet)))
            (subst (λ (v' : View). Drains (setting_by p q n red) v' new_s new_r front.left) same
            drains);
      };
    }

quiet-receiver : (p q : Party) (n red : ℕ) (block : List ℕ) (v : View) (t : StepValue Receiving)
    (e : ContentValue) (new_s new_r : List ContentValue) (m : ℕ)
    → DrainsBeside (setting_by p q n red) v e new_s new_r m → (more : List ContentValue)
    → t.next ≡ stays → t.out ≡ more → plain more ≡ [] → echoes more < echo e
    → (IsKeptSender v.sender → more ≡ []) → SessionFacts block red (receiver_moves v t)
    → Heard p q n (receiver_moves v t) new_s (new_r ++ plain t.out) t.out m
quiet-receiver p q n red block v t e new_s new_r m front more next out quiet fewer none facts =
    still-receiver p q n red block v (record v {
      by_sender = v.by_sender ++ [];
      by_receiver = v.by_receiver ++ more;
    }) t e new_s new_r m same front more out quiet fewer facts
    (said-more (setting_by p q n red) v new_s new_r [] more front.left front.left front.drains
    (omega arith) front.drains.serials (λ x none. none) none)
  where
    same : record v {
      by_sender = v.by_sender ++ [];
      by_receiver = v.by_receiver ++ more;
    } ≡ receiver_moves v t
    same = ap (λ (said : List ContentValue). record v {
      by_sender = said;
      by_receiver = v.by_receiver ++ more;
    }) (append-nil v.by_sender)
        ∙ ap (λ (out : List ContentValue). record v { by_receiver = v.by_receiver ++ out }) (sym out)
        ∙ ap (λ (ch : Change Receiving). record v {
          receiver = after ch v.receiver;
          closed = closed_after ch v.closed;
          by_receiver = v.by_receiver ++ t.out;
        }) (sym next)

over-receiver : (p q : Party) (n red : ℕ) (block : List ℕ) (v : View) (t : StepValue Receiving)
    (e : ContentValue) (new_s new_r : List ContentValue) (m : ℕ)
    → DrainsBeside (setting_by p q n red) v e new_s new_r m → (more : List ContentValue)
    → t.next ≡ ends → t.out ≡ more → plain more ≡ [] → echoes more < echo e
    → (IsKeptSender v.sender → ⊥) → SessionFacts block red (receiver_moves v t)
    → Heard p q n (receiver_moves v t) new_s (new_r ++ plain t.out) t.out m
over-receiver p q n red block v t e new_s new_r m front more next out quiet fewer over facts =
    still-receiver p q n red block v (record v {
      receiver = None;
      closed = true;
      by_receiver = v.by_receiver ++ more;
    }) t e new_s new_r m same front more out quiet fewer facts
    (over-more (setting_by p q n red) v new_s new_r more front.left front.left front.drains
    (omega arith) front.drains.serials over)
  where
    same : record v {
      receiver = None;
      closed = true;
      by_receiver = v.by_receiver ++ more;
    } ≡ receiver_moves v t
    same = ap (λ (out : List ContentValue). record v {
      receiver = None;
      closed = true;
      by_receiver = v.by_receiver ++ out;
    }) (sym out)
        ∙ ap (λ (ch : Change Receiving). record v {
          receiver = after ch v.receiver;
          closed = closed_after ch v.closed;
          by_receiver = v.by_receiver ++ t.out;
        }) (sym next)

pub receiver-heard : (p q : Party) (n red : ℕ) (block : List ℕ) (place : Admission) (v : View)
    (e : ContentValue) (now : ℕ) (new_s new_r : List ContentValue) (m : ℕ)
    (t : StepValue Receiving) → place.session ≡ n → place.closed ≡ v.closed → place.most ≡ q.most
    → (t.note ≡ Some note_history_full → ⊥)
    → SessionFacts block red v → AreFit q.most v.by_sender
    → FrontsReceiver (setting_by p q n red) v e new_s new_r m
    → IsIn e v.by_sender → receiver_answers q.policy place v.receiver e now ≡ Some t
    → Heard p q n (receiver_moves v t) new_s (new_r ++ plain t.out) t.out m
unfolding receiver_answers plain echoes
receiver-heard p q n red block place v (a_piece x) now new_s new_r m t session closed most unnoted
    facts fit front sent hears =
    receiver-fell p q n red block v t new_s new_r m
    (session-keep.receiver block red q.policy place v (a_piece x) now t closed sent hears tt tt
    facts)
    (piece-falls (setting_by p q n red) block q.policy place v x now new_s new_r m t
    (subst (λ (most : ℕ). Given block red most v) (sym most)
    (session-gives.gives block red q.most v fit facts)) session closed roomy front hears)
  where
    of : IsPieceOf block red x
    of = all-among (IsContentOf block red) (a_piece x) v.by_sender facts.basic.said sent

    roomy : v.receiver ≡ None → place.closed ≡ false → is_red x.kind ≡ true → place.full ≡ false
    roomy none open_number red_kind = by_full place.full refl
      where
        by_full : (full : Bool) → place.full ≡ full → full ≡ false
        by_full false is = refl
        by_full true is = absurd (unnoted (answered
            (λ (t : StepValue Receiving). t.note ≡ Some note_history_full) _ t
            (ap (λ o. Some (on_piece q.policy place o x now)) (sym none) ∙ hears)
            (full-noted q.policy place x now of.service (fit x sent).0
            (omega (arith, (fit x sent).1, most)) red_kind open_number is)))
receiver-heard p q n red block place v (a_report_ack serial) now new_s new_r m t session closed most
    unnoted facts fit front sent hears =
    receiver-fell p q n red block v t new_s new_r m
    (session-keep.receiver block red q.policy place v (a_report_ack serial) now t closed sent hears
    tt tt facts)
    (receiver-falls (setting_by p q n red) block q.policy (record place { full = false }) v
    (a_report_ack serial) now new_s new_r m t
    (subst (λ (most : ℕ). Given block red most v) (sym most)
    (session-gives.gives block red q.most v fit facts)) session closed (λ coming. refl) front hears)
receiver-heard p q n red block place v (a_sender_cancel reason) now new_s new_r m t session closed
    most unnoted facts fit front sent hears = by_kept v.receiver refl hears
  where
    over : IsKeptSender v.sender → ⊥
    over = cancelled-over block red v reason facts sent front.drains.calm.sending

    facts' : SessionFacts block red (receiver_moves v t)
    facts' = session-keep.receiver block red q.policy place v (a_sender_cancel reason) now t
        closed sent hears tt tt facts

    by_kept : (o : Option Receiving) → v.receiver ≡ o → Some (on_sender_cancel o reason) ≡ Some t
        → Heard p q n (receiver_moves v t) new_s (new_r ++ plain t.out) t.out m
    by_kept None is hears = quiet-receiver p q n red block v t (a_sender_cancel reason) new_s new_r m
        front (a_sender_cancel_ack ∷ [])
        (answered (λ (t : StepValue Receiving). t.next ≡ stays) _ t hears refl)
        (answered (λ (t : StepValue Receiving). t.out ≡ a_sender_cancel_ack ∷ []) _ t hears refl)
        refl (omega arith) (λ is_open. absurd (over is_open)) facts'
    by_kept (Some r) is hears = over-receiver p q n red block v t (a_sender_cancel reason) new_s new_r
        m front (a_sender_cancel_ack ∷ [])
        (answered (λ (t : StepValue Receiving). t.next ≡ ends) _ t hears refl)
        (answered (λ (t : StepValue Receiving). t.out ≡ a_sender_cancel_ack ∷ []) _ t hears refl)
        refl (omega arith) over facts'
receiver-heard p q n red block place v a_receiver_cancel_ack now new_s new_r m t session closed most
    unnoted facts fit front sent hears =
    let deaf = deaf-receiver v.receiver t front.drains.calm.receiving hears in
    quiet-receiver p q n red block v t a_receiver_cancel_ack new_s new_r m front [] deaf.0 deaf.1 refl
    (omega arith) (λ h. refl)
    (session-keep.receiver block red q.policy place v a_receiver_cancel_ack now t closed sent hears
    tt tt facts)
receiver-heard p q n red block place v (a_report x) now new_s new_r m t session closed most unnoted
    facts fit front sent hears = absurd (cc)
receiver-heard p q n red block place v (a_receiver_cancel reason) now new_s new_r m t session closed
    most unnoted facts fit front sent hears = absurd (cc)
receiver-heard p q n red block place v a_sender_cancel_ack now new_s new_r m t session closed most
    unnoted facts fit front sent hears = absurd (cc)
