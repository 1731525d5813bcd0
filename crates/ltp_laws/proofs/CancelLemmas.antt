-- A receiver that sends a cancel is cancelling, or closed.

use Rattle.std.proofs.Common.{[], ◌≡◌, ℕ, false, List, Option, None, Some, ◌⊎◌, inl, inr, refl}
use Rattle.std.proofs.Common.{sym, ap, subst}
use Rattle.std.specs.List.{AllByRecursion}
use Rattle.std.proofs.lemmas.Bool.{eq-eqb}
use Rattle.ltp_segment.specs.Policy.{PolicyValue}
use Rattle.ltp_segment.specs.Values.{PieceValue, ContentValue, a_piece, a_receiver_cancel}
use Rattle.ltp_session.specs.Receiver.{Receiving, receiver_open, Pending, Admission, fresh}
use Rattle.ltp_session.specs.Receiver.{receiver_tick, is_cancelling}
use Rattle.ltp_session.specs.Step.{StepValue, Change, after, stays, keeps, ends, sending}
use Rattle.ltp_laws.specs.Blocks.{BlockFacts}
use Rattle.ltp_laws.specs.Cancels.{IsReceiverCancelling, CancelFacts}
use Rattle.ltp_laws.specs.Kept.{IsClosedOr, IfKeeps, KeepsOrEnds}
use Rattle.ltp_laws.specs.Runs.{KeepsUnder}
use Rattle.ltp_laws.specs.View.{View, closed_after, receiver_moves, IsIn}
use Rattle.ltp_laws.proofs.HandUpLemmas.{heard-piece, gone-on, or_open}
use Rattle.ltp_laws.proofs.SerialLemmas.{among-append, all-among}
use Rattle.ltp_laws.proofs.StepLemmas.{met, hears-form}
use Rattle.ltp_laws.proofs.WalkLemmas.{OnPiece, OnSegment, OnTick, walk-segment, walk-tick}

abbrev SaysBack : Change Receiving → ContentValue → Type 0
SaysBack next (a_receiver_cancel reason) = KeepsOrEnds IsReceiverCancelling next
SaysBack next content = Unit {0}

-- what a receiver's step says of a cancel
record Refuses (r : Receiving) (t : StepValue Receiving) : Type 0 where
  says : AllByRecursion (SaysBack t.next) t.out
  still : IsReceiverCancelling r → IfKeeps IsReceiverCancelling t.next

-- what leaves a receiver that wasn't cancelling
listening : (r : Receiving) (t : StepValue Receiving) → is_cancelling r.phase ≡ false
    → AllByRecursion (SaysBack t.next) t.out → Refuses r t
listening r t not_rejecting says = record { says = says; still = λ is. absurd (cc) }

piece-refuses : (policy : PolicyValue) (r : Receiving) (q : PieceValue) (now : ℕ)
    → is_cancelling r.phase ≡ false → OnPiece policy r q now (Refuses r)
piece-refuses policy r q now is = record {
  outside = λ note. listening r _ is tt;
  miscoloured = listening r _ is (refl, tt);
  greener =
      λ _. listening r _ is tt;
  filled = λ _ _. listening r _ is tt;
  serials_out = λ _ _. listening r _ is (refl, tt);
  reported = λ _ _ _. listening r _ is (tt, tt);
}

never : (r : Receiving) (p : Option Pending) → r.phase ≡ receiver_open p
    → is_cancelling r.phase ≡ false
never r p is = ap is_cancelling is

segment-refuses : (policy : PolicyValue) (place : Admission) (kept : Option Receiving)
    (content : ContentValue) (now : ℕ) → ((q : PieceValue) → content ≡ a_piece q → q.service ≡ 1)
    → OnSegment policy place kept content now (Refuses (met place.session kept))
segment-refuses policy place kept content now service = record {
  rests = λ note. record { says = tt; still = λ h. tt };
  refused_service = λ q is other. absurd (let one = eq-eqb q.service 1 (service q is) in cc (one));
  echoed = λ is. record { says = (tt, tt); still = λ h. tt };
  green_alone = λ q _ is. record { says = tt; still = λ h. tt };
  opened = λ q _ is _. subst (λ k. OnPiece policy (fresh place.session) q now
      (Refuses (met place.session k))) (sym is)
      (piece-refuses policy (fresh place.session) q now refl);
  came = λ q r _ is calm. subst (λ k. OnPiece policy r q now (Refuses (met place.session k)))
      (sym is) (piece-refuses policy r q now calm);
  unmoved = λ r is. subst (λ k. Refuses (met place.session k) (sending (keeps r) [])) (sym is)
      (record { says = tt; still = λ h. h });
  closed_whole = λ r p serial is _ _ _ _. record { says = tt; still = λ h. tt };
  dropped = λ r p serial is waits _ _. subst (λ k. Refuses (met place.session k)
      (sending (keeps (record r { phase = receiver_open None })) [])) (sym is)
      (listening r _ (never r (Some p) waits) tt);
  called_off = λ r reason is. record { says = (tt, tt); still = λ h. tt };
  answered_off = λ r is _. record { says = tt; still = λ h. tt };
}

tick-refuses : (policy : PolicyValue) (now : ℕ) (r : Receiving) → OnTick policy r now (Refuses r)
tick-refuses policy now r = record {
  early = record { says = tt; still = λ h. tt };
  resent =
      λ p is. listening r _ (never r (Some p) is) (tt, tt);
  timed_out_handed =
      λ p _ _. record { says = tt; still = λ h. tt };
  timed_out = λ p is _. record { says = (refl, tt); still = λ h. refl };
  recancelled =
      λ reason timer _. record { says = (refl, tt); still = λ h. refl };
  let_go = λ reason timer _. record { says = tt; still = λ h. tt };
}

-- ---- the facts after a receiver's step

moves-off : (block : List ℕ) (red : ℕ) (v : View) (session : ℕ) (t : StepValue Receiving)
    → (v.receiver ≡ None → (t.next ≡ stays) ⊎ (v.closed ≡ false))
    → Refuses (met session v.receiver) t → CancelFacts block red v
    → CancelFacts block red (receiver_moves v t)
moves-off block red v session t opens refuses facts = record {
  cancels = λ reason among. go reason
      (among-append (a_receiver_cancel reason) v.by_receiver t.out among);
}
  where
    told : (c : Change Receiving) → KeepsOrEnds IsReceiverCancelling c
        → IsClosedOr IsReceiverCancelling (after c v.receiver) (closed_after c v.closed)
    told stays is = absurd is
    told (keeps r) is = is
    told ends is = refl

    go : (reason : ℕ) → IsIn (a_receiver_cancel reason) v.by_receiver ⊎ IsIn
        (a_receiver_cancel reason) t.out → IsClosedOr IsReceiverCancelling
        (after t.next v.receiver) (closed_after t.next v.closed)
    go reason (inl before) =
        gone-on IsReceiverCancelling v.closed t v.receiver opens
        (λ r is. subst (λ kept. IsReceiverCancelling (met session kept)
        → IfKeeps IsReceiverCancelling t.next) is refuses.still)
        (facts.cancels reason before) t.next refl
    go reason (inr now) =
        told t.next (all-among (SaysBack t.next) (a_receiver_cancel reason) t.out refuses.says now)

pub off-keep : KeepsUnder BlockFacts CancelFacts
off-keep = record {
  begins = λ policy n block red now v cuts within unused _. record {
    cancels = λ reason among.
        absurd (subst (IsIn (a_receiver_cancel reason)) unused.by_receiver among);
  };
  sender = λ block red policy v content now t among hears f f' facts.
      record { cancels = facts.cancels };
  receiver = λ block red policy place v content now t closed among hears f f' facts.
      let h = hears-form policy place v.receiver content now t hears in
      moves-off block red v place.session t (λ none. or_open place.closed v.closed closed
      (h.opens none))
      (walk-segment policy place v.receiver content now t (Refuses (met place.session v.receiver))
      hears (segment-refuses policy place v.receiver content now
      (λ q is. (heard-piece block red v content f among q is).service))) facts;
  sender_tick = λ block red policy now v s is f f' facts. record { cancels = facts.cancels };
  receiver_tick = λ block red policy now v r is f f' facts.
      moves-off block red v 0 (receiver_tick policy r now) (λ none. absurd (cc))
      (subst (λ o. Refuses (met 0 o) (receiver_tick policy r now)) (sym is) (walk-tick policy r now
      (Refuses r) (tick-refuses policy now r))) facts;
  evicted = λ block red v r is f f' facts. record { cancels = λ reason among. refl };
}
