-- A red part is handed up in the step after which the receiver has handed it up.

use Rattle.std.proofs.Common.{◌≡◌, ℕ, Bool, true, false, ◌||◌, Option, Some, is_some, ◌⊎◌, inl}
use Rattle.std.proofs.Common.{inr, refl, sym, subst}
use Rattle.ltp_segment.specs.Policy.{PolicyValue}
use Rattle.ltp_segment.specs.Values.{ContentValue, PieceValue}
use Rattle.ltp_session.specs.Receiver.{Admission, Receiving, fresh, receiver_answers}
use Rattle.ltp_session.specs.Step.{StepValue, after}
use Rattle.ltp_laws.proofs.WalkLemmas.{OnPiece, walk-segment}
use Rattle.ltp_drain.specs.Hopeful.{IsHanded}

-- it was handed up before, or is in this step
abbrev pub HandsUpNow : Option Receiving → StepValue Receiving → Type 0
HandsUpNow kept t = IsHanded (after t.next kept) → IsHanded kept ⊎ (is_some t.up ≡ true)

either : (a b : Bool) → (a || b) ≡ true → (a ≡ true) ⊎ (b ≡ true)
either true b is = inl refl
either false b is = inr is

by_either : {X : Type 0} (a b : Bool) → (a ≡ true → X) → (a || b) ≡ true → X ⊎ (b ≡ true)
by_either {X} a b gives is = go (either a b is)
  where
    go : (a ≡ true) ⊎ (b ≡ true) → X ⊎ (b ≡ true)
    go (inl left) = inl (gives left)
    go (inr right) = inr right

piece-hands : (policy : PolicyValue) (kept : Option Receiving) (r : Receiving) (q : PieceValue)
    (now : ℕ) → (r.handed_up ≡ true → IsHanded kept) → OnPiece policy r q now (HandsUpNow kept)
piece-hands policy kept r q now was = record {
  outside = λ note is. inl is;
  miscoloured = λ is. inl (was is);
  greener = λ green_kind is. inl (was is);
  filled = λ red_kind plain is. by_either r.handed_up _ was is;
  serials_out = λ red_kind asks is. by_either r.handed_up _ was is;
  reported = λ red_kind asks more is. by_either r.handed_up _ was is;
}

pub hands-up-now : (policy : PolicyValue) (place : Admission) (kept : Option Receiving)
    (content : ContentValue) (now : ℕ) (t : StepValue Receiving)
    → receiver_answers policy place kept content now ≡ Some t → HandsUpNow kept t
hands-up-now policy place kept content now t hears =
    walk-segment policy place kept content now t (HandsUpNow kept) hears (record {
      rests = λ note is. inl is;
      refused_service = λ q is_q other is. inl is;
      echoed = λ none is. inl is;
      green_alone = λ q is_q none is. inl is;
      opened = λ q is_q none open_number.
          piece-hands policy kept (fresh place.session) q now (λ h. absurd (cc));
      came = λ q r is_q some listening.
          piece-hands policy kept r q now (λ h. subst IsHanded (sym some) h);
      unmoved = λ r some is. inl (subst IsHanded (sym some) is);
      closed_whole = λ r p serial some phase is_ack named whole is. absurd is;
      dropped = λ r p serial some phase is_ack part is. inl (subst IsHanded (sym some) is);
      called_off = λ r reason some is. absurd is;
      answered_off = λ r some cancelling is. absurd is;
    })
