-- Nothing is kept of a receiver whose number is closed.

use Rattle.std.proofs.Common.{◌≡◌, false, Option, None, Some, ◌⊎◌, inl, inr, refl, sym, subst}
use Rattle.ltp_session.specs.Receiver.{Receiving, receiver_tick}
use Rattle.ltp_session.specs.Step.{StepValue, Change, after, stays, keeps, ends}
use Rattle.ltp_laws.specs.Engines.{ClosedFacts}
use Rattle.ltp_laws.specs.Kept.{IfKept}
use Rattle.ltp_laws.specs.Runs.{KeepsUnder, no_facts}
use Rattle.ltp_laws.specs.View.{View, closed_after}
use Rattle.ltp_laws.proofs.HandUpLemmas.{or_open}
use Rattle.ltp_laws.proofs.StepLemmas.{hears-form}

-- a step keeps nothing of a closed number, where it opens none
step-open : (v : View) (t : StepValue Receiving) → IfKept (λ r. v.closed ≡ false) v.receiver
    → (v.receiver ≡ None → (t.next ≡ stays) ⊎ (v.closed ≡ false))
    → IfKept (λ r. closed_after t.next v.closed ≡ false) (after t.next v.receiver)
step-open v t kept opens = by_change t.next refl
  where
    is_open : (o : Option Receiving) → v.receiver ≡ o → IfKept (λ r. v.closed ≡ false) o
        → (t.next ≡ stays → ⊥) → v.closed ≡ false
    is_open (Some r) is was moves = was
    is_open None is was moves = go (opens is)
      where
        go : (t.next ≡ stays) ⊎ (v.closed ≡ false) → v.closed ≡ false
        go (inl same) = absurd (moves same)
        go (inr open_number) = open_number

    by_change : (c : Change Receiving) → t.next ≡ c
        → IfKept (λ r. closed_after c v.closed ≡ false) (after c v.receiver)
    by_change stays is = kept
    by_change (keeps r) is = is_open v.receiver refl kept (λ same. cc)
    by_change ends is = tt

pub closed-keep : KeepsUnder no_facts ClosedFacts
closed-keep = record {
  begins = λ policy n block red now v cuts within unused _. record {
    kept = subst (IfKept (λ r. v.closed ≡ false)) (sym unused.receiver) tt;
  };
  sender = λ block red policy v content now t among hears _ _ facts. record { kept = facts.kept };
  receiver = λ block red policy place v content now t closed among hears _ _ facts.
      let form = hears-form policy place v.receiver content now t hears in
      record {
        kept = step-open v t facts.kept
            (λ none. or_open place.closed v.closed closed (form.opens none));
      };
  sender_tick = λ block red policy now v s is _ _ facts. record { kept = facts.kept };
  receiver_tick = λ block red policy now v r is _ _ facts. record {
    kept = step-open v (receiver_tick policy r now) facts.kept (λ none. absurd (cc));
  };
  evicted = λ block red v r is _ _ facts. record { kept = tt };
}
