-- What becomes of a session in one step, and then in another.

use Rattle.std.proofs.Common.{ℕ, List, [], ◌∷◌, ◌++◌, ◌⊎◌, inl, inr}
use Rattle.ltp_laws.specs.View.{IsIn, View}
use Rattle.ltp_drain.specs.Calm.{Advances}
use Rattle.ltp_drain.specs.Effects.{IsHandedUp, IsNoted}
use Rattle.ltp_drain.specs.Hopeful.{IsHanded, IsKeptSender}
use Rattle.ltp_segment.specs.declared.session.Note.{Note}
use Rattle.ltp_session.specs.World.{End}

pub in-either : {X : Type 0} (x : X) (xs ys : List X) → IsIn x (xs ++ ys) → IsIn x xs ⊎ IsIn x ys
in-either x [] ys is = inr is
in-either x (y ∷ xs) ys (inl same) = inl (inl same)
in-either x (y ∷ xs) ys (inr is) = go (in-either x xs ys is)
  where
    go : IsIn x xs ⊎ IsIn x ys → IsIn x (y ∷ xs) ⊎ IsIn x ys
    go (inl there) = inl (inr there)
    go (inr there) = inr there

-- one step, and then another
pub advances-both : (v v' x : View) (S S' U U' T V : Type 0) → (S → T) → (S' → T) → (U → V)
    → (U' → V) → Advances v v' S U → Advances v' x S' U' → Advances v x T V
advances-both v v' x S S' U U' T V sent sent' up up' first later = record {
  sender = λ is_open. by_first (first.sender is_open);
  receiver = λ handed. late (later.receiver handed);
}
  where
    early : IsHanded v.receiver ⊎ U → IsHanded v.receiver ⊎ V
    early (inl was) = inl was
    early (inr now) = inr (up now)

    late : IsHanded v'.receiver ⊎ U' → IsHanded v.receiver ⊎ V
    late (inl was) = early (first.receiver was)
    late (inr now) = inr (up' now)

    by_later : IsKeptSender x.sender ⊎ (S' × (IsHanded v'.receiver ⊎ U'))
        → IsKeptSender x.sender ⊎ (T × (IsHanded v.receiver ⊎ V))
    by_later (inl still) = inl still
    by_later (inr done) = inr (sent' done.0, late done.1)

    by_first : IsKeptSender v'.sender ⊎ (S × (IsHanded v.receiver ⊎ U))
        → IsKeptSender x.sender ⊎ (T × (IsHanded v.receiver ⊎ V))
    by_first (inl still) = by_later (later.sender still)
    by_first (inr done) = inr (sent done.0, early done.1)

-- nothing is noted, and nothing handed up, where nobody does anything
pub none-noted : (end : End) (note : Note) → IsNoted [] end note → ⊥
none-noted end note is = is.among

pub none-handed : (end : End) (n : ℕ) → IsHandedUp [] end n → ⊥
none-handed end n is = is.among

-- a session that is open stays so where none is noted
pub open-stays : (v v' : View) (S U : Type 0) → (S → ⊥) → Advances v v' S U → IsKeptSender v.sender
    → IsKeptSender v'.sender
open-stays v v' S U never on is_open = go (on.sender is_open)
  where
    go : IsKeptSender v'.sender ⊎ (S × (IsHanded v.receiver ⊎ U)) → IsKeptSender v'.sender
    go (inl still) = still
    go (inr done) = absurd (never done.0)

-- the same, in other words
pub advances-shown : {v v' : View} {S T U V : Type 0} → Advances v v' S U → (S → T) → (U → V)
    → Advances v v' T V
advances-shown {v} {v'} {S} {T} {U} {V} on sent up = record {
  sender = λ is_open. by_sender (on.sender is_open);
  receiver = λ handed. by_receiver (on.receiver handed);
}
  where
    by_receiver : IsHanded v.receiver ⊎ U → IsHanded v.receiver ⊎ V
    by_receiver (inl was) = inl was
    by_receiver (inr now) = inr (up now)

    by_sender : IsKeptSender v'.sender ⊎ (S × (IsHanded v.receiver ⊎ U))
        → IsKeptSender v'.sender ⊎ (T × (IsHanded v.receiver ⊎ V))
    by_sender (inl still) = inl still
    by_sender (inr done) = inr (sent done.0, by_receiver done.1)
