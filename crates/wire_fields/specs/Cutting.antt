-- What a stream tells of its values, in whatever pieces it comes.

use Rattle.std.specs.Prelude.{◌≡◌, ℕ, ◌≤◌, List, [], ◌∷◌, ◌++◌, length, drop, Some, None, ◌⊎◌}
use Rattle.std.specs.List.{concat}
use Rattle.wire_fields.specs.Reading.{IsOctets}
use Rattle.wire_fields.specs.Streaming.{Streamed, Stream, IsOpen, Takes, Refuses}

-- how a stream stands: it goes on with an open value, or was refused at a place for a cause
pub data Standing (C : Type 0) : Type 0 where
  goes_on : Stream → Standing C
  is_refused : ℕ → C → Standing C

-- Octets tell these values, one after the other, and how the stream stands after them.
unfoldable pub Tells : {C A : Type 0} → Streamed C A → ℕ → Stream → List ℕ → List A → Standing C → Type 0
Tells s longest old octets (a ∷ values) stands =
    (used : ℕ) × (mid : Stream) × Takes s longest old octets used (Some a) mid
    × Tells s longest mid (drop used octets) values stands
Tells s longest old octets [] (goes_on new) = Takes s longest old octets (length octets) None new
Tells s longest old octets [] (is_refused at cause) = Refuses s longest old octets at cause

-- with a piece the stream is refused
abbrev pub EndsIn : {C A : Type 0} → Streamed C A → ℕ → Stream → List ℕ → List A → Standing C → Type 0
EndsIn s longest old piece values (goes_on new) = ⊥
EndsIn s longest old piece values (is_refused at cause) =
    Tells s longest old piece values (is_refused at cause)

-- Pieces tell what each of them tells in turn, up to the first with which the stream is refused.
unfoldable pub TellInTurn : {C A : Type 0}
    → Streamed C A → ℕ → Stream → List (List ℕ) → List A → Standing C → Type 0
TellInTurn s longest old [] values stands = (values ≡ []) × (stands ≡ goes_on old)
TellInTurn {A = A} s longest old (piece ∷ pieces) values stands =
    EndsIn s longest old piece values stands
    ⊎ ((first : List A) × (others : List A) × (mid : Stream)
    × (values ≡ first ++ others) × Tells s longest old piece first (goes_on mid)
    × TellInTurn s longest mid pieces others stands)

-- a stream that stands so may come on in these pieces
pub record ComesOn {C A : Type 0} (s : Streamed C A) (longest : ℕ) (old : Stream)
    (pieces : List (List ℕ)) : Type 0 where
  pub small : length old.kept ≤ longest
  pub begun : IsOpen s old.kept
  pub octets : IsOctets (old.kept ++ concat pieces)

-- Pieces tell what all their octets tell as one.
abbrev pub TellAsOne : {C A : Type 0} → Streamed C A → ℕ → Type 0
TellAsOne {C} {A} s longest = (old : Stream) (pieces : List (List ℕ)) (values : List A) (stands : Standing C)
    → ComesOn s longest old pieces → TellInTurn s longest old pieces values stands
    → Tells s longest old (concat pieces) values stands

-- The same octets in other pieces tell the same.
abbrev pub TellTheSame : {C A : Type 0} → Streamed C A → ℕ → Type 0
TellTheSame {C} {A} s longest =
    (old : Stream) (pieces others : List (List ℕ)) (values again : List A) (stands then : Standing C)
    → ComesOn s longest old pieces → concat others ≡ concat pieces
    → TellInTurn s longest old pieces values stands → TellInTurn s longest old others again then
    → (again ≡ values) × (then ≡ stands)
