-- Whole texts: the fields are spelled and nothing follows, or the text is refused.
use Rattle.std.specs.Prelude.{◌≡◌, ℕ, ◌<◌, ◌==◌, List, [], length, take, if◌then◌else◌, Result, Ok, Err, ◌⊎◌}
use Rattle.wire_fields.specs.Format.{Format, Spells}
use Rattle.wire_fields.specs.Refusal.{Stop, because, Refusal}
use Rattle.wire_fields.specs.Reading.{read, go_on}

-- the fields are spelled, and after the place at more octets follow
pub record HasMore {C A : Type 0} (f : Format C A) (text : List ℕ) (at : ℕ) : Type 0 where
  pub value : A
  pub spells : Spells f [] (take at text) value
  pub more : at < length text

-- The whole text is refused: its fields are, or the text goes on after the last of them.
abbrev pub WholeRefusal : {C A : Type 0} → Format C A → C → List ℕ → ℕ → Stop C → Type 0
WholeRefusal f trailing text at s =
    Refusal f [] text at s ⊎ (HasMore f text at × (s ≡ because trailing))

-- nothing may follow the value
abbrev pub ended : {C A : Type 0} → C → List ℕ → A × ℕ → Result A (ℕ × Stop C)
ended trailing text x = if x.1 == length text then Ok x.0 else Err (x.1, because trailing)

-- what reading a whole text gives
abbrev pub read_whole : {C A : Type 0} → Format C A → C → List ℕ → Result A (ℕ × Stop C)
read_whole f trailing text = go_on (read f text 0) (ended trailing text)

-- Of the text exactly one holds: the whole of it spells the fields, with one value, or it is refused
-- at one place for one reason.
pub record ExactlyOneWhole {C A : Type 0} (f : Format C A) (trailing : C)
    (text : List ℕ) : Type 0 where
  pub one :
      ((a : A) × Spells f [] text a)
      ⊎ ((at : ℕ) × (s : Stop C) × WholeRefusal f trailing text at s)
  pub one_value : (a b : A) → Spells f [] text a → Spells f [] text b → a ≡ b
  pub one_refusal : (p q : ℕ) (s t : Stop C)
      → WholeRefusal f trailing text p s → WholeRefusal f trailing text q t → (p ≡ q) × (s ≡ t)
  pub not_both : (p : ℕ) (a : A) (s : Stop C)
      → Spells f [] text a → WholeRefusal f trailing text p s → ⊥
