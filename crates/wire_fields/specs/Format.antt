-- A format: the table of its fields, and which octets spell it.
use Rattle.std.specs.Prelude.{◌≡◌, ℕ, List, [], ◌++◌, drop, length, Option, None}
use Rattle.wire_fields.specs.Kind.{Kind, ValueOf, SpellsKind}

-- The fields of a format in their order, with causes of C, and the value of A that they make up.
pub data Format (C : Type 0) : Type 0 → Type 1 where
  -- no field: the value is known
  give : {A : Type 0} → A → Format C A
  -- no field: how many octets stand before this place
  place : Format C ℕ
  -- no field: the octets from an earlier place up to this one
  since : ℕ → Format C (List ℕ)
  -- one field of a kind, and the cause where it isn't there
  field : (k : Kind) → C → Format C (ValueOf k)
  -- fields under conditions on their value, which answer the cause of the first that fails
  such_that : {A : Type 0} → Format C A → (A → Option C) → Format C A
  -- fields, and after them others that may depend on their value
  and_then : {A B : Type 0} → Format C A → (A → Format C B) → Format C B

-- and_then, so that a table can be written down line by line
infixl 10 ◌>>=◌
abbrev pub ◌>>=◌ : {C A B : Type 0} → Format C A → (A → Format C B) → Format C B
f >>= g = and_then f g

-- After the octets front, the octets w spell the fields with their conditions, and a is what they
-- make up.
abbrev pub Spells : {C A : Type 0} → Format C A → List ℕ → List ℕ → A → Type 0
Spells (give x) front w a = (w ≡ []) × (a ≡ x)
Spells place front w a = (w ≡ []) × (a ≡ length front)
Spells (since p) front w a = (w ≡ []) × (a ≡ drop p front)
Spells (field k c) front w a = SpellsKind k w a
Spells (such_that f conditions) front w a = Spells f front w a × (conditions a ≡ None)
Spells (and_then {A = X} f g) front w a =
    (u v : List ℕ) × (x : X) × (w ≡ u ++ v)
    × Spells f front u x × Spells (g x) (front ++ u) v a
