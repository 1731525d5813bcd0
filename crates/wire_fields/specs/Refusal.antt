-- A refusal: the octets before a place are as they should be, and the next field isn't there.
use Rattle.std.specs.Prelude.{◌≡◌, ℕ, ◌≤◌, List, [], ◌++◌, take, length, Option, Some, ◌⊎◌}
use Rattle.wire_fields.specs.Kind.{Kind, ValueOf, SpellsKind, EndsInside}
use Rattle.wire_fields.specs.Format.{Format, give, place, since, field, such_that, and_then, Spells}

-- why a text is refused: it ends inside a field, or for a cause
pub data Stop (C : Type 0) : Type 0 where
  truncated : Stop C
  because : C → Stop C

-- no front of w spells a value of the kind, and w doesn't end inside it
pub record IsAbsent (k : Kind) (w : List ℕ) : Type 0 where
  pub goes_on : EndsInside k w → ⊥
  pub no_front : (u v : List ℕ) (x : ValueOf k) → w ≡ u ++ v → SpellsKind k u x → ⊥

-- a field of the kind isn't there
abbrev pub Misfit : {C : Type 0} → Kind → C → List ℕ → Stop C → Type 0
Misfit k cause w truncated = EndsInside k w
Misfit k cause w (because d) = IsAbsent k w × (d ≡ cause)

-- a front of w spells the fields, and a condition on their value fails, the first with this cause
pub record HasFailed {C A : Type 0} (f : Format C A) (conditions : A → Option C)
    (front w : List ℕ) (s : Stop C) : Type 0 where
  pub text : List ℕ
  pub rest : List ℕ
  pub value : A
  pub cause : C
  pub parts : w ≡ text ++ rest
  pub spells : Spells f front text value
  pub fails : conditions value ≡ Some cause
  pub why : s ≡ because cause

-- After the octets front, the octets w are refused at the place at: the octets before it spell the
-- earlier fields with their conditions, and the field there is missing, or a condition on it fails.
abbrev pub Refusal : {C A : Type 0} → Format C A → List ℕ → List ℕ → ℕ → Stop C → Type 0
Refusal (give x) front w at s = ⊥
Refusal place front w at s = ⊥
Refusal (since p) front w at s = ⊥
Refusal (field k cause) front w at s = (at ≡ length front) × Misfit k cause w s
Refusal (such_that f conditions) front w at s =
    Refusal f front w at s ⊎ ((at ≡ length front) × HasFailed f conditions front w s)
Refusal (and_then {A = X} f g) front w at s =
    Refusal f front w at s
    ⊎ ((u v : List ℕ) × (x : X) × (w ≡ u ++ v)
    × Spells f front u x × Refusal (g x) (front ++ u) v at s)

-- the first k octets of the text spell the fields, and a is what they make up
pub record Begins {C A : Type 0} (f : Format C A) (text : List ℕ) (k : ℕ) (a : A) : Type 0 where
  pub within : k ≤ length text
  pub spells : Spells f [] (take k text) a

-- Of the text exactly one holds: one front of it spells the fields, with one value, or it is refused
-- at one place for one reason.
pub record ExactlyOne {C A : Type 0} (f : Format C A) (text : List ℕ) : Type 0 where
  pub one :
      ((k : ℕ) × (a : A) × Begins f text k a)
      ⊎ ((at : ℕ) × (s : Stop C) × Refusal f [] text at s)
  pub one_front : (j k : ℕ) (a b : A)
      → Begins f text j a → Begins f text k b → (j ≡ k) × (a ≡ b)
  pub one_refusal : (p q : ℕ) (s t : Stop C)
      → Refusal f [] text p s → Refusal f [] text q t → (p ≡ q) × (s ≡ t)
  pub not_both : (k p : ℕ) (a : A) (s : Stop C)
      → Begins f text k a → Refusal f [] text p s → ⊥
