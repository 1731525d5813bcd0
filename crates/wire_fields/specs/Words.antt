-- The words in which tables are written: conditions, single fields, choices, groups that repeat.
use Rattle.std.specs.Prelude.{ℕ, zero, suc, ◌==◌, Bool, true, false, if◌then◌else◌, Option, Some, None, List, [], ◌∷◌, ◌++◌}
use Rattle.wire_fields.specs.declared.lead.UnsignedOrText.{UnsignedOrText}
use Rattle.wire_fields.specs.Kind.{octet, octets, number, head, unsigned_or_text}
use Rattle.wire_fields.specs.Format.{Format, give, field, such_that, ◌>>=◌}

-- ---- conditions

-- a condition and the cause where it fails
abbrev pub needs : {C : Type 0} → Bool → C → Option C
needs holds cause = if holds then None else Some cause

-- two conditions in their order
infixl 5 ◌also◌
abbrev pub ◌also◌ : {C : Type 0} → Option C → Option C → Option C
None also second = second
(Some cause) also second = Some cause

-- ---- single fields

abbrev pub any_octet : {C : Type 0} → C → Format C ℕ
any_octet cause = field octet cause

abbrev pub any_octets : {C : Type 0} → ℕ → C → Format C (List ℕ)
any_octets n cause = field (octets n) cause

abbrev pub any_number : {C : Type 0} → C → Format C ℕ
any_number cause = field number cause

-- ---- heads of CBOR items: an unsigned number, and how many octets or items follow

abbrev pub any_unsigned : {C : Type 0} → C → Format C ℕ
any_unsigned cause = field (head 0) cause

abbrev pub any_byte_string : {C : Type 0} → C → Format C ℕ
any_byte_string cause = field (head 2) cause

abbrev pub any_text_string : {C : Type 0} → C → Format C ℕ
any_text_string cause = field (head 3) cause

abbrev pub any_array : {C : Type 0} → C → Format C ℕ
any_array cause = field (head 4) cause

abbrev pub any_unsigned_or_text : {C : Type 0} → C → Format C UnsignedOrText
any_unsigned_or_text cause = field unsigned_or_text cause

-- ---- the one value that may stand here

abbrev pub exact_octet : {C : Type 0} → ℕ → C → Format C ℕ
exact_octet b cause = such_that (any_octet cause) (λ x. needs (x == b) cause)

abbrev pub exact_unsigned : {C : Type 0} → ℕ → C → Format C ℕ
exact_unsigned n cause = such_that (any_unsigned cause) (λ x. needs (x == n) cause)

abbrev pub exact_byte_string : {C : Type 0} → ℕ → C → Format C ℕ
exact_byte_string n cause = such_that (any_byte_string cause) (λ x. needs (x == n) cause)

abbrev pub exact_array : {C : Type 0} → ℕ → C → Format C ℕ
exact_array n cause = such_that (any_array cause) (λ x. needs (x == n) cause)

-- ---- no value at all

-- a field of 0 octets: nothing stands here but a condition
abbrev pub test : {C : Type 0} → Bool → C → Format C (Unit {0})
test holds cause = such_that (give tt) (λ _. needs holds cause)

-- ---- choices and groups

abbrev pub choice : {C A : Type 0} → Bool → Format C A → Format C A → Format C A
choice true f g = f
choice false f g = g

-- fields that stand here only under a condition
abbrev pub optional : {C A : Type 0} → Bool → Format C A → Format C (Option A)
optional true f = f >>= (λ x. give (Some x))
optional false f = give None

-- a group n times, each time with what the times before gave
abbrev pub repeated : {C S : Type 0} → ℕ → (S → Format C S) → S → Format C S
repeated zero f s = give s
repeated (suc n) f s = f s >>= repeated n f

-- a group until it says that it was the last, each time with how many more may follow
unfoldable pub until : {C S : Type 0} → ℕ → (ℕ → S → Format C (S × Bool)) → S → Format C S
until zero f s = f zero s >>= (λ t. give t.0)
until (suc n) f s = f (suc n) s >>= (λ t. choice t.1 (give t.0) (until n f t.0))

-- ---- lists of groups, each of which may look at the earlier ones

-- the earlier ones and one more
abbrev pub one_more : {C A : Type 0} → (List A → Format C A) → List A → Format C (List A)
one_more f earlier = f earlier >>= (λ x. give (earlier ++ x ∷ []))

-- and whether it was the last
abbrev pub one_more_until : {C A : Type 0}
    → (ℕ → List A → Format C A) → (A → Bool) → ℕ → List A → Format C (List A × Bool)
one_more_until f is_last left earlier =
    f left earlier >>= (λ x. give (earlier ++ x ∷ [], is_last x))

-- so many of them
abbrev pub listed : {C A : Type 0} → ℕ → (List A → Format C A) → Format C (List A)
listed n f = repeated n (one_more f) []

-- all up to the last, each with how many more may follow it
abbrev pub listed_until : {C A : Type 0}
    → ℕ → (ℕ → List A → Format C A) → (A → Bool) → Format C (List A)
listed_until n f is_last = until n (one_more_until f is_last) []
