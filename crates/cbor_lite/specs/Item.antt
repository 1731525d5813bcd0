-- The items that bundles are written in (RFC 8949, section 3): a head, and for a string as many octets
-- after it as it says. Numbers are of kind 0, byte strings of kind 2, text strings of kind 3, and
-- an array's head, of kind 4, says how many items follow.
use Rattle.std.specs.Prelude.{◌≡◌, ◌≢◌, ◌⊎◌, ◌++◌, ℕ, ◌+◌, ◌-◌, ◌^◌, ◌<◌, ◌≤◌, ◌==◌, nat_lt}
use Rattle.std.specs.Prelude.{if◌then◌else◌, Bool, true, false, List, [], ◌∷◌, length, take, drop}
use Rattle.std.specs.Prelude.{Result, Ok, Err}
use Rattle.std.specs.Borrow.{Bor}
use Rattle.cbor_lite.specs.declared.fault.CborFault.{CborFault}
use Rattle.cbor_lite.specs.declared.fault.CborFault.TheVariants.{Kind, Short, NotShortest}
use Rattle.cbor_lite.specs.Head.{head, SpellsHead, HasOtherKind, EndsInsideHead, HasLongHead}
use Rattle.cbor_lite.specs.Head.{head_at}

-- ---- strings

-- the one spelling of a string
abbrev pub string : ℕ → List ℕ → List ℕ
string kind body = head kind (length body) ++ body

-- these octets spell a string with this content
pub record SpellsString (kind : ℕ) (w body : List ℕ) : Type 0 where
  pub small : length body < 2 ^ 64
  pub spelt : w ≡ string kind body

-- after a head stand fewer octets than it says
pub record EndsInsideContent (kind : ℕ) (w : List ℕ) : Type 0 where
  pub front : List ℕ
  pub after : List ℕ
  pub size : ℕ
  pub parts : w ≡ front ++ after
  pub says : SpellsHead kind front size
  pub fewer : length after < size

-- why no string of this kind stands at the front of a text
abbrev pub StringFault : ℕ → List ℕ → CborFault → Type 0
StringFault kind w Kind = HasOtherKind kind w
StringFault kind w Short = EndsInsideHead kind w ⊎ EndsInsideContent kind w
StringFault kind w NotShortest = HasLongHead kind w

-- what an answer says of a text at whose front a string of a kind is asked for
abbrev pub AnswersString : ℕ → List ℕ → Result (List ℕ × ℕ) CborFault → Type 0
AnswersString kind w (Ok x) = (x.1 ≤ length w) × SpellsString kind (take x.1 w) x.0
AnswersString kind w (Err e) = StringFault kind w e

-- the content after a head that says its length
abbrev pub content_at : List ℕ → Result (ℕ × ℕ) CborFault → Result (List ℕ × ℕ) CborFault
content_at w (Err e) = Err e
content_at w (Ok x) =
    if nat_lt (length w - x.1) x.0 then Err Short else Ok (take x.0 (drop x.1 w), x.1 + x.0)

-- the string that a text begins with, and how many octets it has, or why there is none
abbrev pub string_at : ℕ → List ℕ → Result (List ℕ × ℕ) CborFault
string_at kind w = content_at w (head_at kind w)

-- a string that is lent out of the text, seen as its octets
abbrev pub lent : Result (Bor (List ℕ) × ℕ) CborFault → Result (List ℕ × ℕ) CborFault
lent (Ok x) = Ok (x.0.now, x.1)
lent (Err e) = Err e

-- ---- single octets

-- the octet of a boolean
abbrev pub boolean : Bool → ℕ
boolean false = 0xF4
boolean true = 0xF5

-- the octet that ends an array without a length
abbrev pub break : ℕ
break = 0xFF

-- why no boolean stands at the front of a text
abbrev pub BooleanFault : List ℕ → CborFault → Type 0
BooleanFault [] Short = Unit {0}
BooleanFault [] _ = ⊥
BooleanFault (first ∷ rest) Kind = (first ≢ boolean false) × (first ≢ boolean true)
BooleanFault (first ∷ rest) _ = ⊥

-- why a text doesn't begin with the break octet
abbrev pub BreakFault : List ℕ → CborFault → Type 0
BreakFault [] Short = Unit {0}
BreakFault [] _ = ⊥
BreakFault (first ∷ rest) Kind = first ≢ break
BreakFault (first ∷ rest) _ = ⊥

abbrev pub boolean_at : List ℕ → Result (Bool × ℕ) CborFault
boolean_at [] = Err Short
boolean_at (first ∷ rest) =
    if first == boolean false then Ok (false, 1)
    else if first == boolean true then Ok (true, 1)
    else Err Kind

abbrev pub break_at : List ℕ → Result ℕ CborFault
break_at [] = Err Short
break_at (first ∷ rest) = if first == break then Ok 1 else Err Kind
