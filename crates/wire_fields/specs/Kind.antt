-- The basic kinds of a field: what spells a value, and where the input ends inside it.
use Rattle.std.specs.Prelude.{◌≡◌, ℕ, ◌<◌, ◌⊎◌, List, [], ◌∷◌, length}
use Rattle.sdnv.specs.Spelling as sdnv
use Rattle.sdnv.specs.Reading.{IsShort}
use Rattle.cbor_lite.specs.Head.{SpellsHead, EndsInsideHead}
use Rattle.wire_fields.specs.declared.lead.UnsignedOrText.{UnsignedOrText}
use Rattle.wire_fields.specs.declared.lead.UnsignedOrText.TheVariants as leads

pub data Kind : Type 0 where
  -- one octet
  octet : Kind
  -- so many octets
  octets : ℕ → Kind
  -- a number of seven bits an octet (SDNV)
  number : Kind
  -- the shortest head of a CBOR item of this kind, which says a number
  head : ℕ → Kind
  -- such a head of a text string, where the next octet is of that kind, else of an unsigned number
  unsigned_or_text : Kind

-- what a field of the kind makes up
abbrev pub ValueOf : Kind → Type 0
ValueOf octet = ℕ
ValueOf (octets n) = List ℕ
ValueOf number = ℕ
ValueOf (head kind) = ℕ
ValueOf unsigned_or_text = UnsignedOrText

-- a head of one of two kinds, which the value names
abbrev pub SpellsLead : List ℕ → UnsignedOrText → Type 0
SpellsLead w (leads.Unsigned n) = SpellsHead 0 w n
SpellsLead w (leads.Text n) = SpellsHead 3 w n

-- the octets w spell the value x
abbrev pub SpellsKind : (k : Kind) → List ℕ → ValueOf k → Type 0
SpellsKind octet w x = w ≡ x ∷ []
SpellsKind (octets n) w x = (w ≡ x) × (length w ≡ n)
SpellsKind number w x = sdnv.Spells w x
SpellsKind (head kind) w x = SpellsHead kind w x
SpellsKind unsigned_or_text w x = SpellsLead w x

-- the input, of which w is left, ends inside a field of the kind
abbrev pub EndsInside : Kind → List ℕ → Type 0
EndsInside octet w = w ≡ []
EndsInside (octets n) w = length w < n
EndsInside number w = IsShort w
EndsInside (head kind) w = EndsInsideHead kind w
EndsInside unsigned_or_text w = EndsInsideHead 0 w ⊎ EndsInsideHead 3 w
