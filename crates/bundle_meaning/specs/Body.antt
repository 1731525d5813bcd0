-- Bodies of the gateway's private blocks (own): the fields that stand in them, and what reading says.
-- All numbers are as short as can be, and nothing follows the last field.

use Rattle.std.specs.Prelude.{◌≡◌, ℕ, ◌-◌, ◌==◌, nat_lt, Bool, List, [], ◌++◌, length, Option, Some, unwrap_or, Result, Ok, Err, is_ok, IsOk, IsErr}
use Rattle.std.specs.List.{flat_map}
use Rattle.std.specs.Result.{result_ok}
use Rattle.std.specs.Str.{bytes_eq}
use Rattle.sdnv.specs.Shortest.{spelling}
use Rattle.endpoint.specs.declared.name.Endpoint.{Endpoint}
use Rattle.endpoint.specs.declared.name.Endpoint.TheVariants.{Null}
use Rattle.endpoint.specs.Endpoints.{text_of}
use Rattle.endpoint.specs.Reading.{read_text}
use Rattle.wire_fields.specs.Format.{Format, Spells, give, place, such_that, ◌>>=◌}
use Rattle.wire_fields.specs.Refusal.{Stop, truncated, because}
use Rattle.wire_fields.specs.Words.{needs, any_octets, any_number, test}
use Rattle.wire_fields.specs.Whole.{read_whole}
use Rattle.wire_fields.specs.declared.miss.Miss.{Miss}
use Rattle.wire_fields.specs.declared.miss.Miss.TheVariants as misses
use Rattle.bundle_meaning.specs.declared.fault.BlockFault.{BlockFault}
use Rattle.bundle_meaning.specs.declared.fault.BlockFault.TheVariants.{Bad, Memory}
use Rattle.bundle_meaning.specs.declared.field.Unfit.{Unfit}
use Rattle.bundle_meaning.specs.Bits.{is_within, is_without}
use Rattle.bundle_meaning.specs.Blocks.{mark}

-- ---- fields

-- the mark, with which each body begins
abbrev pub the_mark : Format BlockFault (List ℕ)
the_mark = such_that (any_octets 4 Bad) (λ octets. needs (bytes_eq octets mark) Bad)

-- a number in as few octets as can be
unfoldable pub shortest : Format BlockFault ℕ
shortest = do
  start ← place
  number ← any_number Bad
  end ← place
  short ← test (end - start == length (spelling number)) Bad
  give number

abbrev pub below : ℕ → Format BlockFault ℕ
below limit = such_that shortest (λ number. needs (nat_lt number limit) Bad)

-- flags, none of which but those of the mask is set
abbrev pub flags_within : ℕ → Format BlockFault ℕ
flags_within mask = such_that shortest (λ flags. needs (is_within mask flags) Bad)

-- flags, none of which is one of the mask
abbrev pub flags_without : ℕ → Format BlockFault ℕ
flags_without mask = such_that shortest (λ flags. needs (is_without mask flags) Bad)

-- the text is an endpoint's
abbrev pub is_name : List ℕ → Bool
is_name text = is_ok (read_text text)

-- the endpoint of a text, where it is one
abbrev pub name_of : List ℕ → Endpoint
name_of text = unwrap_or (result_ok (read_text text)) Null

abbrev pub name_text : ℕ → Format BlockFault (List ℕ)
name_text size = such_that (any_octets size Bad) (λ text. needs (is_name text) Bad)

-- an endpoint: the length of its text, and the text
unfoldable pub name : Format BlockFault Endpoint
name = do
  size ← shortest
  text ← name_text size
  give (name_of text)

-- all octets that are left, in a body of so many
unfoldable pub all_left : ℕ → Format BlockFault (List ℕ)
all_left size = do
  at ← place
  any_octets (size - at) Bad

-- ---- octets

-- numbers in as few octets as can be
abbrev pub numbers_octets : List ℕ → List ℕ
numbers_octets numbers = flat_map spelling numbers

abbrev pub name_octets : Endpoint → List ℕ
name_octets endpoint = spelling (length (text_of endpoint)) ++ text_of endpoint

-- what a writer promises: these octets, that they spell the value by the table of its fields, and that
-- they are read back as it
pub record IsWritten {A : Type 0} (f : Format BlockFault A) (value : A) (made octets : List ℕ) : Type 0 where
  pub is : octets ≡ made
  pub spells : Spells f [] octets value
  pub again : read_whole f Bad octets ≡ Ok value

-- ---- reading

-- no value is spelled by the octets
abbrev pub SpellsNone : {A : Type 0} → Format BlockFault A → List ℕ → Type 0
SpellsNone {A} f octets = (value : A) → Spells f [] octets value → ⊥

-- what a reader of a whole body returned is what its table gives, and memory runs out only where that
-- is a value
abbrev pub GivesBody : {A : Type 0} → Result A BlockFault → Result A (ℕ × Stop BlockFault) → Type 0
GivesBody (Ok value) given = given ≡ Ok value
GivesBody (Err Bad) given = IsErr given
GivesBody (Err Memory) given = IsOk given

-- what was lent out of a whole body, its value seen by view, is what its table gives; no memory is taken
abbrev pub LendsBody : {X A : Type 0} → (X → A) → Result X BlockFault → Result A (ℕ × Stop BlockFault) → Type 0
LendsBody view (Ok lent) given = given ≡ Ok (view lent)
LendsBody view (Err Bad) given = IsErr given
LendsBody view (Err Memory) given = ⊥

-- where and why a field isn't there
abbrev pub why : Miss → Stop BlockFault
why misses.Truncated = truncated
why misses.Absent = because Bad

abbrev pub refusal : Unfit → Option (ℕ × Stop BlockFault)
refusal unfit = Some (unfit.at, why unfit.miss)
