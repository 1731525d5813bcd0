-- A bundle as JSON: an object, whose keys stand in alphabetical order.
use Rattle.std.specs.Prelude.{ℕ, List, [], ◌∷◌, ◌++◌, map, codes, Option, Some, None}
use Rattle.hex_text.specs.Hex.{encode_lower}
use Rattle.serde_json.specs.Data.{Data, null, number, string, array, object, unsigned, no_items, item, Members, no_members, member}
use Rattle.serde_json.specs.View.{items_of}
use Rattle.endpoint.specs.declared.name.Endpoint.{Endpoint}
use Rattle.endpoint.specs.declared.extent.Fragment.{Fragment}
use Rattle.endpoint.specs.Endpoints.{text_of}
use Rattle.bundle6.specs.declared.block.Block6.{Block6}
use Rattle.bundle6.specs.declared.bundle.Bundle6.{Bundle6}
use Rattle.bundle6.specs.declared.primary.Primary6.{Primary6}
use Rattle.bundle7.specs.declared.block.Block7.{Block7}
use Rattle.bundle7.specs.declared.bundle.Bundle7.{Bundle7}
use Rattle.bundle7.specs.declared.primary.Primary7.{Primary7}

-- ---- the values

abbrev pub count : ℕ → Data
count n = number (unsigned n)

abbrev pub two : ℕ → ℕ → Data
two first second = array (item (count first) (item (count second) no_items))

abbrev pub list_of : {A : Type 0} → (A → Data) → List A → Data
list_of data_of xs = array (items_of (map data_of xs))

-- an object with these keys
abbrev pub keys_of : List (List ℕ × Data) → Members
keys_of [] = no_members
keys_of (entry ∷ entries) = member entry.0 entry.1 (keys_of entries)

-- an endpoint is its text
abbrev pub name : Endpoint → Data
name endpoint = string (text_of endpoint)

-- octets are hex in lower case
abbrev pub body : List ℕ → Data
body octets = string (encode_lower octets)

-- a fragment is its offset and the total
abbrev pub part : Option Fragment → Data
part None = null
part (Some fragment) = two fragment.offset fragment.total

-- ---- version 6

unfoldable pub block6 : Block6 → Data
block6 block = object (keys_of (
    (codes "body", body block.body)
    ∷ (codes "flags", count block.flags)
    ∷ (codes "kind", count block.kind)
    ∷ (codes "refs", list_of name block.refs)
    ∷ []))

-- what an object ends with in both versions
abbrev pub ending : (destination report_to source : Endpoint) (flags lifetime : ℕ) → Option Fragment → ℕ → List (List ℕ × Data)
ending destination report_to source flags lifetime fragment version =
    (codes "destination", name destination)
    ∷ (codes "flags", count flags)
    ∷ (codes "fragment", part fragment)
    ∷ (codes "lifetime", count lifetime)
    ∷ (codes "report_to", name report_to)
    ∷ (codes "source", name source)
    ∷ (codes "version", count version)
    ∷ []

-- the members after the blocks
abbrev pub fields6 : Primary6 → List (List ℕ × Data)
fields6 primary =
    (codes "creation", two primary.seconds primary.sequence)
    ∷ (codes "custodian", name primary.custodian)
    ∷ ending primary.destination primary.report_to primary.source primary.flags primary.lifetime primary.fragment 6

unfoldable pub bundle6 : Bundle6 → Data
bundle6 bundle = object (keys_of ((codes "blocks", list_of block6 bundle.blocks) ∷ fields6 bundle.primary))

-- ---- version 7

unfoldable pub block7 : Block7 → Data
block7 block = object (keys_of (
    (codes "body", body block.body)
    ∷ (codes "crc", count block.crc)
    ∷ (codes "flags", count block.flags)
    ∷ (codes "kind", count block.kind)
    ∷ (codes "number", count block.number)
    ∷ []))

-- the members after the blocks
abbrev pub fields7 : Primary7 → List (List ℕ × Data)
fields7 primary =
    (codes "crc", count primary.crc)
    ∷ (codes "creation", two primary.millis primary.sequence)
    ∷ ending primary.destination primary.report_to primary.source primary.flags primary.lifetime primary.fragment 7

-- the payload is the last of the blocks
unfoldable pub bundle7 : Bundle7 → Data
bundle7 bundle = object (keys_of (
    (codes "blocks", list_of block7 (bundle.exts ++ bundle.payload ∷ []))
    ∷ fields7 bundle.primary))
