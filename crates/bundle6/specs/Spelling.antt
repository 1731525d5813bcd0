-- The canonical spelling of a bundle: numbers as short as can be, and the dictionary as small as can be.

use Rattle.std.specs.Prelude.{ℕ, ◌+◌, ◌^◌, ◌<◌, ◌==◌, Bool, true, false, ◌&&◌, not, if◌then◌else◌}
use Rattle.std.specs.Prelude.{List, [], ◌∷◌, ◌++◌, length, Option, Some, None}
use Rattle.std.specs.List.{flat_map, list_all, list_any}
use Rattle.std.specs.Str.{bytes_eq}
use Rattle.sdnv.specs.Shortest.{spelling}
use Rattle.endpoint.specs.declared.name.Endpoint.{Endpoint}
use Rattle.endpoint.specs.declared.name.Endpoint.TheVariants.{Null, Ipn, Dtn}
use Rattle.endpoint.specs.declared.extent.Fragment.{Fragment}
use Rattle.endpoint.specs.Endpoints.{scheme_of, ssp_of}
use Rattle.bundle6.specs.declared.names.Offsets.{Offsets}
use Rattle.bundle6.specs.declared.primary.Primary6.{Primary6}
use Rattle.bundle6.specs.declared.block.Block6.{Block6}
use Rattle.bundle6.specs.declared.bundle.Bundle6.{Bundle6}

-- ---- the dictionary

-- the endpoints of a bundle, in the order in which they are spelled
abbrev pub endpoints_of : Bundle6 → List Endpoint
endpoints_of b =
    b.primary.destination ∷ b.primary.source ∷ b.primary.report_to ∷ b.primary.custodian
    ∷ flat_map (λ block. block.refs) b.blocks

-- an endpoint that two numbers spell, without a dictionary
abbrev pub is_numbered : Endpoint → Bool
is_numbered Null = true
is_numbered (Ipn node service) = not (node == 0 && service == 0)
is_numbered (Dtn ssp) = false

-- the text is among the texts
abbrev pub has_text : List (List ℕ) → List ℕ → Bool
has_text texts text = list_any (bytes_eq text) texts

-- the text after the others, unless it is among them
abbrev pub with_text : List (List ℕ) → List ℕ → List (List ℕ)
with_text texts text = if has_text texts text then texts else texts ++ text ∷ []

-- an endpoint's scheme and scheme-specific part after the others, each unless it is among them
abbrev pub with_name : List (List ℕ) → Endpoint → List (List ℕ)
with_name texts endpoint = with_text (with_text texts (scheme_of endpoint)) (ssp_of endpoint)

-- the texts of these endpoints after the others: each once, in the order of first use
unfoldable pub with_names : List (List ℕ) → List Endpoint → List (List ℕ)
with_names texts [] = texts
with_names texts (endpoint ∷ more) = with_names (with_name texts endpoint) more

-- the texts of a bundle's dictionary: none, where two numbers spell each endpoint
unfoldable pub texts_of : Bundle6 → List (List ℕ)
texts_of b = if list_all is_numbered (endpoints_of b) then [] else with_names [] (endpoints_of b)

-- a dictionary's octets: each text ends with a NUL
unfoldable pub dictionary_of : List (List ℕ) → List ℕ
dictionary_of texts = flat_map (λ text. text ++ 0 ∷ []) texts

-- where a text stands in it
unfoldable pub offset_of : List (List ℕ) → List ℕ → ℕ
offset_of [] text = 0
offset_of (first ∷ more) text = if bytes_eq text first then 0 else length first + 1 + offset_of more text

-- the two numbers of an endpoint without a dictionary
abbrev pub numbers_of : Endpoint → Offsets
numbers_of Null = record { scheme = 0; ssp = 0 }
numbers_of (Ipn node service) = record { scheme = node; ssp = service }
numbers_of (Dtn ssp) = record { scheme = 0; ssp = 0 }

-- the two numbers of an endpoint in a dictionary
abbrev pub places_of : List (List ℕ) → Endpoint → Offsets
places_of texts endpoint = record {
  scheme = offset_of texts (scheme_of endpoint);
  ssp = offset_of texts (ssp_of endpoint);
}

unfoldable pub offsets_of : List (List ℕ) → Endpoint → Offsets
offsets_of texts endpoint = if length texts == 0 then numbers_of endpoint else places_of texts endpoint

-- ---- the octets

abbrev pub pair_octets : Offsets → List ℕ
pair_octets pair = spelling pair.scheme ++ spelling pair.ssp

abbrev pub name_octets : List (List ℕ) → Endpoint → List ℕ
name_octets texts endpoint = pair_octets (offsets_of texts endpoint)

abbrev pub part_octets : Option Fragment → List ℕ
part_octets None = []
part_octets (Some part) = spelling part.offset ++ spelling part.total

abbrev pub names_octets : List (List ℕ) → Primary6 → List ℕ
names_octets texts primary =
    name_octets texts primary.destination ++ (name_octets texts primary.source
    ++ (name_octets texts primary.report_to ++ name_octets texts primary.custodian))

abbrev pub dictionary_octets : List (List ℕ) → List ℕ
dictionary_octets texts = spelling (length (dictionary_of texts)) ++ dictionary_of texts

-- what stands after the primary block's length field
unfoldable pub rest_octets : List (List ℕ) → Primary6 → List ℕ
rest_octets texts primary =
    names_octets texts primary
    ++ (spelling primary.seconds ++ (spelling primary.sequence ++ (spelling primary.lifetime
    ++ (dictionary_octets texts ++ part_octets primary.fragment))))

unfoldable pub primary_octets : List (List ℕ) → Primary6 → List ℕ
primary_octets texts primary =
    6 ∷ (spelling primary.flags ++ (spelling (length (rest_octets texts primary)) ++ rest_octets texts primary))

-- the flags with bit 3 on the last block, and bit 6 if and only if there are references
abbrev pub marked : Bool → Block6 → ℕ
marked last block =
    block.flags + (if last then 8 else 0) + (if length block.refs == 0 then 0 else 64)

abbrev pub refs_octets : List (List ℕ) → List Endpoint → List ℕ
refs_octets texts [] = []
refs_octets texts (first ∷ more) =
    spelling (length (first ∷ more)) ++ flat_map (name_octets texts) (first ∷ more)

unfoldable pub block_octets : List (List ℕ) → Bool → Block6 → List ℕ
block_octets texts last block =
    block.kind ∷ (spelling (marked last block) ++ (refs_octets texts block.refs
    ++ (spelling (length block.body) ++ block.body)))

unfoldable pub blocks_octets : List (List ℕ) → List Block6 → List ℕ
blocks_octets texts [] = []
blocks_octets texts (block ∷ more) =
    block_octets texts (length more == 0) block ++ blocks_octets texts more

-- the canonical spelling
unfoldable pub canon6 : Bundle6 → List ℕ
canon6 b = primary_octets (texts_of b) b.primary ++ blocks_octets (texts_of b) b.blocks

-- a number says how long the primary block is
abbrev pub IsCounted : Bundle6 → Type 0
IsCounted b = length (rest_octets (texts_of b) b.primary) < 2 ^ 64
