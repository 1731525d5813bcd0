-- The one spelling of each value: the octets of an endpoint, of a block and of a bundle.
use Rattle.std.specs.Prelude.{ℕ, ◌+◌, ◌==◌, if◌then◌else◌, List, [], ◌∷◌, ◌++◌, Option, Some, None}
use Rattle.cbor_lite.specs.Head.{head}
use Rattle.cbor_lite.specs.Item.{string}
use Rattle.endpoint.specs.declared.name.Endpoint.{Endpoint}
use Rattle.endpoint.specs.declared.name.Endpoint.TheVariants.{Null, Ipn, Dtn}
use Rattle.endpoint.specs.declared.extent.Fragment.{Fragment}
use Rattle.bundle7.specs.declared.primary.Primary7.{Primary7}
use Rattle.bundle7.specs.declared.block.Block7.{Block7}
use Rattle.bundle7.specs.declared.bundle.Bundle7.{Bundle7}
use Rattle.bundle7.specs.Check.{check16, check32}
use Rattle.bundle7.specs.Table.{is_fragment, fragment_items, check_items}

-- an endpoint: an array of its scheme's number and of what the scheme has
abbrev pub eid_octets : Endpoint → List ℕ
eid_octets Null = head 4 2 ++ (head 0 1 ++ head 0 0)
eid_octets (Ipn node service) = head 4 2 ++ (head 0 2 ++ (head 4 2 ++ (head 0 node ++ head 0 service)))
eid_octets (Dtn ssp) = head 4 2 ++ (head 0 1 ++ string 3 ssp)

-- a check of so many octets, after the octets of a block
abbrev pub check_octets : ℕ → (List ℕ → List ℕ) → List ℕ → List ℕ
check_octets n check block = head 2 n ++ check (block ++ head 2 n)

-- the same by the type of the check
unfoldable pub crc_octets : ℕ → List ℕ → List ℕ
crc_octets crc block =
    if crc == 0 then []
    else if crc == 1 then check_octets 2 check16 block
    else check_octets 4 check32 block

-- a block with its check
unfoldable pub with_check : ℕ → List ℕ → List ℕ
with_check crc block = block ++ crc_octets crc block

-- the two numbers of a fragment
abbrev pub part_octets : Option Fragment → List ℕ
part_octets None = []
part_octets (Some part) = head 0 part.offset ++ head 0 part.total

-- the parts of the primary block
abbrev pub opening_octets : ℕ → ℕ → List ℕ
opening_octets flags crc =
    head 4 (8 + fragment_items (is_fragment flags) + check_items crc)
    ++ (head 0 7 ++ (head 0 flags ++ head 0 crc))

abbrev pub names_octets : Endpoint → Endpoint → Endpoint → List ℕ
names_octets destination source report_to =
    eid_octets destination ++ (eid_octets source ++ eid_octets report_to)

abbrev pub creation_octets : ℕ → ℕ → List ℕ
creation_octets millis sequence = head 4 2 ++ (head 0 millis ++ head 0 sequence)

-- the primary block without its check
unfoldable pub main_octets : Primary7 → List ℕ
main_octets p =
    opening_octets p.flags p.crc
    ++ (names_octets p.destination p.source p.report_to
    ++ (creation_octets p.millis p.sequence ++ (head 0 p.lifetime ++ part_octets p.fragment)))

-- another block without its check
unfoldable pub bare_octets : Block7 → List ℕ
bare_octets b =
    head 4 (5 + check_items b.crc)
    ++ (head 0 b.kind ++ (head 0 b.number ++ (head 0 b.flags ++ (head 0 b.crc ++ string 2 b.body))))

abbrev pub primary_octets : Primary7 → List ℕ
primary_octets p = with_check p.crc (main_octets p)

abbrev pub block_octets : Block7 → List ℕ
block_octets b = with_check b.crc (bare_octets b)

unfoldable pub blocks_octets : List Block7 → List ℕ
blocks_octets [] = []
blocks_octets (b ∷ more) = block_octets b ++ blocks_octets more

-- a bundle: the mark that opens the outer array, its blocks, and the mark that ends it
unfoldable pub octets7 : Bundle7 → List ℕ
octets7 b =
    0x9F ∷ (primary_octets b.primary ++ (blocks_octets b.exts ++ (block_octets b.payload ++ 0xFF ∷ [])))
