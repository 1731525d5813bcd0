-- The table of a version 7 bundle (RFC 9171, sections 4.1 to 4.4): its fields in order, each with the
-- cause where it isn't there, and its conditions.
use Rattle.std.specs.Prelude.{ℕ, zero, suc, ◌+◌, ◌%◌, ◌==◌, nat_lt, nat_le, Bool, true, ◌&&◌, ◌||◌, not, if◌then◌else◌}
use Rattle.std.specs.Prelude.{List, [], ◌∷◌, ◌++◌, map, Option, Some, None}
use Rattle.std.specs.List.{list_any}
use Rattle.endpoint.specs.declared.extent.Fragment.{Fragment}
use Rattle.endpoint.specs.declared.name.Endpoint.{Endpoint}
use Rattle.wire_fields.specs.Format.{Format, give, place, such_that, ◌>>=◌}
use Rattle.wire_fields.specs.Words.{needs, ◌also◌, any_octets, any_unsigned, any_byte_string, any_array, exact_octet, exact_unsigned, exact_array, choice, optional}
use Rattle.bundle7.specs.declared.fault.Cause7.{Cause7}
use Rattle.bundle7.specs.declared.fault.Cause7.TheVariants.{Start, Head, Version, Number, CrcType, ItemCount, Timestamp, BlockHead, TooManyBlocks, Repeated, BlockNumber, Body, FragmentRange, ExtensionBody, Break}
use Rattle.bundle7.specs.declared.primary.Primary7.{Primary7}
use Rattle.bundle7.specs.declared.block.Block7.{Block7}
use Rattle.bundle7.specs.declared.bundle.Bundle7.{Bundle7}
use Rattle.bundle7.specs.declared.primary.Opening.{Opening}
use Rattle.bundle7.specs.declared.primary.Creation.{Creation}
use Rattle.bundle7.specs.declared.block.Lead.{Lead}
use Rattle.bundle7.specs.declared.seen.Seen.{Seen}
use Rattle.bundle7.specs.Eid.{eid}
use Rattle.bundle7.specs.Body.{previous_node, bundle_age, hop_count, is_body}
use Rattle.bundle7.specs.Check.{crc_field}

-- ---- the primary block

-- flag bit 0: the bundle is a fragment
abbrev pub is_fragment : ℕ → Bool
is_fragment flags = flags % 2 == 1

-- how many items a fragment and a check of a type add to a block's array
abbrev pub fragment_items : Bool → ℕ
fragment_items fragment = if fragment then 2 else 0

abbrev pub check_items : ℕ → ℕ
check_items crc = if crc == 0 then 0 else 1

-- the array's head
abbrev pub main_items : Format Cause7 ℕ
main_items = such_that (any_array Head) (λ n. needs (nat_le 8 n && nat_le n 11) Head)

-- the type of a check, in an array of so many items that should have so many without it
abbrev pub crc_type_field : ℕ → ℕ → Format Cause7 ℕ
crc_type_field items bare = such_that (any_unsigned CrcType) (λ crc.
    needs (nat_lt crc 3) CrcType also needs (items == bare + check_items crc) ItemCount)

unfoldable pub opening : Format Cause7 Opening
opening = do
  items ← main_items
  version ← exact_unsigned 7 Version
  flags ← any_unsigned Number
  crc ← crc_type_field items (8 + fragment_items (is_fragment flags))
  give (record { flags = flags; crc = crc })

-- the three endpoints of the primary block
pub record Names : Type 0 where
  pub destination : Endpoint
  pub source : Endpoint
  pub report_to : Endpoint

unfoldable pub names : Format Cause7 Names
names = do
  destination ← eid
  source ← eid
  report_to ← eid
  give (record { destination = destination; source = source; report_to = report_to })

unfoldable pub creation : Format Cause7 Creation
creation = do
  items ← exact_array 2 Timestamp
  millis ← any_unsigned Number
  sequence ← any_unsigned Number
  give (record { millis = millis; sequence = sequence })

unfoldable pub fragment : Format Cause7 Fragment
fragment = do
  offset ← any_unsigned Number
  total ← any_unsigned Number
  give (record { offset = offset; total = total })

unfoldable pub primary : Format Cause7 Primary7
primary = do
  start ← place
  head ← opening
  who ← names
  made ← creation
  lifetime ← any_unsigned Number
  part ← optional (is_fragment head.flags) fragment
  check ← crc_field head.crc start
  give (record {
    flags = head.flags;
    crc = head.crc;
    destination = who.destination;
    source = who.source;
    report_to = who.report_to;
    millis = made.millis;
    sequence = made.sequence;
    lifetime = lifetime;
    fragment = part;
  })

-- ---- blocks

-- types of which a bundle has at most one block
abbrev pub is_single : ℕ → Bool
is_single kind = kind == previous_node || kind == bundle_age || kind == hop_count

-- what later blocks ask of the earlier ones: their types and their numbers
abbrev pub seen_of : List Block7 → Seen
seen_of blocks = record {
  kinds = map (λ (block : Block7). block.kind) blocks;
  numbers = map (λ (block : Block7). block.number) blocks;
}

-- a number is among others
abbrev pub has : ℕ → List ℕ → Bool
has number numbers = list_any (λ other. other == number) numbers

abbrev pub block_items : Format Cause7 ℕ
block_items = such_that (any_array BlockHead) (λ n. needs (n == 5 || n == 6) BlockHead)

-- the type, where so many extension blocks may still stand here
abbrev pub kind_field : ℕ → Seen → Format Cause7 ℕ
kind_field left earlier = such_that (any_unsigned Number) (λ kind.
    needs (kind == 1 || not (left == 0)) TooManyBlocks
    also needs (not (is_single kind && has kind earlier.kinds)) Repeated)

-- a number that a block of the type may have after the earlier ones
abbrev pub is_number : ℕ → Seen → ℕ → Bool
is_number kind earlier n =
    if kind == 1 then n == 1 else nat_le 2 n && not (has n earlier.numbers)

abbrev pub number_field : ℕ → Seen → Format Cause7 ℕ
number_field kind earlier = such_that (any_unsigned Number) (λ n. needs (is_number kind earlier n) BlockNumber)

unfoldable pub lead : ℕ → Seen → Format Cause7 Lead
lead left earlier = do
  items ← block_items
  kind ← kind_field left earlier
  number ← number_field kind earlier
  flags ← any_unsigned Number
  crc ← crc_type_field items 5
  give (record { kind = kind; number = number; flags = flags; crc = crc })

-- so many octets lie within the whole of which this is a fragment; only the payload is cut
abbrev pub is_within : Option Fragment → ℕ → ℕ → Bool
is_within None kind size = true
is_within (Some part) kind size = not (kind == 1) || nat_le (part.offset + size) part.total

abbrev pub size_field : Option Fragment → ℕ → Format Cause7 ℕ
size_field part kind = such_that (any_byte_string Body) (λ size. needs (is_within part kind size) FragmentRange)

abbrev pub body_field : ℕ → ℕ → Format Cause7 (List ℕ)
body_field kind size = such_that (any_octets size Body) (λ octets. needs (is_body kind octets) ExtensionBody)

unfoldable pub block : Option Fragment → ℕ → Seen → Format Cause7 Block7
block part left earlier = do
  start ← place
  front ← lead left earlier
  size ← size_field part front.kind
  body ← body_field front.kind size
  check ← crc_field front.crc start
  give (record { kind = front.kind; number = front.number; flags = front.flags; crc = front.crc; body = body })

-- Extension blocks and the payload block, which ends them; after the earlier ones at most so many
-- extension blocks may follow.
unfoldable pub blocks : Option Fragment → ℕ → List Block7 → Format Cause7 (List Block7 × Block7)
blocks part zero earlier = block part 0 (seen_of earlier) >>= (λ b. give (earlier, b))
blocks part (suc left) earlier =
    block part (suc left) (seen_of earlier) >>= (λ b.
    choice (b.kind == 1) (give (earlier, b)) (blocks part left (earlier ++ b ∷ [])))

-- ---- the bundle

-- The mark that opens the outer array, the primary block, the others, of which at most so many are
-- extension blocks, and the mark that ends the array.
unfoldable pub bundle : ℕ → Format Cause7 Bundle7
bundle most = do
  start ← exact_octet 0x9F Start
  main ← primary
  all ← blocks main.fragment most []
  end ← exact_octet 0xFF Break
  give (record { primary = main; exts = all.0; payload = all.1 })
