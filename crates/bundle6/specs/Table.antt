-- The table of a version 6 bundle (RFC 5050, sections 4.5 and 4.6): its fields in order, each with the
-- cause where it isn't there, and its conditions.

use Rattle.std.specs.Prelude.{ℕ, ◌+◌, ◌-◌, ◌==◌, nat_lt, nat_le, Bool, true, ◌&&◌, ◌||◌, not}
use Rattle.std.specs.Prelude.{List, [], ◌∷◌, ◌++◌, Option, Some, None}
use Rattle.std.specs.List.{list_any, count_by}
use Rattle.endpoint.specs.declared.name.Endpoint.{Endpoint}
use Rattle.endpoint.specs.declared.extent.Fragment.{Fragment}
use Rattle.wire_fields.specs.Format.{Format, give, place, such_that, ◌>>=◌}
use Rattle.wire_fields.specs.Words.{needs, ◌also◌, any_octet, any_octets, any_number, exact_octet, test, choice, optional, listed, until}
use Rattle.bundle6.specs.declared.fault.Cause6.{Cause6}
use Rattle.bundle6.specs.declared.fault.Cause6.TheVariants.{Version, Number, Names, PrimaryEnd, SecondPayload, TooManyBlocks, NoPayload, BlockRefs, FragmentRange, Truncated}
use Rattle.bundle6.specs.declared.names.Offsets.{Offsets}
use Rattle.bundle6.specs.declared.names.Pairs.{Pairs}
use Rattle.bundle6.specs.declared.names.Named.{Named}
use Rattle.bundle6.specs.declared.primary.Primary6.{Primary6}
use Rattle.bundle6.specs.declared.block.Block6.{Block6}
use Rattle.bundle6.specs.declared.bundle.Bundle6.{Bundle6}
use Rattle.bundle6.specs.Bits.{has_bit, without}
use Rattle.bundle6.specs.Names.{resolves, name_of, all_resolve, names_of}

-- ---- the primary block

-- a name: scheme offset and SSP offset
unfoldable pub offsets : Format Cause6 Offsets
offsets = do
  scheme ← any_number Number
  ssp ← any_number Number
  give (record { scheme = scheme; ssp = ssp })

unfoldable pub four_names : Format Cause6 Pairs
four_names = do
  destination ← offsets
  source ← offsets
  report_to ← offsets
  custodian ← offsets
  give (record { destination = destination; source = source; report_to = report_to; custodian = custodian })

-- the dictionary's length and its octets, in which the four names resolve
unfoldable pub dictionary : Pairs → Format Cause6 (Named × List ℕ)
dictionary pairs = do
  size ← any_number Number
  texts ← such_that (any_octets size Truncated) (λ texts. needs (all_resolve texts pairs) Names)
  give (names_of texts pairs, texts)

unfoldable pub fragment : Format Cause6 Fragment
fragment = do
  offset ← any_number Number
  total ← any_number Number
  give (record { offset = offset; total = total })

-- the primary block's value, and the dictionary
unfoldable pub primary : Format Cause6 (Primary6 × List ℕ)
primary = do
  version ← exact_octet 6 Version
  flags ← any_number Number
  size ← any_number Number
  start ← place
  pairs ← four_names
  seconds ← any_number Number
  sequence ← any_number Number
  lifetime ← any_number Number
  names ← dictionary pairs
  part ← optional (has_bit 0 flags) fragment
  end ← place
  ended ← test (end - start == size) PrimaryEnd
  give (
    record {
      flags = flags;
      destination = names.0.destination;
      source = names.0.source;
      report_to = names.0.report_to;
      custodian = names.0.custodian;
      seconds = seconds;
      sequence = sequence;
      lifetime = lifetime;
      fragment = part;
    },
    names.1,
  )

-- ---- blocks

abbrev pub is_payload : Block6 → Bool
is_payload block = block.kind == 1

-- a payload block is among them
abbrev pub has_payload : List Block6 → Bool
has_payload blocks = list_any is_payload blocks

-- how many of another type are among them
abbrev pub others : List Block6 → ℕ
others blocks = count_by (λ block. not (is_payload block)) blocks

-- the type: no second payload, and at most so many of another type; an octet is missing only where the
-- input ends, so its own cause never comes
abbrev pub kind_field : ℕ → Bool → ℕ → Format Cause6 ℕ
kind_field most paid before = such_that (any_octet Number) (λ kind.
    needs (not (kind == 1 && paid)) SecondPayload
    also needs (kind == 1 || nat_lt before most) TooManyBlocks)

-- the flags: the last block isn't one before the payload
abbrev pub flags_field : Bool → Format Cause6 ℕ
flags_field may_end =
    such_that (any_number Number) (λ flags. needs (not (has_bit 3 flags) || may_end) NoPayload)

-- a reference: scheme offset and SSP offset, which resolve
unfoldable pub name : List ℕ → Format Cause6 Endpoint
name dictionary = do
  scheme ← any_number Number
  ssp ← such_that (any_number Number) (λ ssp.
      needs (resolves dictionary (record { scheme = scheme; ssp = ssp })) BlockRefs)
  give (name_of dictionary (record { scheme = scheme; ssp = ssp }))

abbrev pub count_field : Bool → Format Cause6 ℕ
count_field present = choice present (any_number Number) (give 0)

-- the references, where the flags say that there are some: how many, and each
unfoldable pub references : Bool → List ℕ → Format Cause6 (List Endpoint)
references present dictionary = do
  count ← count_field present
  listed count (λ earlier. name dictionary)

-- so many octets lie within the whole of which this is a fragment; only a payload is cut
abbrev pub is_within : Option Fragment → Bool → ℕ → Bool
is_within None payload size = true
is_within (Some part) payload size = not payload || nat_le (part.offset + size) part.total

abbrev pub size_field : Option Fragment → Bool → Format Cause6 ℕ
size_field part payload = such_that (any_number Number) (λ size. needs (is_within part payload size) FragmentRange)

-- A block, and whether it is marked as the last. After others: whether the payload is among them, and
-- how many of another type are. Of octets nothing can be wrong but that the input ends.
unfoldable pub block : ℕ → Option Fragment → List ℕ → Bool → ℕ → Format Cause6 (Block6 × Bool)
block most part dictionary paid before = do
  kind ← kind_field most paid before
  flags ← flags_field (kind == 1 || paid)
  refs ← references (has_bit 6 flags) dictionary
  size ← size_field part (kind == 1)
  body ← any_octets size Truncated
  give (record { kind = kind; flags = without 3 (without 6 flags); refs = refs; body = body }, has_bit 3 flags)

-- one block more, after the earlier ones
unfoldable pub next_block : ℕ → Option Fragment → List ℕ → ℕ → List Block6 → Format Cause6 (List Block6 × Bool)
next_block most part dictionary left earlier = do
  next ← block most part dictionary (has_payload earlier) (others earlier)
  give (earlier ++ next.0 ∷ [], next.1)

-- ---- the bundle

-- The primary block, and blocks until the one that is marked as the last: at most so many of another
-- type than the payload, and the payload. After as many as that any block is refused by its type, so
-- the list never ends but with the last block.
unfoldable pub bundle : ℕ → Format Cause6 Bundle6
bundle most = do
  main ← primary
  blocks ← until (most + 1) (next_block most main.0.fragment main.1) []
  give (record { primary = main.0; blocks = blocks })
