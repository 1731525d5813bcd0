-- The table of a bundle without its values: it keeps what later fields look at. It is read to the same
-- places as the table, and refused alike.

use Rattle.std.specs.Prelude.{ℕ, ◌+◌, ◌-◌, ◌==◌, Bool, false, ◌||◌, List, Option, is_some}
use Rattle.endpoint.specs.declared.extent.Fragment.{Fragment}
use Rattle.endpoint.specs.Reading.{named}
use Rattle.wire_fields.specs.Format.{Format, give, place, such_that, ◌>>=◌}
use Rattle.wire_fields.specs.Words.{needs, any_octets, any_number, exact_octet, test, optional, repeated, until}
use Rattle.bundle6.specs.declared.fault.Cause6.{Cause6}
use Rattle.bundle6.specs.declared.fault.Cause6.TheVariants.{Version, Number, Names, PrimaryEnd, BlockRefs, Truncated}
use Rattle.bundle6.specs.declared.names.Pairs.{Pairs}
use Rattle.bundle6.specs.declared.block.Seen.{Seen}
use Rattle.bundle6.specs.declared.pass.Head.{Head}
use Rattle.bundle6.specs.Bits.{has_bit}
use Rattle.bundle6.specs.Names.{resolves, all_resolve}
use Rattle.bundle6.specs.Seen.{seen_with}
use Rattle.bundle6.specs.Table.{four_names, fragment, kind_field, flags_field, count_field, size_field}

-- two texts name an endpoint
abbrev pub is_named : List ℕ → List ℕ → Bool
is_named scheme ssp = is_some (named scheme ssp)

-- ---- the primary block

-- of the dictionary its octets
unfoldable pub judged_dictionary : Pairs → Format Cause6 (List ℕ)
judged_dictionary pairs = do
  size ← any_number Number
  texts ← such_that (any_octets size Truncated) (λ texts. needs (all_resolve texts pairs) Names)
  give texts

-- where the payload lies in the whole, and the dictionary
unfoldable pub judged_primary : Format Cause6 (Option Fragment × List ℕ)
judged_primary = do
  version ← exact_octet 6 Version
  flags ← any_number Number
  size ← any_number Number
  start ← place
  pairs ← four_names
  seconds ← any_number Number
  sequence ← any_number Number
  lifetime ← any_number Number
  texts ← judged_dictionary pairs
  part ← optional (has_bit 0 flags) fragment
  end ← place
  ended ← test (end - start == size) PrimaryEnd
  give (part, texts)

-- ---- blocks

-- of a reference nothing
unfoldable pub judged_name : List ℕ → Format Cause6 (Unit {0})
judged_name dictionary = do
  scheme ← any_number Number
  ssp ← such_that (any_number Number) (λ ssp.
      needs (resolves dictionary (record { scheme = scheme; ssp = ssp })) BlockRefs)
  give tt

abbrev pub judged_names : ℕ → List ℕ → Format Cause6 (Unit {0})
judged_names count dictionary = repeated count (λ _. judged_name dictionary) tt

-- the head of a block: the blocks so far with it, whether it is the payload and the last, and how many
-- references follow
unfoldable pub judged_head : ℕ → Seen → Format Cause6 Head
judged_head most seen = do
  kind ← kind_field most seen.paid seen.others
  flags ← flags_field (kind == 1 || seen.paid)
  count ← count_field (has_bit 6 flags)
  give (record {
    seen = seen_with seen kind;
    payload = kind == 1;
    last = has_bit 3 flags;
    count = count;
  })

-- the octets of a block, and how many there are
unfoldable pub judged_body : Option Fragment → Bool → Format Cause6 (Unit {0})
judged_body part payload = do
  size ← size_field part payload
  body ← any_octets size Truncated
  give tt

-- so many references more, and the octets: the blocks so far, and whether the block is the last
abbrev pub judged_tail :
    ℕ → Option Fragment → List ℕ → Bool → Bool → Seen → Format Cause6 (Seen × Bool)
judged_tail count part dictionary payload last seen = do
  names ← judged_names count dictionary
  body ← judged_body part payload
  give (seen, last)

-- a block
abbrev pub judged_block : ℕ → Option Fragment → List ℕ → Seen → Format Cause6 (Seen × Bool)
judged_block most part dictionary seen = do
  h ← judged_head most seen
  judged_tail h.count part dictionary h.payload h.last h.seen

abbrev pub none_seen : Seen
none_seen = record { paid = false; others = 0 }

-- the blocks after those that were seen, of which so many more may follow
abbrev pub judged_blocks : ℕ → ℕ → Option Fragment → List ℕ → Seen → Format Cause6 Seen
judged_blocks left most part dictionary seen =
    until left (λ _ seen. judged_block most part dictionary seen) seen

-- ---- the bundle

unfoldable pub judged_bundle : ℕ → Format Cause6 Seen
judged_bundle most = do
  main ← judged_primary
  judged_blocks (most + 1) most main.0 main.1 none_seen
