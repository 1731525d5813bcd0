-- What becomes of a record on its way to the other face: it makes one hop (RFC 9171, section 4.4.3), and
-- the node from which it came is no longer the previous one (RFC 9171, section 4.4.1).
use Rattle.std.specs.Prelude.{ℕ, ◌+◌, ◌-◌, ◌==◌, Bool, true, false, ◌&&◌, not, nat_lt, if◌then◌else◌, List, [], ◌∷◌, ◌++◌, map, length, drop, Option, Some, None}
use Rattle.std.specs.List.{filter, count_by, list_any}
use Rattle.std.specs.Result.{result_ok}
use Rattle.cbor_lite.specs.Head.{head}
use Rattle.wire_fields.specs.Whole.{read_whole}
use Rattle.bundle7.specs.declared.body.Hop.{Hop}
use Rattle.bundle7.specs.declared.fault.Cause7.TheVariants.{ExtensionBody}
use Rattle.bundle7.specs.Body.{hop, hop_count, previous_node}
use Rattle.bundle_meaning.specs.declared.blocks.Block7Like.{Block7Like}
use Rattle.bundle_meaning.specs.declared.blocks.Ext.{Ext}
use Rattle.bundle_meaning.specs.declared.blocks.Ext.TheVariants.{Six, Seven}
use Rattle.bundle_meaning.specs.declared.extra.Extra6.{Extra6}
use Rattle.bundle_meaning.specs.declared.full.Full.{Full}
use Rattle.fragments.specs.Cutting.{is_longer, must_not, pieces}

-- ---- the hop count

-- the hop count that octets are
abbrev pub hop_in : List ℕ → Option Hop
hop_in body = result_ok (read_whole hop ExtensionBody body)

-- the octets that a hop count is
abbrev pub hop_octets : Hop → List ℕ
hop_octets hop = head 4 2 ++ (head 0 hop.limit ++ head 0 hop.count)

-- with one hop more there would be more than may be
abbrev pub is_last : Option Hop → Bool
is_last None = false
is_last (Some hop) = nat_lt hop.limit (hop.count + 1)

-- a version 7 block is a hop count by which no hop is left
abbrev pub ends_here : Ext → Bool
ends_here (Six block) = false
ends_here (Seven block) = block.kind == hop_count && is_last (hop_in block.body)

abbrev pub has_no_hop_left : List Ext → Bool
has_no_hop_left exts = list_any ends_here exts

-- the same octets with one hop more
abbrev pub one_more_in : Option Hop → List ℕ → List ℕ
one_more_in None body = body
one_more_in (Some hop) body = hop_octets (record { limit = hop.limit; count = hop.count + 1 })

abbrev pub counted : Block7Like → Block7Like
counted block = record {
  kind = block.kind;
  number = block.number;
  flags = block.flags;
  crc = block.crc;
  body = if block.kind == hop_count then one_more_in (hop_in block.body) block.body else block.body;
}

abbrev pub counted_ext : Ext → Ext
counted_ext (Six block) = Six block
counted_ext (Seven block) = Seven (counted block)

-- ---- the blocks that go on

-- all but a previous node of version 7
abbrev pub goes_on : Ext → Bool
goes_on (Six block) = true
goes_on (Seven block) = not (block.kind == previous_node)

-- of so many blocks after the payload those that go on
abbrev pub after_of : ℕ → List Ext → ℕ
after_of after exts = count_by goes_on (drop (length exts - after) exts)

abbrev pub extra6_passed : Extra6 → List Ext → Extra6
extra6_passed extra exts = record {
  flags = extra.flags;
  custodian = extra.custodian;
  payload_flags = extra.payload_flags;
  after = after_of extra.after exts;
}

-- ---- the record

abbrev pub passage : Full → Full
passage full = record {
  shared = full.shared;
  extra6 = extra6_passed full.extra6 full.exts;
  extra7 = full.extra7;
  exts = map counted_ext (filter goes_on full.exts);
}

-- the pieces of a record, with so many octets of its payload each; one that would have to be cut, and must
-- not be, stays whole
abbrev pub pieces_on : Full → ℕ → List Full
pieces_on full cut = if is_longer full cut && must_not full.shared then full ∷ [] else pieces full cut
