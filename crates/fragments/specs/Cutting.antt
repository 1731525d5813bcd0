-- Cutting a record into pieces (RFC 5050, section 5.8; RFC 9171, section 5.8).

use Rattle.std.specs.Prelude.{◌≡◌, ℕ, zero, suc, ◌+◌, ◌-◌, ◌*◌, ◌/◌, Bool, true, false, ◌||◌, nat_lt, if◌then◌else◌, List, [], ◌∷◌, length, take, drop, Option, Some, None}
use Rattle.std.specs.List.{filter, count_by}
use Rattle.std.specs.Int.Bits.{bit_or}
use Rattle.endpoint.specs.declared.extent.Fragment.{Fragment}
use Rattle.bundle_meaning.specs.declared.shared.Content.{Content}
use Rattle.bundle_meaning.specs.declared.shared.Content.TheVariants.{Bytes, Report}
use Rattle.bundle_meaning.specs.declared.shared.Shared.{Shared}
use Rattle.bundle_meaning.specs.declared.extra.Extra6.{Extra6}
use Rattle.bundle_meaning.specs.declared.blocks.Ext.{Ext}
use Rattle.bundle_meaning.specs.declared.blocks.Ext.TheVariants.{Six, Seven}
use Rattle.endpoint.specs.Endpoints.{is_null}
use Rattle.bundle_meaning.specs.declared.full.Full.{Full}
use Rattle.bundle_meaning.specs.Bits.{has_bit}

-- the octets of a payload; a report has none that may be cut
abbrev pub octets_of : Content → List ℕ
octets_of (Bytes octets) = octets
octets_of (Report report) = []

-- the payload is longer than a piece
abbrev pub is_longer : Full → ℕ → Bool
is_longer full size = nat_lt size (length (octets_of full.shared.content))

-- a bundle must stay whole: flag bit 2 is set, or no source names it, so that nobody could tell which
-- fragments belong together
abbrev pub must_not : Shared → Bool
must_not shared = has_bit 2 shared.flags || is_null shared.source

-- ---- what a piece holds

-- where a payload of so many octets lies in the whole: that of a fragment where the fragment says, any
-- other is the whole
abbrev pub place_of : Option Fragment → ℕ → Fragment
place_of None size = record { offset = 0; total = size }
place_of (Some part) size = part

-- what is said of a bundle, of a fragment of it with these octets
abbrev pub fragment_of : Shared → Fragment → List ℕ → Shared
fragment_of shared part octets = record {
  destination = shared.destination;
  source = shared.source;
  report_to = shared.report_to;
  millis = shared.millis;
  sequence = shared.sequence;
  expiry = shared.expiry;
  flags = bit_or shared.flags 1;
  fragment = Some part;
  payload_flags = shared.payload_flags;
  content = Bytes octets;
}

-- the octets of the piece at an index: from that multiple of the size up to the next, or to the end
abbrev pub octets_in : ℕ → ℕ → List ℕ → List ℕ
octets_in size i octets = take size (drop (i * size) octets)

-- where the piece lies in the whole
abbrev pub place_in : ℕ → ℕ → Fragment → Fragment
place_in size i part = record { offset = part.offset + i * size; total = part.total }

-- Own rule: a block stands in every piece if and only if its flag bit 0 is set, whichever side of the
-- payload it is on. The first piece has all blocks.
abbrev pub is_replicated : Ext → Bool
is_replicated (Six block) = has_bit 0 block.flags
is_replicated (Seven block) = has_bit 0 block.flags

abbrev pub exts_in : ℕ → List Ext → List Ext
exts_in zero exts = exts
exts_in (suc i) exts = filter is_replicated exts

-- how many of them stand after the payload: those that are kept among the last
abbrev pub after_in : ℕ → ℕ → List Ext → ℕ
after_in zero after exts = after
after_in (suc i) after exts = count_by is_replicated (drop (length exts - after) exts)

abbrev pub extra6_in : ℕ → Extra6 → List Ext → Extra6
extra6_in i extra exts = record {
  flags = extra.flags;
  custodian = extra.custodian;
  payload_flags = extra.payload_flags;
  after = after_in i extra.after exts;
}

-- ---- the pieces

-- the piece at an index
abbrev pub piece : Full → ℕ → ℕ → Full
piece full size i = record {
  shared = fragment_of full.shared
      (place_in size i (place_of full.shared.fragment (length (octets_of full.shared.content))))
      (octets_in size i (octets_of full.shared.content));
  extra6 = extra6_in i full.extra6 full.exts;
  extra7 = full.extra7;
  exts = exts_in i full.exts;
}

-- so many pieces, from that at an index on
unfoldable pub pieces_from : Full → ℕ → ℕ → ℕ → List Full
pieces_from full size i zero = []
pieces_from full size i (suc n) = piece full size i ∷ pieces_from full size (i + 1) n

-- how many pieces hold some octets, of which there is one at least
abbrev pub how_many : ℕ → List ℕ → ℕ
how_many size octets = (length octets - 1) / size + 1

-- The pieces of a record. A payload that isn't longer than a piece is not cut.
abbrev pub pieces : Full → ℕ → List Full
pieces full size =
    if is_longer full size
    then pieces_from full size 0 (how_many size (octets_of full.shared.content))
    else full ∷ []

-- The next of some pieces was given, and the others are left; or there was none.
abbrev pub Gives : List Full → List Full → Option Full → Type 0
Gives old new (Some piece) = old ≡ piece ∷ new
Gives old new None = (old ≡ []) × (new ≡ [])
