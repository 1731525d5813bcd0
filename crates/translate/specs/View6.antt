-- The version 6 view of a record: what version 7 says alone stands in a residue, where it is needed, and
-- a block of version 7 in a wrap.

use Rattle.std.specs.Prelude.{ℕ, ◌+◌, ◌-◌, ◌==◌, Bool, ◌&&◌, ◌||◌, not, nat_le, if◌then◌else◌, List, [], ◌∷◌, ◌++◌, map, length, take, drop}
use Rattle.std.specs.Int.Bits.{bit_and, bit_or}
use Rattle.bundle6.specs.declared.primary.Primary6.{Primary6}
use Rattle.bundle6.specs.declared.block.Block6.{Block6}
use Rattle.bundle6.specs.declared.bundle.Bundle6.{Bundle6}
use Rattle.bundle_meaning.specs.declared.shared.Content.{Content}
use Rattle.bundle_meaning.specs.declared.shared.Content.TheVariants as contents
use Rattle.bundle_meaning.specs.declared.extra.Extra7.{Extra7}
use Rattle.bundle_meaning.specs.declared.blocks.Ext.{Ext}
use Rattle.bundle_meaning.specs.declared.blocks.Ext.TheVariants.{Six, Seven}
use Rattle.bundle_meaning.specs.declared.full.Full.{Full}
use Rattle.bundle_meaning.specs.Bits.{block_common}
use Rattle.bundle_meaning.specs.Blocks.{residue_kind, wrap_kind}
use Rattle.bundle_meaning.specs.Creation.{id6_of}
use Rattle.bundle_meaning.specs.Defaults.{default7_of}
use Rattle.bundle_meaning.specs.Expiry.{lifetime6_of, slack_of}
use Rattle.bundle_meaning.specs.Reports.{no_time_of}
use Rattle.bundle_meaning.specs.Residue.{residue_old_of, residue_old_octets}
use Rattle.bundle_meaning.specs.Wrap.{wrap_old_octets}
use Rattle.status_reports.specs.Spelling.{report6_octets}
use Rattle.status_reports.specs.Pairing.{report6_of}

-- ---- the primary block

abbrev pub primary6_of : Full → Primary6
primary6_of full = record {
  flags = bit_or full.shared.flags full.extra6.flags;
  destination = full.shared.destination;
  source = full.shared.source;
  report_to = full.shared.report_to;
  custodian = full.extra6.custodian;
  seconds = (id6_of full.shared.millis full.shared.sequence).seconds;
  sequence = (id6_of full.shared.millis full.shared.sequence).sequence;
  lifetime = lifetime6_of full.shared;
  fragment = full.shared.fragment;
}

-- ---- the residue

abbrev pub is_same7 : Extra7 → Extra7 → Bool
is_same7 one other =
    one.flags == other.flags && one.crc == other.crc
    && one.payload_crc == other.payload_crc && one.payload_flags == other.payload_flags

-- something would be lost without it: what version 7 says isn't its default, or the exact expiry isn't
-- at a whole second, or a report has a status without a time
abbrev pub needs_residue6 : Full → Bool
needs_residue6 full =
    not (is_same7 full.extra7 default7_of) || not (slack_of full.shared == 0)
    || not (no_time_of full.shared.content == 0)

-- it is replicated in every fragment: flag bit 0
abbrev pub residue6 : Full → List Block6
residue6 full =
    if needs_residue6 full
    then record { kind = residue_kind; flags = 1; refs = []; body = residue_old_octets (residue_old_of full) } ∷ []
    else []

-- ---- the other blocks

-- an extension block: one of version 6 as it is, one of version 7 in a wrap with the flags that both
-- versions have
abbrev pub block6_of : Ext → Block6
block6_of (Six block) = record { kind = block.kind; flags = block.flags; refs = block.refs; body = block.body }
block6_of (Seven block) = record {
  kind = wrap_kind;
  flags = bit_and block.flags block_common;
  refs = [];
  body = wrap_old_octets block;
}

-- the octets of a payload; a report is written as version 6 spells it
abbrev pub octets6_of : Content → List ℕ
octets6_of (contents.Bytes octets) = octets
octets6_of (contents.Report report) = report6_octets (report6_of report)

abbrev pub payload6_of : Full → Block6
payload6_of full = record {
  kind = 1;
  flags = bit_or full.shared.payload_flags full.extra6.payload_flags;
  refs = [];
  body = octets6_of full.shared.content;
}

-- how many of the extension blocks stand before the payload
abbrev pub before_payload : Full → ℕ
before_payload full = length full.exts - full.extra6.after

-- the residue, the extension blocks in their order, and the payload before the last of them
abbrev pub blocks6_of : Full → List Block6
blocks6_of full =
    residue6 full
    ++ (map block6_of (take (before_payload full) full.exts)
    ++ payload6_of full ∷ map block6_of (drop (before_payload full) full.exts))

-- ---- the view

abbrev pub view6_of : Full → Bundle6
view6_of full = record { primary = primary6_of full; blocks = blocks6_of full }

-- at most 64 blocks besides the payload
abbrev pub fits6 : Full → Bool
fits6 full = nat_le ((if needs_residue6 full then 1 else 0) + length full.exts) 64
