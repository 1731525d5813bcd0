-- The version 7 view of a record: what version 6 says alone stands in a residue, where it is needed, and
-- a block of version 6 in a wrap.

use Rattle.std.specs.Prelude.{ℕ, zero, suc, ◌+◌, ◌-◌, ◌==◌, Bool, true, false, ◌&&◌, ◌||◌, not, nat_le, if◌then◌else◌, List, [], ◌∷◌, length}
use Rattle.std.specs.Int.Bits.{bit_and, bit_or}
use Rattle.std.specs.List.{list_any, list_all}
use Rattle.endpoint.specs.Endpoints.{is_null}
use Rattle.bundle7.specs.declared.primary.Primary7.{Primary7}
use Rattle.bundle7.specs.declared.block.Block7.{Block7}
use Rattle.bundle7.specs.declared.bundle.Bundle7.{Bundle7}
use Rattle.bundle_meaning.specs.declared.shared.Shared.{Shared}
use Rattle.bundle_meaning.specs.declared.shared.Content.{Content}
use Rattle.bundle_meaning.specs.declared.shared.Content.TheVariants as contents
use Rattle.bundle_meaning.specs.declared.extra.Extra6.{Extra6}
use Rattle.bundle_meaning.specs.declared.blocks.Block6Like.{Block6Like}
use Rattle.bundle_meaning.specs.declared.blocks.Block7Like.{Block7Like}
use Rattle.bundle_meaning.specs.declared.blocks.Ext.{Ext}
use Rattle.bundle_meaning.specs.declared.blocks.Ext.TheVariants.{Six, Seven}
use Rattle.bundle_meaning.specs.declared.full.Full.{Full}
use Rattle.bundle_meaning.specs.Bits.{block_common}
use Rattle.bundle_meaning.specs.Blocks.{residue_kind, wrap_kind}
use Rattle.bundle_meaning.specs.Defaults.{default6_of}
use Rattle.bundle_meaning.specs.Residue.{residue_new_of, residue_new_octets}
use Rattle.bundle_meaning.specs.Wrap.{wrap_new_octets}
use Rattle.status_reports.specs.Spelling.{report7_octets}
use Rattle.status_reports.specs.Pairing.{report7_of}

-- ---- the primary block

abbrev pub primary7_of : Full → Primary7
primary7_of full = record {
  flags = bit_or full.shared.flags full.extra7.flags;
  crc = full.extra7.crc;
  destination = full.shared.destination;
  source = full.shared.source;
  report_to = full.shared.report_to;
  millis = full.shared.millis;
  sequence = full.shared.sequence;
  lifetime = full.shared.expiry - full.shared.millis;
  fragment = full.shared.fragment;
}

-- ---- the residue

-- version 6 says nothing but its default
abbrev pub is_default6 : Shared → Extra6 → Bool
is_default6 shared extra =
    extra.flags == (default6_of shared).flags && is_null extra.custodian
    && extra.payload_flags == 0 && extra.after == 0

-- no time of a report has a part below one millisecond
abbrev pub has_no_rest : Content → Bool
has_no_rest (contents.Bytes octets) = true
has_no_rest (contents.Report report) = list_all (λ rest. rest == 0) report.rests

-- something would be lost without it: what version 6 says isn't its default, or a report has a time that
-- isn't whole milliseconds
abbrev pub needs_residue7 : Full → Bool
needs_residue7 full = not (is_default6 full.shared full.extra6) || not (has_no_rest full.shared.content)

-- ---- the numbers of residue and wraps

-- it is a block of version 7 with this number
abbrev pub has_number7 : ℕ → Ext → Bool
has_number7 number (Six block) = false
has_number7 number (Seven block) = block.number == number

abbrev pub is_taken7 : List Ext → ℕ → Bool
is_taken7 exts number = list_any (has_number7 number) exts

-- the least number from this one on that none of the blocks has; at most so many numbers
-- are tried
unfoldable pub free_from7 : ℕ → List Ext → ℕ → ℕ
free_from7 zero exts number = number
free_from7 (suc more) exts number =
    if is_taken7 exts number then free_from7 more exts (number + 1) else number

-- among as many numbers as there are blocks, and one more, one is free
abbrev pub next_free7 : List Ext → ℕ → ℕ
next_free7 exts number = free_from7 (length exts) exts number

-- ---- the other blocks

abbrev pub plain7 : Block7Like → Block7
plain7 block = record {
  kind = block.kind;
  number = block.number;
  flags = block.flags;
  crc = block.crc;
  body = block.body;
}

abbrev pub wrap7 : ℕ → Block6Like → Block7
wrap7 number block = record {
  kind = wrap_kind;
  number = number;
  flags = bit_and block.flags block_common;
  crc = 0;
  body = wrap_new_octets block;
}

-- an extension block: one of version 7 as it is, one of version 6 in a wrap with the next free number
abbrev pub block7_at : List Ext → ℕ → Ext → Block7
block7_at all next (Seven block) = plain7 block
block7_at all next (Six block) = wrap7 (next_free7 all next) block

-- from where on numbers are free after it
abbrev pub number_after7 : List Ext → ℕ → Ext → ℕ
number_after7 all next (Seven block) = next
number_after7 all next (Six block) = next_free7 all next + 1

unfoldable pub blocks7_of : List Ext → ℕ → List Ext → List Block7
blocks7_of all next [] = []
blocks7_of all next (ext ∷ exts) = block7_at all next ext ∷ blocks7_of all (number_after7 all next ext) exts

abbrev pub residue7_at : ℕ → Full → Block7
residue7_at number full = record {
  kind = residue_kind;
  number = number;
  flags = 1;
  crc = 0;
  body = residue_new_octets (residue_new_of full);
}

-- the residue, which takes the least free number from 2 on, and the extension blocks in their order
abbrev pub exts7_of : Full → List Block7
exts7_of full =
    if needs_residue7 full
    then residue7_at (next_free7 full.exts 2) full
    ∷ blocks7_of full.exts (next_free7 full.exts 2 + 1) full.exts
    else blocks7_of full.exts 2 full.exts

-- the octets of a payload; a report is written as version 7 spells it
abbrev pub octets7_of : Content → List ℕ
octets7_of (contents.Bytes octets) = octets
octets7_of (contents.Report report) = report7_octets (report7_of report)

abbrev pub payload7_of : Full → Block7
payload7_of full = record {
  kind = 1;
  number = 1;
  flags = bit_or full.shared.payload_flags full.extra7.payload_flags;
  crc = full.extra7.payload_crc;
  body = octets7_of full.shared.content;
}

-- ---- the view

abbrev pub view7_of : Full → Bundle7
view7_of full = record { primary = primary7_of full; exts = exts7_of full; payload = payload7_of full }

-- at most 64 extension blocks
abbrev pub fits7 : Full → Bool
fits7 full = nat_le ((if needs_residue7 full then 1 else 0) + length full.exts) 64
