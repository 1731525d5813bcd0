-- What a version 7 bundle says: its fields, its residue and its wraps, and when it is refused.

use Rattle.std.specs.Prelude.{◌≡◌, ℕ, ◌+◌, ◌-◌, ◌^◌, ◌==◌, Bool, true, false, ◌&&◌, ◌||◌, not, nat_lt, nat_le, min, if◌then◌else◌, List, [], ◌∷◌, length, Option, None, Result, Ok, Err}
use Rattle.std.specs.Int.Bits.{bit_and}
use Rattle.std.specs.List.{list_any, list_all, flat_map}
use Rattle.wire_fields.specs.Whole.{read_whole}
use Rattle.bundle6.specs.Bits.{has_bit}
use Rattle.bundle7.specs.declared.block.Block7.{Block7}
use Rattle.bundle7.specs.declared.bundle.Bundle7.{Bundle7}
use Rattle.bundle_meaning.specs.declared.fault.BlockFault.TheVariants.{Bad}
use Rattle.bundle_meaning.specs.declared.shared.Content.{Content}
use Rattle.bundle_meaning.specs.declared.shared.Content.TheVariants as contents
use Rattle.bundle_meaning.specs.declared.shared.Shared.{Shared}
use Rattle.bundle_meaning.specs.declared.extra.Extra6.{Extra6}
use Rattle.bundle_meaning.specs.declared.extra.Extra7.{Extra7}
use Rattle.bundle_meaning.specs.declared.blocks.Block6Like.{Block6Like}
use Rattle.bundle_meaning.specs.declared.blocks.Ext.{Ext}
use Rattle.bundle_meaning.specs.declared.blocks.Ext.TheVariants.{Six, Seven}
use Rattle.bundle_meaning.specs.declared.residue_new.ResidueNew.{ResidueNew}
use Rattle.bundle_meaning.specs.declared.full.Full.{Full}
use Rattle.bundle_meaning.specs.Bits.{common, block_common}
use Rattle.bundle_meaning.specs.Blocks.{is_marked}
use Rattle.bundle_meaning.specs.Creation.{id6_of}
use Rattle.bundle_meaning.specs.Defaults.{default6_of}
use Rattle.bundle_meaning.specs.Residue.{residue_new}
use Rattle.bundle_meaning.specs.Wrap.{wrap_new}
use Rattle.status_reports.specs.declared.report7.Report7.{Report7}
use Rattle.status_reports.specs.Order.{answer7}
use Rattle.status_reports.specs.Pairing.{no_rests}
use Rattle.translate.specs.Admin.{admin_cause, report7_in, lacks_report7, takes_parts, content7}
use Rattle.translate.specs.declared.refused.Refused.{Refused}
use Rattle.translate.specs.declared.refused.Refused.TheVariants as causes
use Rattle.translate.specs.Private.{is_residue, is_wrap, value_or}
use Rattle.translate.specs.Refusals.{first_that_holds}

-- ---- the fields

-- with this as what the payload says
abbrev pub shared7_with : Bundle7 → Content → Shared
shared7_with b content = record {
  destination = b.primary.destination;
  source = b.primary.source;
  report_to = b.primary.report_to;
  millis = b.primary.millis;
  sequence = b.primary.sequence;
  expiry = b.primary.millis + b.primary.lifetime;
  flags = bit_and b.primary.flags common;
  fragment = b.primary.fragment;
  payload_flags = bit_and b.payload.flags block_common;
  content = content;
}

abbrev pub extra7_of : Bundle7 → Extra7
extra7_of b = record {
  flags = b.primary.flags - bit_and b.primary.flags common;
  crc = b.primary.crc;
  payload_crc = b.payload.crc;
  payload_flags = b.payload.flags - bit_and b.payload.flags block_common;
}

-- ---- the residue

-- what a bundle without a residue says in its place; the default depends on the destination alone
abbrev pub no_residue7 : Bundle7 → ResidueNew
no_residue7 b = record { extra6 = default6_of (shared7_with b (contents.Bytes b.payload.body)); rests = no_rests }

-- what the first residue among the blocks says, or another residue in its place
unfoldable pub residue_in7 : ResidueNew → List Block7 → ResidueNew
residue_in7 other [] = other
residue_in7 other (block ∷ blocks) =
    if is_residue block.kind block.body
    then value_or other (read_whole residue_new Bad block.body)
    else residue_in7 other blocks

abbrev pub residue7_of : Bundle7 → ResidueNew
residue7_of b = residue_in7 (no_residue7 b) b.exts

-- ---- the payload

-- the status report that the bundle carries
abbrev pub carried7 : Bundle7 → Option Report7
carried7 b = report7_in b.primary.flags b.payload.body

-- a report where it carries one, and else the payload's octets
abbrev pub content7_of : Bundle7 → Content
content7_of b = content7 (carried7 b) (residue7_of b).rests b.payload.body

abbrev pub shared7_of : Bundle7 → Shared
shared7_of b = shared7_with b (content7_of b)

-- ---- the extension blocks

-- the block of version 6 that a wrap holds
abbrev pub held6 : {E : Type 0} → Result Block6Like E → List Ext
held6 (Ok block) = Six block ∷ []
held6 (Err fault) = []

-- the extension block that a block stands for: a wrap for the one that it holds; a residue stands for
-- none
abbrev pub ext7_of : Block7 → List Ext
ext7_of block =
    if is_residue block.kind block.body then []
    else if is_wrap block.kind block.body
    then held6 (read_whole (wrap_new (length block.body)) Bad block.body)
    else Seven (record {
      kind = block.kind;
      number = block.number;
      flags = block.flags;
      crc = block.crc;
      body = block.body;
    }) ∷ []

abbrev pub exts_in7 : List Block7 → List Ext
exts_in7 blocks = flat_map ext7_of blocks

-- ---- what the bundle says

-- no more blocks stand after the payload than there are
abbrev pub extra6_of_residue : ResidueNew → ℕ → Extra6
extra6_of_residue residue exts = record {
  flags = residue.extra6.flags;
  custodian = residue.extra6.custodian;
  payload_flags = residue.extra6.payload_flags;
  after = min residue.extra6.after exts;
}

abbrev pub full7_of : Bundle7 → Full
full7_of b = record {
  shared = shared7_of b;
  extra6 = extra6_of_residue (residue7_of b) (length (exts_in7 b.exts));
  extra7 = extra7_of b;
  exts = exts_in7 b.exts;
}

-- ---- when it is refused

-- a residue whose parts of times the report may have
abbrev pub may_stand7 : {E : Type 0} → Bundle7 → Result ResidueNew E → Bool
may_stand7 b (Ok residue) = takes_parts (carried7 b) residue.rests
may_stand7 b (Err fault) = false

abbrev pub is_residue7 : Block7 → Bool
is_residue7 block = is_residue block.kind block.body

-- there is none, or the first may stand there and no other follows
unfoldable pub are_residues7 : Bundle7 → List Block7 → Bool
are_residues7 b [] = true
are_residues7 b (block ∷ blocks) =
    if is_residue7 block
    then may_stand7 b (read_whole residue_new Bad block.body) && not (list_any is_residue7 blocks)
    else are_residues7 b blocks

-- a block that may be held in a wrap: it isn't marked itself
abbrev pub may_be_held6 : {E : Type 0} → Result Block6Like E → Bool
may_be_held6 (Ok block) = not (is_marked block.kind block.body)
may_be_held6 (Err fault) = false

-- where the block is a wrap, it holds a block that may be held
abbrev pub is_wrap_legal7 : Block7 → Bool
is_wrap_legal7 block =
    not (is_wrap block.kind block.body)
    || may_be_held6 (read_whole (wrap_new (length block.body)) Bad block.body)

-- the causes in their order
abbrev pub refusals7 : Bundle7 → List (Refused × Bool)
refusals7 b =
    (causes.Clockless, nat_lt b.primary.millis 1000)
    ∷ (causes.LifetimeZero, b.primary.lifetime == 0)
    ∷ (causes.SequenceTooLarge, nat_le (2 ^ 64) (id6_of b.primary.millis b.primary.sequence).sequence)
    ∷ (causes.AdminFragment, has_bit 0 b.primary.flags && has_bit 1 b.primary.flags)
    -- AdminUnknown or BadAdmin, by what reading the payload answers
    ∷ (admin_cause (answer7 b.payload.body), lacks_report7 b.primary.flags b.payload.body)
    ∷ (causes.ResidueBad, not (are_residues7 b b.exts))
    ∷ (causes.WrapBad, not (list_all is_wrap_legal7 b.exts))
    ∷ []

-- the bundle isn't refused, and the record is what its fields, its residue and its wraps say
pub record Reads7 (b : Bundle7) (full : Full) : Type 0 where
  pub unrefused : first_that_holds (refusals7 b) ≡ None
  pub shared : full.shared ≡ shared7_of b
  pub extra6 : full.extra6 ≡ extra6_of_residue (residue7_of b) (length (exts_in7 b.exts))
  pub extra7 : full.extra7 ≡ extra7_of b
  pub exts : full.exts ≡ exts_in7 b.exts
