-- What a version 6 bundle says: its fields, its residue and its wraps, and when it is refused.

use Rattle.std.specs.Prelude.{◌≡◌, ℕ, ◌+◌, ◌-◌, ◌*◌, ◌%◌, ◌^◌, ◌==◌, Bool, true, false, ◌&&◌, ◌||◌, not, nat_lt, nat_le, if◌then◌else◌, List, [], ◌∷◌, length, Option, Some, None, Result, Ok, Err}
use Rattle.std.specs.Int.Bits.{bit_and}
use Rattle.std.specs.Result.{result_ok}
use Rattle.std.specs.List.{list_any, list_all, flat_map, after_first}
use Rattle.wire_fields.specs.Whole.{read_whole}
use Rattle.bundle6.specs.declared.block.Block6.{Block6}
use Rattle.bundle6.specs.declared.bundle.Bundle6.{Bundle6}
use Rattle.bundle6.specs.Bits.{has_bit}
use Rattle.bundle6.specs.Table.{is_payload}
use Rattle.bundle7.specs.Body.{is_body}
use Rattle.bundle_meaning.specs.declared.fault.BlockFault.TheVariants.{Bad}
use Rattle.bundle_meaning.specs.declared.creation.Id7.{Id7}
use Rattle.bundle_meaning.specs.declared.shared.Content.{Content}
use Rattle.bundle_meaning.specs.declared.shared.Shared.{Shared}
use Rattle.bundle_meaning.specs.declared.extra.Extra6.{Extra6}
use Rattle.bundle_meaning.specs.declared.blocks.Block7Like.{Block7Like}
use Rattle.bundle_meaning.specs.declared.blocks.Ext.{Ext}
use Rattle.bundle_meaning.specs.declared.blocks.Ext.TheVariants.{Six, Seven}
use Rattle.bundle_meaning.specs.declared.residue.ResidueOld.{ResidueOld}
use Rattle.bundle_meaning.specs.declared.full.Full.{Full}
use Rattle.bundle_meaning.specs.Bits.{common, block_common}
use Rattle.bundle_meaning.specs.Blocks.{is_marked, collide}
use Rattle.bundle_meaning.specs.Creation.{id7_of}
use Rattle.bundle_meaning.specs.Defaults.{default7_of}
use Rattle.bundle_meaning.specs.Residue.{residue_old}
use Rattle.bundle_meaning.specs.Wrap.{wrap_old}
use Rattle.status_reports.specs.declared.report6.Report6.{Report6}
use Rattle.status_reports.specs.Order.{answer6}
use Rattle.translate.specs.Admin.{admin_cause, report6_in, lacks_report6, takes_mask, content6}
use Rattle.translate.specs.Private.{is_residue, is_wrap, value_or}
use Rattle.translate.specs.declared.refused.Refused.{Refused}
use Rattle.translate.specs.declared.refused.Refused.TheVariants as causes
use Rattle.translate.specs.Refusals.{first_that_holds}

-- ---- the residue

-- what a bundle without a residue says in its place
abbrev pub no_residue6 : ResidueOld
no_residue6 = record { slack = 0; extra7 = default7_of; no_time = 0 }

-- what the first residue among the blocks says
unfoldable pub residue_in6 : List Block6 → ResidueOld
residue_in6 [] = no_residue6
residue_in6 (block ∷ blocks) =
    if is_residue block.kind block.body
    then value_or no_residue6 (read_whole residue_old Bad block.body)
    else residue_in6 blocks

abbrev pub residue6_of : Bundle6 → ResidueOld
residue6_of b = residue_in6 b.blocks

-- ---- the extension blocks

-- the block of version 7 that a wrap holds
abbrev pub held7 : {E : Type 0} → Result Block7Like E → List Ext
held7 (Ok block) = Seven block ∷ []
held7 (Err fault) = []

-- the extension block that a block stands for: a wrap for the one that it holds; the payload and a
-- residue stand for none
abbrev pub ext6_of : Block6 → List Ext
ext6_of block =
    if is_payload block || is_residue block.kind block.body then []
    else if is_wrap block.kind block.body
    then held7 (read_whole (wrap_old (length block.body)) Bad block.body)
    else Six (record { kind = block.kind; flags = block.flags; refs = block.refs; body = block.body }) ∷ []

abbrev pub exts_in6 : List Block6 → List Ext
exts_in6 blocks = flat_map ext6_of blocks

-- how many of them stand after the payload
abbrev pub stand_after6 : List Block6 → ℕ
stand_after6 blocks = length (exts_in6 (after_first is_payload blocks))

-- ---- the payload

-- where there is none, a block without octets; a legal bundle has one
abbrev pub no_payload6 : Block6
no_payload6 = record { kind = 1; flags = 0; refs = []; body = [] }

-- the payload block
unfoldable pub payload_in : List Block6 → Block6
payload_in [] = no_payload6
payload_in (block ∷ blocks) = if is_payload block then block else payload_in blocks

-- ---- what the bundle says

abbrev pub creation6 : Bundle6 → Id7
creation6 b = id7_of b.primary.seconds b.primary.sequence

-- the status report that it carries
abbrev pub carried6 : Bundle6 → Option Report6
carried6 b = report6_in b.primary.flags (payload_in b.blocks).body

-- a report where it carries one, and else the payload's octets
abbrev pub content6_of : Bundle6 → Content
content6_of b = content6 (carried6 b) (residue6_of b).no_time (payload_in b.blocks).body

-- with this as what the payload says
abbrev pub shared6_with : Bundle6 → Content → Shared
shared6_with b content = record {
  destination = b.primary.destination;
  source = b.primary.source;
  report_to = b.primary.report_to;
  millis = (creation6 b).millis;
  sequence = (creation6 b).sequence;
  expiry = 1000 * (b.primary.seconds + b.primary.lifetime) - (residue6_of b).slack;
  flags = bit_and b.primary.flags common;
  fragment = b.primary.fragment;
  payload_flags = bit_and (payload_in b.blocks).flags block_common;
  content = content;
}

abbrev pub shared6_of : Bundle6 → Shared
shared6_of b = shared6_with b (content6_of b)

-- so many extension blocks stand after the payload
abbrev pub extra6_with : Bundle6 → ℕ → Extra6
extra6_with b after = record {
  flags = b.primary.flags - bit_and b.primary.flags common;
  custodian = b.primary.custodian;
  payload_flags = (payload_in b.blocks).flags - bit_and (payload_in b.blocks).flags block_common;
  after = after;
}

abbrev pub extra6_of : Bundle6 → Extra6
extra6_of b = extra6_with b (stand_after6 b.blocks)

abbrev pub full6_of : Bundle6 → Full
full6_of b = record {
  shared = shared6_of b;
  extra6 = extra6_of b;
  extra7 = (residue6_of b).extra7;
  exts = exts_in6 b.blocks;
}

-- ---- when it is refused

-- a residue that leaves some lifetime, and speaks of no status but of those that may be without a time
abbrev pub may_stand6 : {E : Type 0} → Bundle6 → Result ResidueOld E → Bool
may_stand6 b (Ok residue) =
    nat_lt (residue.slack + b.primary.sequence % 1000) (1000 * b.primary.lifetime)
    && takes_mask (carried6 b) residue.no_time
may_stand6 b (Err fault) = false

abbrev pub is_residue6 : Block6 → Bool
is_residue6 block = is_residue block.kind block.body

-- there is none, or the first may stand there and no other follows
unfoldable pub are_residues6 : Bundle6 → List Block6 → Bool
are_residues6 b [] = true
are_residues6 b (block ∷ blocks) =
    if is_residue6 block
    then may_stand6 b (read_whole residue_old Bad block.body) && not (list_any is_residue6 blocks)
    else are_residues6 b blocks

-- what a wrap holds; a block that is no wrap holds nothing
abbrev pub wrapped7 : Block6 → Option Block7Like
wrapped7 block =
    if is_wrap block.kind block.body
    then result_ok (read_whole (wrap_old (length block.body)) Bad block.body)
    else None

-- two wraps whose blocks don't stand in one version 7 bundle
abbrev pub collide_held : Option Block7Like → Option Block7Like → Bool
collide_held (Some one) (Some other) = collide one other
collide_held (Some one) None = false
collide_held None other = false

abbrev pub collide6 : Block6 → Block6 → Bool
collide6 one other = collide_held (wrapped7 one) (wrapped7 other)

-- no two of the wraps collide
unfoldable pub are_apart6 : List Block6 → Bool
are_apart6 [] = true
are_apart6 (block ∷ blocks) = not (list_any (collide6 block) blocks) && are_apart6 blocks

-- a block that may be held: it isn't marked itself, and its body is one that its type may have
abbrev pub may_be_held7 : {E : Type 0} → Result Block7Like E → Bool
may_be_held7 (Ok block) = not (is_marked block.kind block.body) && is_body block.kind block.body
may_be_held7 (Err fault) = false

-- where the block is a wrap, it holds a block that may be held
abbrev pub is_wrap_legal6 : Block6 → Bool
is_wrap_legal6 block =
    not (is_wrap block.kind block.body)
    || may_be_held7 (read_whole (wrap_old (length block.body)) Bad block.body)

-- each wrap holds a block that may be held, and these may stand in one bundle
abbrev pub are_wraps6 : List Block6 → Bool
are_wraps6 blocks = list_all is_wrap_legal6 blocks && are_apart6 blocks

-- the creation time, or the lifetime from the creation on, is in milliseconds no number of version 7
abbrev pub is_late6 : Bundle6 → Bool
is_late6 b =
    nat_le (2 ^ 64) (creation6 b).millis
    || nat_le (2 ^ 64) (1000 * b.primary.lifetime - b.primary.sequence % 1000)

-- the causes in their order
abbrev pub refusals6 : Bundle6 → List (Refused × Bool)
refusals6 b =
    (causes.CustodyAsked, has_bit 3 b.primary.flags)
    ∷ (causes.Clockless, b.primary.seconds == 0)
    ∷ (causes.LifetimeZero, b.primary.lifetime == 0)
    ∷ (causes.TimeTooLarge, is_late6 b)
    ∷ (causes.PayloadRefs, not (length (payload_in b.blocks).refs == 0))
    ∷ (causes.AdminFragment, has_bit 0 b.primary.flags && has_bit 1 b.primary.flags)
    -- CustodySignal, CustodyReport, AdminUnknown or BadAdmin, by what reading the payload answers
    ∷ (admin_cause (answer6 (payload_in b.blocks).body), lacks_report6 b.primary.flags (payload_in b.blocks).body)
    ∷ (causes.ResidueBad, not (are_residues6 b b.blocks))
    ∷ (causes.WrapBad, not (are_wraps6 b.blocks))
    ∷ []

-- the bundle isn't refused, and the record is what its fields, its residue and its wraps say
pub record Reads6 (b : Bundle6) (full : Full) : Type 0 where
  pub unrefused : first_that_holds (refusals6 b) ≡ None
  pub shared : full.shared ≡ shared6_of b
  pub extra6 : full.extra6 ≡ extra6_of b
  pub extra7 : full.extra7 ≡ (residue6_of b).extra7
  pub exts : full.exts ≡ exts_in6 b.blocks
