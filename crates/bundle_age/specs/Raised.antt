-- A record whose age is raised (RFC 9171, section 4.4.2).

use Rattle.std.specs.Prelude.{ℕ, ◌+◌, ◌-◌, ◌^◌, ◌==◌, min, Bool, false, if◌then◌else◌, List, map, Option, Some, None}
use Rattle.std.specs.List.{list_any}
use Rattle.std.specs.Result.{result_ok}
use Rattle.cbor_lite.specs.Head.{head}
use Rattle.wire_fields.specs.Whole.{read_whole}
use Rattle.bundle7.specs.declared.block.Block7.{Block7}
use Rattle.bundle7.specs.declared.bundle.Bundle7.{Bundle7}
use Rattle.bundle7.specs.declared.fault.Cause7.TheVariants.{ExtensionBody}
use Rattle.bundle7.specs.Body.{age, bundle_age}
use Rattle.bundle_meaning.specs.declared.blocks.Block7Like.{Block7Like}
use Rattle.bundle_meaning.specs.declared.blocks.Ext.{Ext}
use Rattle.bundle_meaning.specs.declared.blocks.Ext.TheVariants.{Six, Seven}
use Rattle.bundle_meaning.specs.declared.full.Full.{Full}

-- ---- ages

-- the age in milliseconds that octets are
abbrev pub age_in : List ℕ → Option ℕ
age_in octets = result_ok (read_whole age ExtensionBody octets)

-- the octets that an age is
abbrev pub age_octets : ℕ → List ℕ
age_octets milliseconds = head 0 milliseconds

-- an age after a stay; it stops at the greatest number
abbrev pub age_after : ℕ → ℕ → ℕ
age_after stay milliseconds = min (milliseconds + stay) (2 ^ 64 - 1)

-- the octets of an age after a stay; octets that are none stay as they are
abbrev pub octets_after : ℕ → Option ℕ → List ℕ → List ℕ
octets_after stay None octets = octets
octets_after stay (Some milliseconds) octets = age_octets (age_after stay milliseconds)

-- the body of a block of this type after a stay
abbrev pub body_after : ℕ → ℕ → List ℕ → List ℕ
body_after stay kind body = if kind == bundle_age then octets_after stay (age_in body) body else body

-- ---- in a record: each version 7 block that is an age

abbrev pub raised_block : ℕ → Block7Like → Block7Like
raised_block stay block = record block { body = body_after stay block.kind block.body }

abbrev pub raised_ext : ℕ → Ext → Ext
raised_ext stay (Six block) = Six block
raised_ext stay (Seven block) = Seven (raised_block stay block)

unfoldable pub raised_by : ℕ → Full → Full
raised_by stay full = record full { exts = map (raised_ext stay) full.exts }

-- it has an age
abbrev pub is_age : Ext → Bool
is_age (Six block) = false
is_age (Seven block) = block.kind == bundle_age

abbrev pub has_age : Full → Bool
has_age full = list_any is_age full.exts

-- ---- in a version 7 bundle

abbrev pub raised_block7 : ℕ → Block7 → Block7
raised_block7 stay block = record block { body = body_after stay block.kind block.body }

unfoldable pub raised_bundle : ℕ → Bundle7 → Bundle7
raised_bundle stay b = record b { exts = map (raised_block7 stay) b.exts }
