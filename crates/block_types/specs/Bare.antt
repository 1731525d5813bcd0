-- A record without what a version 7 bundle has no field for.

use Rattle.std.specs.Prelude.{ℕ, Bool, true, false, List, [], ◌∷◌, Option, Some, None}
use Rattle.std.specs.List.{filter, filter_map}
use Rattle.bundle_meaning.specs.declared.blocks.Ext.{Ext}
use Rattle.bundle_meaning.specs.declared.blocks.Ext.TheVariants.{Six, Seven}
use Rattle.bundle_meaning.specs.declared.shared.Content.{Content}
use Rattle.bundle_meaning.specs.declared.shared.Content.TheVariants as contents
use Rattle.bundle_meaning.specs.declared.shared.Shared.{Shared}
use Rattle.bundle_meaning.specs.declared.full.Full.{Full}
use Rattle.bundle_meaning.specs.Defaults.{default6_of}

abbrev pub is_seven : Ext → Bool
is_seven (Six block) = false
is_seven (Seven block) = true

-- a report's times are whole milliseconds
abbrev pub bare_content : Content → Content
bare_content (contents.Bytes octets) = contents.Bytes octets
bare_content (contents.Report report) = contents.Report (record report { rests = 0 ∷ 0 ∷ 0 ∷ 0 ∷ [] })

abbrev pub bare_shared : Shared → Shared
bare_shared shared = record shared { content = bare_content shared.content }

-- version 6 says its default, and has no extension block
unfoldable pub bare_of : Full → Full
bare_of full = record {
  shared = bare_shared full.shared;
  extra6 = default6_of full.shared;
  extra7 = full.extra7;
  exts = filter is_seven full.exts;
}

-- ---- what is left out

-- the type of a version 6 block
abbrev pub kind_left : Ext → Option ℕ
kind_left (Six block) = Some block.kind
kind_left (Seven block) = None

-- the types of the version 6 blocks, in order
abbrev pub kinds_left : List Ext → List ℕ
kinds_left exts = filter_map kind_left exts
