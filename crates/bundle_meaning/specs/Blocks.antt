-- Extension blocks of both versions, and which of them are the gateway's own.

use Rattle.std.specs.Prelude.{◌≡◌, ℕ, ◌^◌, ◌<◌, ◌≤◌, Bool, true, false, ◌==◌, ◌&&◌, ◌||◌, not, List, [], ◌∷◌, length}
use Rattle.std.specs.List.{list_any, All}
use Rattle.endpoint.specs.Endpoints.{IsEndpoint, begins}
use Rattle.bundle_meaning.specs.declared.blocks.Block6Like.{Block6Like}
use Rattle.bundle_meaning.specs.declared.blocks.Block7Like.{Block7Like}
use Rattle.bundle_meaning.specs.declared.blocks.Ext.{Ext}
use Rattle.bundle_meaning.specs.declared.blocks.Ext.TheVariants.{Six, Seven}
use Rattle.bundle_meaning.specs.Bits.{is_without, block_marks}

-- ---- the gateway's own blocks

-- the first octets of each private body: B67G
abbrev pub mark : List ℕ
mark = 0x42 ∷ 0x36 ∷ 0x37 ∷ 0x47 ∷ []

-- the block types of a residue and of a wrap, in both versions
abbrev pub residue_kind : ℕ
residue_kind = 192

abbrev pub wrap_kind : ℕ
wrap_kind = 193

-- a block is marked: its type is that of a residue or of a wrap, and its body begins with the mark; a
-- block of these types without the mark is ordinary
abbrev pub is_marked : ℕ → List ℕ → Bool
is_marked kind body = (kind == residue_kind || kind == wrap_kind) && begins mark body

-- ---- extension blocks

-- of version 6, as it stands in a record
pub record IsBlock6 (block : Block6Like) : Type 0 where
  pub kind : block.kind < 256
  pub extension : block.kind == 1 ≡ false
  pub flags : block.flags < 2 ^ 64
  -- the marks of the last block and of references stand in no value
  pub marks : is_without block_marks block.flags ≡ true
  pub refs : All IsEndpoint block.refs
  -- numbers say how many references and octets there are
  pub count : length block.refs < 2 ^ 64
  pub size : length block.body < 2 ^ 64
  pub unmarked : is_marked block.kind block.body ≡ false

-- of version 7
pub record IsBlock7 (block : Block7Like) : Type 0 where
  pub kind : block.kind < 2 ^ 64
  pub extension : block.kind == 1 ≡ false
  pub number : 2 ≤ block.number
  pub number_fits : block.number < 2 ^ 64
  pub flags : block.flags < 2 ^ 64
  pub crc : block.crc < 3
  pub size : length block.body < 2 ^ 64
  pub unmarked : is_marked block.kind block.body ≡ false

abbrev pub IsExt : Ext → Type 0
IsExt (Six block) = IsBlock6 block
IsExt (Seven block) = IsBlock7 block

-- ---- those of version 7 together

-- the version 7 blocks among them
abbrev pub sevens : List Ext → List Block7Like
sevens [] = []
sevens (Six block ∷ exts) = sevens exts
sevens (Seven block ∷ exts) = block ∷ sevens exts

-- types of which a version 7 bundle has at most one block: previous node, bundle age and hop count
-- (RFC 9171, section 4.4)
abbrev pub is_single : ℕ → Bool
is_single kind = kind == 6 || kind == 7 || kind == 10

-- two blocks that don't stand in one bundle: they have one number, or one type that stands once
abbrev pub collide : Block7Like → Block7Like → Bool
collide one other = one.number == other.number || (is_single one.kind && one.kind == other.kind)

-- no two of them collide
abbrev pub are_apart : List Block7Like → Bool
are_apart [] = true
are_apart (block ∷ blocks) = not (list_any (collide block) blocks) && are_apart blocks
