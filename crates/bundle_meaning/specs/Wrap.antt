-- Wraps: an extension block of the other version, whole (own).

use Rattle.std.specs.Prelude.{ℕ, ◌==◌, ◌&&◌, not, nat_le, nat_lt, List, ◌++◌, length}
use Rattle.std.specs.List.{flat_map}
use Rattle.sdnv.specs.Shortest.{spelling}
use Rattle.endpoint.specs.declared.name.Endpoint.{Endpoint}
use Rattle.wire_fields.specs.Format.{Format, give, such_that, ◌>>=◌}
use Rattle.wire_fields.specs.Words.{needs, listed}
use Rattle.bundle_meaning.specs.declared.fault.BlockFault.{BlockFault}
use Rattle.bundle_meaning.specs.declared.fault.BlockFault.TheVariants.{Bad}
use Rattle.bundle_meaning.specs.declared.blocks.Block6Like.{Block6Like}
use Rattle.bundle_meaning.specs.declared.blocks.Block7Like.{Block7Like}
use Rattle.bundle_meaning.specs.Bits.{block_marks}
use Rattle.bundle_meaning.specs.Blocks.{mark}
use Rattle.bundle_meaning.specs.Body.{the_mark, shortest, below, flags_without, name, all_left, name_octets}

-- ---- in a version 6 bundle: a block of version 7

abbrev pub kind7 : Format BlockFault ℕ
kind7 = such_that shortest (λ kind. needs (not (kind == 1)) Bad)

abbrev pub number7 : Format BlockFault ℕ
number7 = such_that shortest (λ number. needs (nat_le 2 number) Bad)

-- type, number, flags and check of the block, and then all octets of its body
unfoldable pub wrap_old : ℕ → Format BlockFault Block7Like
wrap_old size = do
  front ← the_mark
  kind ← kind7
  number ← number7
  flags ← shortest
  crc ← below 3
  body ← all_left size
  give (record { kind = kind; number = number; flags = flags; crc = crc; body = body })

-- its octets
unfoldable pub wrap_old_octets : Block7Like → List ℕ
wrap_old_octets block =
    mark ++ (spelling block.kind ++ (spelling block.number ++ (spelling block.flags
    ++ (spelling block.crc ++ block.body))))

-- ---- in a version 7 bundle: a block of version 6

abbrev pub kind6 : Format BlockFault ℕ
kind6 = such_that shortest (λ kind. needs (nat_lt kind 256 && not (kind == 1)) Bad)

-- how many references there are, and each
unfoldable pub references : Format BlockFault (List Endpoint)
references = do
  count ← shortest
  listed count (λ earlier. name)

-- type and flags of the block, its references, and then all octets of its body
unfoldable pub wrap_new : ℕ → Format BlockFault Block6Like
wrap_new size = do
  front ← the_mark
  kind ← kind6
  flags ← flags_without block_marks
  refs ← references
  body ← all_left size
  give (record { kind = kind; flags = flags; refs = refs; body = body })

-- its octets
unfoldable pub wrap_new_octets : Block6Like → List ℕ
wrap_new_octets block =
    mark ++ (spelling block.kind ++ (spelling block.flags ++ ((spelling (length block.refs)
    ++ flat_map name_octets block.refs) ++ block.body)))
