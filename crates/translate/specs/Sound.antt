-- Sound records: valid ones whose version 7 blocks have bodies that their types may have.

use Rattle.std.specs.List.{All}
use Rattle.bundle7.specs.Body.{IsBody}
use Rattle.bundle_meaning.specs.declared.blocks.Block7Like.{Block7Like}
use Rattle.bundle_meaning.specs.declared.full.Full.{Full}
use Rattle.bundle_meaning.specs.Blocks.{sevens}
use Rattle.bundle_meaning.specs.Valid.{IsValid}

-- a previous node, a bundle age or a hop count has a body of its own kind; others have any
abbrev pub HasBody : Block7Like → Type 0
HasBody block = IsBody block.kind block.body

pub record IsSound (full : Full) : Type 0 where
  pub valid : IsValid full
  pub bodies : All HasBody (sevens full.exts)
