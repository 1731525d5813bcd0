-- Types as a bundle of the gateway has them, and as one of the wire has them.

use Rattle.std.specs.Prelude.{ℕ}
use Rattle.bundle_meaning.specs.Blocks.{residue_kind, wrap_kind}
use Rattle.block_types.specs.declared.types.BlockTypes.{BlockTypes}
use Rattle.block_types.specs.Pair.{swap}

-- 192 and the residue's type change places, and 193 and the wrap's
unfoldable pub swapped : BlockTypes → ℕ → ℕ
swapped types kind = swap wrap_kind types.wrap (swap residue_kind types.residue kind)
