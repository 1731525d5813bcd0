-- Views are legal bundles.

use Rattle.std.specs.Prelude.{◌≡◌, ◌^◌, ◌<◌, true, length}
use Rattle.std.specs.List.{All}
use Rattle.bundle6.specs.declared.block.Block6.{Block6}
use Rattle.bundle6.specs.Legal as six
use Rattle.bundle7.specs.declared.block.Block7.{Block7}
use Rattle.bundle7.specs.declared.bundle.Bundle7.{Bundle7}
use Rattle.bundle7.specs.Legal as seven
use Rattle.bundle_meaning.specs.declared.full.Full.{Full}
use Rattle.translate.specs.Sound.{IsSound}
use Rattle.translate.specs.View6.{view6_of, fits6}
use Rattle.translate.specs.View7.{view7_of, fits7}

-- numbers say how many octets each block has, as in every bundle of the program
abbrev pub IsSized6 : Block6 → Type 0
IsSized6 block = length block.body < 2 ^ 64

abbrev pub IsSized7 : Block7 → Type 0
IsSized7 block = length block.body < 2 ^ 64

pub record AreSized7 (b : Bundle7) : Type 0 where
  pub exts : All IsSized7 b.exts
  pub payload : IsSized7 b.payload

-- a view with room for its blocks is a legal bundle
abbrev pub View6IsLegal : Type 0
View6IsLegal = (full : Full) → IsSound full → fits6 full ≡ true
    → All IsSized6 (view6_of full).blocks → six.IsLegal (view6_of full)

abbrev pub View7IsLegal : Type 0
View7IsLegal = (full : Full) → IsSound full → fits7 full ≡ true
    → AreSized7 (view7_of full) → seven.IsLegal7 (view7_of full)
