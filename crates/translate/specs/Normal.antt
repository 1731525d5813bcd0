-- Bundles that are their normal form already.

use Rattle.std.specs.Prelude.{◌≡◌}
use Rattle.bundle_meaning.specs.declared.full.Full.{Full}
use Rattle.translate.specs.Sound.{IsSound}
use Rattle.translate.specs.View6.{view6_of}
use Rattle.translate.specs.View7.{view7_of}
use Rattle.translate.specs.Translation.{HasLifetime, norm6_of, norm7_of}

-- a view is its normal form, where it can be read
abbrev pub ViewIsNormal : Type 0
ViewIsNormal =
    ((full : Full) → IsSound full → HasLifetime full → norm6_of (view6_of full) ≡ view6_of full)
    × ((full : Full) → IsSound full → norm7_of (view7_of full) ≡ view7_of full)
