-- A record that a bundle reads as is what the bundle says.

use Rattle.std.proofs.Common.{◌≡◌, refl, sym, ◌∙◌}
use Rattle.bundle6.specs.declared.bundle.Bundle6.{Bundle6}
use Rattle.bundle7.specs.declared.bundle.Bundle7.{Bundle7}
use Rattle.bundle_meaning.specs.declared.full.Full.{Full}
use Rattle.translate.specs.Reading6.{Reads6, full6_of}
use Rattle.translate.specs.Reading7.{Reads7, full7_of}

pub read6-is : (b : Bundle6) (full : Full) → Reads6 b full → full6_of b ≡ full
read6-is b full reads =
    let eta : full ≡ record { shared = full.shared; extra6 = full.extra6; extra7 = full.extra7; exts = full.exts } = refl in
    sym (eta ∙ rw (reads.shared, reads.extra6, reads.extra7, reads.exts) refl)

pub read7-is : (b : Bundle7) (full : Full) → Reads7 b full → full7_of b ≡ full
read7-is b full reads =
    let eta : full ≡ record { shared = full.shared; extra6 = full.extra6; extra7 = full.extra7; exts = full.exts } = refl in
    sym (eta ∙ rw (reads.shared, reads.extra6, reads.extra7, reads.exts) refl)
