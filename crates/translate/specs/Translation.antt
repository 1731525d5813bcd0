-- Translation there and back.

use Rattle.std.specs.Prelude.{◌≡◌, ◌+◌, ◌-◌, ◌*◌, ◌%◌, ◌^◌, ◌<◌, ◌≤◌, true, not, length, [], ◌∷◌, ◌++◌, Option, Some, None}
use Rattle.std.specs.List.{All, list_all}
use Rattle.wire_fields.specs.Reading.{IsOctets}
use Rattle.bundle6.specs.declared.bundle.Bundle6.{Bundle6}
use Rattle.bundle6.specs.Table.{others}
use Rattle.bundle6.specs.Legal as six
use Rattle.bundle7.specs.declared.bundle.Bundle7.{Bundle7}
use Rattle.bundle7.specs.Legal as seven
use Rattle.bundle_meaning.specs.declared.full.Full.{Full}
use Rattle.bundle_meaning.specs.Blocks.{is_marked}
use Rattle.bundle_meaning.specs.Creation.{id6_of}
use Rattle.bundle_meaning.specs.Expiry.{lifetime6_of, slack_of}
use Rattle.translate.specs.declared.refused.Refused.{Refused}
use Rattle.translate.specs.declared.refused.Refused.TheVariants as causes
use Rattle.translate.specs.Sound.{IsSound}
use Rattle.translate.specs.View6.{view6_of, fits6}
use Rattle.translate.specs.View7.{view7_of, fits7}
use Rattle.translate.specs.Refusals.{first_that_holds}
use Rattle.translate.specs.Reading6.{Reads6, refusals6, full6_of}
use Rattle.translate.specs.Reading7.{Reads7, refusals7, full7_of}
use Rattle.translate.specs.Paired.{IsPaired}

-- ---- the other version, and the bundle's own view

-- the version 7 bundle that a version 6 one becomes, and the normal form of a version 6 bundle
abbrev pub there6 : Bundle6 → Bundle7
there6 b = view7_of (full6_of b)

abbrev pub norm6_of : Bundle6 → Bundle6
norm6_of b = view6_of (full6_of b)

abbrev pub there7 : Bundle7 → Bundle6
there7 b = view6_of (full7_of b)

abbrev pub norm7_of : Bundle7 → Bundle7
norm7_of b = view7_of (full7_of b)

-- ---- refusals of the translation: those of the reading, and then of the view that is wanted

abbrev pub to_new_refusal : Bundle6 → Option Refused
to_new_refusal b = first_that_holds (refusals6 b ++ (causes.TooManyBlocks, not (fits7 (full6_of b))) ∷ [])

abbrev pub to_old_refusal : Bundle7 → Option Refused
to_old_refusal b = first_that_holds (refusals7 b ++ (causes.TooManyBlocks, not (fits6 (full7_of b))) ∷ [])

abbrev pub norm6_refusal : Bundle6 → Option Refused
norm6_refusal b = first_that_holds (refusals6 b ++ (causes.TooManyBlocks, not (fits6 (full6_of b))) ∷ [])

abbrev pub norm7_refusal : Bundle7 → Option Refused
norm7_refusal b = first_that_holds (refusals7 b ++ (causes.TooManyBlocks, not (fits7 (full7_of b))) ∷ [])

-- ---- a legal bundle that isn't refused reads as a sound record

-- the bodies of all blocks are octets, as those of every bundle of the program are
abbrev pub HoldsOctets6 : Bundle6 → Type 0
HoldsOctets6 b = All (λ block. IsOctets block.body) b.blocks

pub record HoldsOctets7 (b : Bundle7) : Type 0 where
  pub exts : All (λ block. IsOctets block.body) b.exts
  pub payload : IsOctets b.payload.body

abbrev pub ReadsSoundly6 : Type 0
ReadsSoundly6 = (b : Bundle6) → six.IsLegal b → HoldsOctets6 b
    → first_that_holds (refusals6 b) ≡ None → IsSound (full6_of b)

abbrev pub ReadsSoundly7 : Type 0
ReadsSoundly7 = (b : Bundle7) → seven.IsLegal7 b → HoldsOctets7 b
    → first_that_holds (refusals7 b) ≡ None → IsSound (full7_of b)

-- ---- laws

-- a bundle without blocks of the gateway's own
abbrev pub IsPlain6 : Bundle6 → Type 0
IsPlain6 b = list_all (λ block. not (is_marked block.kind block.body)) b.blocks ≡ true

abbrev pub IsPlain7 : Bundle7 → Type 0
IsPlain7 b = list_all (λ block. not (is_marked block.kind block.body)) b.exts ≡ true

-- a legal bundle whose translation isn't refused
pub record IsTranslatable6 (b : Bundle6) : Type 0 where
  pub legal : six.IsLegal b
  pub octets : HoldsOctets6 b
  pub unrefused : to_new_refusal b ≡ None

-- and in version 7 its lifetime, lengthened to whole seconds, is still a number of version 7
pub record IsTranslatable7 (b : Bundle7) : Type 0 where
  pub legal : seven.IsLegal7 b
  pub octets : HoldsOctets7 b
  pub unrefused : to_old_refusal b ≡ None
  pub lifetime : b.primary.lifetime + slack_of (full7_of b).shared < 2 ^ 64

-- the lifetime in whole seconds, seen from version 7, is a number
abbrev pub HasLifetime : Full → Type 0
HasLifetime full =
    1000 * lifetime6_of full.shared - (id6_of full.shared.millis full.shared.sequence).sequence % 1000 < 2 ^ 64

-- a version 6 view is read as the record of which it is the view
abbrev pub View6Reads : Type 0
View6Reads = (full : Full) → IsSound full → HasLifetime full → Reads6 (view6_of full) full

-- and a version 7 view
abbrev pub View7Reads : Type 0
View7Reads = (full : Full) → IsSound full → Reads7 (view7_of full) full

-- a view has no more extension blocks than a bundle that reads as its record
abbrev pub NoMoreBlocks : Type 0
NoMoreBlocks =
    ((b : Bundle6) (full : Full) → Reads6 b full → others (view6_of full).blocks ≤ others b.blocks)
    × ((b : Bundle7) (full : Full) → Reads7 b full → length (view7_of full).exts ≤ length b.exts)

-- a bundle that is translated comes back as its normal form
abbrev pub ThereAndBack : Type 0
ThereAndBack =
    ((b : Bundle6) → IsTranslatable6 b → (to_old_refusal (there6 b) ≡ None) × (there7 (there6 b) ≡ norm6_of b))
    × ((b : Bundle7) → IsTranslatable7 b → (to_new_refusal (there7 b) ≡ None) × (there6 (there7 b) ≡ norm7_of b))

-- a version 7 bundle whose lifetime, lengthened to whole seconds, is no number of version 7 is
-- translated, and what it becomes is refused on the way back
abbrev pub LateIsRefused : Type 0
LateIsRefused = (b : Bundle7) → seven.IsLegal7 b → HoldsOctets7 b → to_old_refusal b ≡ None
    → 2 ^ 64 ≤ b.primary.lifetime + slack_of (full7_of b).shared
    → to_new_refusal (there7 b) ≡ Some causes.TimeTooLarge

-- a bundle, what it becomes, and its normal form say the same
abbrev pub SaysTheSame : Type 0
SaysTheSame =
    ((b : Bundle6) → IsTranslatable6 b → IsPaired b (there6 b) × IsPaired (norm6_of b) (there6 b))
    × ((b : Bundle7) → IsTranslatable7 b → IsPaired (there7 b) b × IsPaired (there7 b) (norm7_of b))

-- a bundle without blocks of the gateway's own is its normal form
abbrev pub PlainIsNormal : Type 0
PlainIsNormal =
    ((b : Bundle6) → IsTranslatable6 b → IsPlain6 b → norm6_of b ≡ b)
    × ((b : Bundle7) → IsTranslatable7 b → IsPlain7 b → norm7_of b ≡ b)
