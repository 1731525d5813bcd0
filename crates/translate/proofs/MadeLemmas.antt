-- What is made is a legal bundle.

use Rattle.std.proofs.Common.{◌≡◌, Bool, true, false, not, List, [], ◌∷◌, ◌++◌, None, refl, sym, ap, ◌∙◌, subst}
use Rattle.std.specs.List.{All}
use Rattle.bundle6.specs.declared.bundle.Bundle6.{Bundle6}
use Rattle.bundle7.specs.declared.bundle.Bundle7.{Bundle7}
use Rattle.bundle6.specs.Legal.{IsLegal}
use Rattle.bundle7.specs.Legal.{IsLegal7}
use Rattle.bundle_meaning.specs.declared.full.Full.{Full}
use Rattle.translate.specs.declared.refused.Refused.{Refused}
use Rattle.translate.specs.declared.refused.Refused.TheVariants as causes
use Rattle.translate.specs.Refusals.{first_that_holds}
use Rattle.translate.specs.Sound.{IsSound}
use Rattle.translate.specs.Legal.{IsSized6, AreSized7}
use Rattle.translate.specs.View6.{view6_of, fits6}
use Rattle.translate.specs.View7.{view7_of, fits7}
use Rattle.translate.specs.Reading6.{full6_of, refusals6}
use Rattle.translate.specs.Reading7.{full7_of, refusals7}
use Rattle.translate.specs.Translation.{HoldsOctets6, HoldsOctets7, to_new_refusal, to_old_refusal, norm6_refusal, norm7_refusal}
use Rattle.translate.proofs.RefusalLemmas.{last-true}
use Rattle.translate.proofs.BackLaws.{unrefused-read6, unrefused-read7, unrefused-own6, unrefused-own7, fits-own6, fits-own7}
use Rattle.translate.proofs.Sound6Lemmas.{sound6}
use Rattle.translate.proofs.Sound7Lemmas.{sound7}
use Rattle.translate.proofs.Legal6Lemmas.{view6-legal}
use Rattle.translate.proofs.Legal7Lemmas.{view7-legal}

-- ---- one view

made6-legal : (said full : Full) (made : Bundle6) → full ≡ said → made ≡ view6_of full → All IsSized6 made.blocks
    → IsSound said → fits6 said ≡ true → IsLegal made
made6-legal said full made same is sizes sound fits =
    let whole : made ≡ view6_of said = is ∙ ap view6_of same in
    subst IsLegal (sym whole) (view6-legal said sound fits (subst (λ (b : Bundle6). All IsSized6 b.blocks) whole sizes))

made7-legal : (said full : Full) (made : Bundle7) → full ≡ said → made ≡ view7_of full → AreSized7 made
    → IsSound said → fits7 said ≡ true → IsLegal7 made
made7-legal said full made same is sizes sound fits =
    let whole : made ≡ view7_of said = is ∙ ap view7_of same in
    subst IsLegal7 (sym whole) (view7-legal said sound fits (subst AreSized7 whole sizes))

-- ---- there is room

room : (one : List (Refused × Bool)) (t : Bool) → first_that_holds one ≡ None
    → first_that_holds (one ++ (causes.TooManyBlocks, not t) ∷ []) ≡ None → t ≡ true
room one true none is = refl
room one false none is = let some = last-true one causes.TooManyBlocks true none refl in absurd (cc)

-- ---- the four calls

pub new-legal : (b : Bundle6) (full : Full) (made : Bundle7) → IsLegal b → HoldsOctets6 b → to_new_refusal b ≡ None
    → full ≡ full6_of b → made ≡ view7_of full → AreSized7 made → IsLegal7 made
new-legal b full made legal octets none same is sizes =
    let read = unrefused-read6 b none in
    made7-legal (full6_of b) full made same is sizes (sound6 b legal octets read) (room (refusals6 b) (fits7 (full6_of b)) read none)

pub old-legal : (b : Bundle7) (full : Full) (made : Bundle6) → IsLegal7 b → HoldsOctets7 b → to_old_refusal b ≡ None
    → full ≡ full7_of b → made ≡ view6_of full → All IsSized6 made.blocks → IsLegal made
old-legal b full made legal octets none same is sizes =
    let read = unrefused-read7 b none in
    made6-legal (full7_of b) full made same is sizes (sound7 b legal octets read) (room (refusals7 b) (fits6 (full7_of b)) read none)

pub norm6-legal : (b : Bundle6) (full : Full) (made : Bundle6) → IsLegal b → HoldsOctets6 b → norm6_refusal b ≡ None
    → full ≡ full6_of b → made ≡ view6_of full → All IsSized6 made.blocks → IsLegal made
norm6-legal b full made legal octets none same is sizes =
    let read = unrefused-own6 b none in
    made6-legal (full6_of b) full made same is sizes (sound6 b legal octets read) (fits-own6 b legal read)

pub norm7-legal : (b : Bundle7) (full : Full) (made : Bundle7) → IsLegal7 b → HoldsOctets7 b → norm7_refusal b ≡ None
    → full ≡ full7_of b → made ≡ view7_of full → AreSized7 made → IsLegal7 made
norm7-legal b full made legal octets none same is sizes =
    let read = unrefused-own7 b none in
    made7-legal (full7_of b) full made same is sizes (sound7 b legal octets read) (fits-own7 b legal read)
