-- Tests and lists.

use Rattle.std.proofs.Common.{◌≡◌, Bool, true, false, List, [], ◌∷◌, ◌++◌, Some, refl, subst}
use Rattle.std.proofs.Common.{if◌then◌else◌}
use Rattle.std.specs.List.{AllByRecursion}

-- what holds of both arms
pub both_arms : {A : Type 0} (P : A → Type 0) (b : Bool) (x y : A) → P x → P y
    → P (if b then x else y)
both_arms P true x y yes_case no_case = yes_case
both_arms P false x y yes_case no_case = no_case

pub by_arms : {A : Type 0} (P : A → Type 0) (b : Bool) (x y : A) → (b ≡ true → P x)
    → (b ≡ false → P y) → P (if b then x else y)
by_arms P true x y yes_case no_case = yes_case refl
by_arms P false x y yes_case no_case = no_case refl

pub all-append : {X : Type 0} (P : X → Type 0) (xs ys : List X) → AllByRecursion P xs
    → AllByRecursion P ys → AllByRecursion P (xs ++ ys)
all-append P [] ys all_xs all_ys = all_ys
all-append P (x ∷ xs) ys all_xs all_ys = (all_xs.0, all-append P xs ys all_xs.1 all_ys)

-- what holds of what was answered
pub answered : {T : Type 0} (P : T → Type 0) (a t : T) → Some a ≡ Some t → P a → P t
answered P a t is holds =
    let same : a ≡ t = cc in
    subst P same holds
