-- Lists of which no two are related, and what of them is on a link.

use Rattle.std.proofs.Common.{◌≡◌, List, [], ◌∷◌, ◌++◌, map, refl, sym, ◌∙◌, ap, subst, inl, inr}
use Rattle.std.specs.List.{AllByRecursion}
use Rattle.ltp_laws.specs.View.{IsIn}
use Rattle.gate_cases.specs.declared.face.Face.{Face}
use Rattle.gate_cases.specs.declared.face.Face.TheVariants as faces
use Rattle.path_laws.specs.declared.places.Place.{Place}
use Rattle.path_laws.specs.Places.{link_of, if_link, on_link}
use Rattle.path_laws.specs.Laws.{NoTwo}

-- ---- what is in a list

pub in-left : {X : Type 0} (x : X) (xs ys : List X) → IsIn x xs → IsIn x (xs ++ ys)
in-left x [] ys is = absurd is
in-left x (z ∷ xs) ys (inl same) = inl same
in-left x (z ∷ xs) ys (inr is) = inr (in-left x xs ys is)

pub in-right : {X : Type 0} (x : X) (xs ys : List X) → IsIn x ys → IsIn x (xs ++ ys)
in-right x [] ys is = is
in-right x (z ∷ xs) ys is = inr (in-right x xs ys is)

pub all-in : {X : Type 0} (P : X → Type 0) (xs : List X) → AllByRecursion P xs → (x : X) → IsIn x xs → P x
all-in P [] all x is = absurd is
all-in P (z ∷ xs) all x (inl same) = subst P same all.0
all-in P (z ∷ xs) all x (inr is) = all-in P xs all.1 x is

pub all-of : {X : Type 0} (P : X → Type 0) (xs : List X) → ((x : X) → IsIn x xs → P x) → AllByRecursion P xs
all-of P [] each = tt
all-of P (z ∷ xs) each = (each z (inl refl), all-of P xs (λ x is. each x (inr is)))

pub all-more : {X : Type 0} (P : X → Type 0) (xs ys : List X) → AllByRecursion P xs → AllByRecursion P ys → AllByRecursion P (xs ++ ys)
all-more P [] ys all_xs all_ys = all_ys
all-more P (x ∷ xs) ys all_xs all_ys = (all_xs.0, all-more P xs ys all_xs.1 all_ys)

-- what a list is made of
pub record Made {X Y : Type 0} (made : X → Y) (xs : List X) (y : Y) : Type 0 where
  pub x : X
  pub among : IsIn x xs
  pub is : made x ≡ y

pub made-in : {X Y : Type 0} (made : X → Y) (xs : List X) (y : Y) → IsIn y (map made xs) → Made made xs y
made-in made [] y is = absurd is
made-in made (x ∷ xs) y (inl same) = record { x = x; among = inl refl; is = same }
made-in made (x ∷ xs) y (inr is) = let rest = made-in made xs y is in record { x = rest.x; among = inr rest.among; is = rest.is }

-- ---- what is on a link

-- something is on this link, or it isn't
by-link : {X : Type 0} (P : List X → Type 0) (face at : Face) (x : X) → (at ≡ face → P (x ∷ [])) → P [] → P (if_link face at x)
by-link P faces.Old faces.Old x here there = here refl
by-link P faces.Old faces.New x here there = there
by-link P faces.New faces.Old x here there = there
by-link P faces.New faces.New x here there = here refl

pub in-link : {X Y : Type 0} (place : X → Place) (made : X → Y) (face : Face) (xs : List X) (x : X) → IsIn x xs → link_of (place x) ≡ face → IsIn (made x) (on_link place made face xs)
unfolding on_link
in-link place made face [] x is on = absurd is
in-link place made face (z ∷ xs) x (inl same) on =
    in-left (made x) (if_link face (link_of (place z)) (made z)) (on_link place made face xs)
    (subst (λ f. IsIn (made x) (if_link face f (made z))) (sym (ap (λ y. link_of (place y)) same ∙ on)) (alone face))
  where
    alone : (face : Face) → IsIn (made x) (if_link face face (made z))
    alone faces.Old = inl (ap made same)
    alone faces.New = inl (ap made same)
in-link place made face (z ∷ xs) x (inr is) on =
    in-right (made x) (if_link face (link_of (place z)) (made z)) (on_link place made face xs) (in-link place made face xs x is on)

pub record OnLink {X Y : Type 0} (place : X → Place) (made : X → Y) (face : Face) (xs : List X) (y : Y) : Type 0 where
  pub x : X
  pub among : IsIn x xs
  pub on : link_of (place x) ≡ face
  pub is : made x ≡ y

pub link-in : {X Y : Type 0} (place : X → Place) (made : X → Y) (face : Face) (xs : List X) (y : Y) → IsIn y (on_link place made face xs) → OnLink place made face xs y
unfolding on_link
link-in place made face [] y is = absurd is
link-in place made face (z ∷ xs) y is =
    by-link (λ l. IsIn y (l ++ on_link place made face xs) → OnLink place made face (z ∷ xs) y) face (link_of (place z)) (made z)
    (λ on here. first (λ more. link-in place made face xs y more) on here) (λ more. later (link-in place made face xs y more)) is
  where
    later : OnLink place made face xs y → OnLink place made face (z ∷ xs) y
    later rest = record { x = rest.x; among = inr rest.among; on = rest.on; is = rest.is }

    first : (IsIn y (on_link place made face xs) → OnLink place made face xs y) → link_of (place z) ≡ face → IsIn y (made z ∷ on_link place made face xs) → OnLink place made face (z ∷ xs) y
    first goes on (inl same) = record { x = z; among = inl refl; on = on; is = same }
    first goes on (inr is) = later (goes is)

-- ---- no two

pub no-two-left : {X : Type 0} (R : X → X → Type 0) (xs ys : List X) → NoTwo R (xs ++ ys) → NoTwo R xs
no-two-left R [] ys none = tt
no-two-left R (x ∷ xs) ys none = (all-of (λ y. R x y → ⊥) xs (λ y is. all-in (λ z. R x z → ⊥) (xs ++ ys) none.0 y (in-left y xs ys is)), no-two-left R xs ys none.1)

pub no-two-right : {X : Type 0} (R : X → X → Type 0) (xs ys : List X) → NoTwo R (xs ++ ys) → NoTwo R ys
no-two-right R [] ys none = none
no-two-right R (x ∷ xs) ys none = no-two-right R xs ys none.1

-- one of the first and one of the others aren't related
pub no-two-apart : {X : Type 0} (R : X → X → Type 0) (xs ys : List X) → NoTwo R (xs ++ ys) → (x y : X) → IsIn x xs → IsIn y ys → R x y → ⊥
no-two-apart R [] ys none x y in_xs in_ys related = absurd in_xs
no-two-apart R (z ∷ xs) ys none x y (inl same) in_ys related =
    all-in (λ w. R z w → ⊥) (xs ++ ys) none.0 y (in-right y xs ys in_ys) (subst (λ w. R w y) (sym same) related)
no-two-apart R (z ∷ xs) ys none x y (inr is) in_ys related = no-two-apart R xs ys none.1 x y is in_ys related

pub no-two-more : {X : Type 0} (R : X → X → Type 0) (xs ys : List X) → NoTwo R xs → NoTwo R ys → ((x y : X) → IsIn x xs → IsIn y ys → R x y → ⊥) → NoTwo R (xs ++ ys)
no-two-more R [] ys no_xs no_ys apart = no_ys
no-two-more R (x ∷ xs) ys no_xs no_ys apart = (
  all-more (λ y. R x y → ⊥) xs ys no_xs.0 (all-of (λ y. R x y → ⊥) ys (λ y is. apart x y (inl refl) is)),
  no-two-more R xs ys no_xs.1 no_ys (λ z y in_xs in_ys. apart z y (inr in_xs) in_ys),
)

-- what holds of what is made holds of what it is made of
pub no-two-made : {X Y : Type 0} (R : Y → Y → Type 0) (S : X → X → Type 0) (made : X → Y) (xs : List X)
    → ((x y : X) → IsIn x xs → IsIn y xs → R (made x) (made y) → S x y) → NoTwo S xs → NoTwo R (map made xs)
no-two-made R S made [] gives none = tt
no-two-made R S made (x ∷ xs) gives none = (
  all-of (λ y. R (made x) y → ⊥) (map made xs)
      (λ y is related. let m = made-in made xs y is in
      all-in (λ z. S x z → ⊥) xs none.0 m.x m.among (gives x m.x (inl refl) (inr m.among) (subst (λ w. R (made x) w) (sym m.is) related))),
  no-two-made R S made xs (λ z y in_z in_y. gives z y (inr in_z) (inr in_y)) none.1,
)

-- where no two are related on either link, none two are, if related ones are on one link
pub no-two-links : {X Y : Type 0} (R : X → X → Type 0) (S : Y → Y → Type 0) (place : X → Place) (made : X → Y)
    → ((x y : X) → R x y → link_of (place x) ≡ link_of (place y)) → ((x y : X) → R x y → S (made x) (made y))
    → (xs : List X) → ((face : Face) → NoTwo S (on_link place made face xs)) → NoTwo R xs
unfolding on_link
no-two-links R S place made one_link gives [] each = tt
no-two-links R S place made one_link gives (x ∷ xs) each = (
  all-of (λ y. R x y → ⊥) xs (λ y is related.
      no-two-apart S (made x ∷ []) (on_link place made (link_of (place x)) xs) (at_its (each (link_of (place x)))) (made x) (made y) (inl refl)
      (in-link place made (link_of (place x)) xs y is (sym (one_link x y related))) (gives x y related)),
  no-two-links R S place made one_link gives xs (λ face. no-two-right S (if_link face (link_of (place x)) (made x)) (on_link place made face xs) (each face)),
) where
  alone : (face : Face) → if_link face face (made x) ≡ made x ∷ []
  alone faces.Old = refl
  alone faces.New = refl

  at_its : NoTwo S (if_link (link_of (place x)) (link_of (place x)) (made x) ++ on_link place made (link_of (place x)) xs)
      → NoTwo S ((made x ∷ []) ++ on_link place made (link_of (place x)) xs)
  at_its none = subst (λ l. NoTwo S (l ++ on_link place made (link_of (place x)) xs)) (alone (link_of (place x))) none
