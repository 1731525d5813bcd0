-- One of some things is such.

use Rattle.std.proofs.Common.{◌≡◌, Bool, true, false, ◌||◌, List, [], ◌∷◌, ◌++◌, map, refl, ap, ◌∙◌}
use Rattle.std.specs.List.{list_any}
use Rattle.std.proofs.lemmas.List.Folds.{list_any-append}

pub any-first : {X : Type 0} (p : X → Bool) (first more : List X) → list_any p first ≡ true → list_any p (first ++ more) ≡ true
any-first p first more is = list_any-append p first more ∙ ap (λ b. b || list_any p more) is

pub any-later : {X : Type 0} (p : X → Bool) (first more : List X) → list_any p more ≡ true → list_any p (first ++ more) ≡ true
any-later p first more is = list_any-append p first more ∙ by (list_any p first) is where
  by : (b : Bool) → list_any p more ≡ true → (b || list_any p more) ≡ true
  by true is = refl
  by false is = is

pub any-map : {X Y : Type 0} (p : X → Bool) (q : Y → Bool) (h : X → Y) → ((x : X) → q (h x) ≡ p x) → (xs : List X) → list_any q (map h xs) ≡ list_any p xs
any-map p q h same [] = refl
any-map p q h same (x ∷ xs) = ap (λ b. b || list_any q (map h xs)) (same x) ∙ ap (λ b. p x || b) (any-map p q h same xs)
