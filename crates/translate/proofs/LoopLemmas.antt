-- Loops that pass over a list, an item at a time.

use Rattle.std.proofs.Common.{◌≡◌, ℕ, ◌+◌, ◌<◌, ◌≤◌, Bool, true, ◌&&◌, List, length, get_or, take, drop, sym, ap, ◌∙◌, subst, take_all}
use Rattle.std.proofs.lemmas.List.{drop_more}
use Rattle.std.proofs.lemmas.List.Elements.{All-more}
use Rattle.std.specs.List.{All, list_all}

-- one item passed the test
pub all-step : {X : Type 0} (p : X → Bool) (xs : List X) (i : ℕ) (x : X) → i < length xs → x ≡ get_or xs i x → p x ≡ true
    → list_all p (drop i xs) ≡ list_all p xs → list_all p (drop (i + 1) xs) ≡ list_all p xs
all-step p xs i x within is good so =
    let more = drop_more xs i x within in
    let first : p (get_or xs i x) ≡ true = ap p (sym is) ∙ good in
    sym (ap (list_all p) more ∙ ap (λ b. b && list_all p (drop (i + 1) xs)) first) ∙ so

-- and has what those before it have
pub have-step : {X : Type 0} (P : X → Type 0) (xs : List X) (i : ℕ) (x : X) → i < length xs → x ≡ get_or xs i x → P x
    → All P (take i xs) → All P (take (i + 1) xs)
have-step P xs i x within is holds so = All-more P xs i x within so (subst P is holds)

pub have-all : {X : Type 0} (P : X → Type 0) (xs : List X) (i : ℕ) → length xs ≤ i → All P (take i xs) → All P xs
have-all P xs i end so = subst (λ ys. All P ys) (take_all i xs end) so
