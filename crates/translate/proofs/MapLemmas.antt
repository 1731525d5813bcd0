-- A list of which each element becomes what f gives of it, one after the other.

use Rattle.std.proofs.Common.{◌≡◌, ℕ, suc, ◌+◌, ◌-◌, ◌<◌, ◌≤◌, List, [], ◌∷◌, ◌++◌, map, length, take, drop, get_or, set, sym, ap, ◌∙◌, arith, append_assoc, drop-cons}
use Rattle.std.proofs.lemmas.List.{length-map, length-take-le, map-append, take_more, set_at, get_or-append_right, take_all, drop_all, append-nil}

-- so far
abbrev pub become : {X : Type 0} → (X → X) → ℕ → List X → List X
become f at xs = map f (take at xs) ++ drop at xs

split : {X : Type 0} (f : X → X) (xs : List X) (at : ℕ) (d : X) → at < length xs
    → become f at xs ≡ map f (take at xs) ++ (get_or xs at d ∷ drop (suc at) xs)
split f xs at d within = ap (λ more. map f (take at xs) ++ more) (drop-cons xs at d within)

front-size : {X : Type 0} (f : X → X) (xs : List X) (at : ℕ) → at < length xs → length (map f (take at xs)) ≡ at
front-size f xs at within = length-map (take at xs) f ∙ length-take-le at xs (omega arith)

-- the next one is as it was
pub become-next : {X : Type 0} (f : X → X) (xs : List X) (at : ℕ) (d : X) → at < length xs → get_or (become f at xs) at d ≡ get_or xs at d
become-next f xs at d within =
    let none : at - at ≡ 0 = omega arith in
    ap (λ ys. get_or ys at d) (split f xs at d within)
    ∙ (get_or-append_right (map f (take at xs)) (get_or xs at d ∷ drop (suc at) xs) at at d (front-size f xs at within) (omega arith)
    ∙ ap (λ k. get_or (get_or xs at d ∷ drop (suc at) xs) k d) none)

pub become-more : {X : Type 0} (f : X → X) (xs : List X) (at : ℕ) (y d : X) → at < length xs → y ≡ f (get_or xs at d)
    → set (become f at xs) at y ≡ become f (at + 1) xs
become-more f xs at y d within is =
    let next : at + 1 ≡ suc at = omega arith in
    ap (λ ys. set ys at y) (split f xs at d within)
    ∙ (set_at (map f (take at xs)) (get_or xs at d) (drop (suc at) xs) y at (front-size f xs at within)
    ∙ (ap (λ z. map f (take at xs) ++ z ∷ drop (suc at) xs) is
    ∙ (sym (append_assoc (map f (take at xs)) (f (get_or xs at d) ∷ []) (drop (suc at) xs))
    ∙ (ap (λ ys. ys ++ drop (suc at) xs) (sym (map-append f (take at xs) (get_or xs at d ∷ [])))
    ∙ (ap (λ ys. map f ys ++ drop (suc at) xs) (sym (take_more xs at d within))
    ∙ ap (λ n. map f (take (at + 1) xs) ++ drop n xs) (sym next))))))

pub become-all : {X : Type 0} (f : X → X) (xs : List X) (at : ℕ) → length xs ≤ at → become f at xs ≡ map f xs
become-all f xs at past = rw (take_all at xs past, drop_all at xs past) (append-nil (map f xs))
