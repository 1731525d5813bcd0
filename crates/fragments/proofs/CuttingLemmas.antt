-- Pieces, one after another.

use Rattle.std.proofs.Common.{◌≡◌, ℕ, zero, suc, ◌+◌, ◌-◌, ◌*◌, ◌/◌, ◌<◌, ◌≤◌, Bool, true, false, List, [], ◌∷◌, ◌++◌, length, take, drop, get_or, append-nil, refl, sym, ap, ◌∙◌, arith}
use Rattle.std.specs.List.{filter, flat_map}
use Rattle.std.proofs.lemmas.List.{take_more, take_all, drop-drop}
use Rattle.std.proofs.lemmas.List.Elements.{filter-append}
use Rattle.std.proofs.Math.Nat.{div-mul-le_self, mul-le-mul_right, lt-div-mul-add}
use Rattle.std.proofs.Math.Seq.{take-add}
use Rattle.bundle_meaning.specs.declared.full.Full.{Full}
use Rattle.fragments.specs.Cutting.{octets_in, how_many, is_longer, piece, pieces_from, pieces}
use Rattle.fragments.specs.Ends.{payload_of, LieEndToEnd}

-- ---- blocks

pub filter-push : {X : Type 0} (p : X → Bool) (xs : List X) (i : ℕ) (d : X) → i < length xs
    → filter p (take (i + 1) xs) ≡ filter p (take i xs) ++ filter p (get_or xs i d ∷ [])
filter-push p xs i d within = ap (filter p) (take_more xs i d within) ∙ filter-append p (take i xs) (get_or xs i d ∷ [])

-- ---- pieces

pub pieces-none : (full : Full) (size i : ℕ) → pieces_from full size i 0 ≡ []
unfolding pieces_from
pieces-none full size i = refl

pieces-next : (full : Full) (size i n : ℕ)
    → pieces_from full size i (suc n) ≡ pieces_from full size i n ++ piece full size (i + n) ∷ []
unfolding pieces_from
pieces-next full size i zero = let same : i + 0 ≡ i = omega arith in rw same refl
pieces-next full size i (suc n) =
    let rest = pieces-next full size (i + 1) n in
    let same : i + 1 + n ≡ i + suc n = omega arith in
    ap (λ fulls. piece full size i ∷ fulls) (rest ∙ ap (λ m. pieces_from full size (i + 1) n ++ piece full size m ∷ []) same)

pub pieces-push : (full : Full) (size n : ℕ) → pieces_from full size 0 (n + 1) ≡ pieces_from full size 0 n ++ piece full size n ∷ []
pieces-push full size n =
    let more : n + 1 ≡ suc n = omega arith in
    let same : 0 + n ≡ n = omega arith in
    ap (λ m. pieces_from full size 0 m) more ∙ pieces-next full size 0 n ∙ ap (λ m. pieces_from full size 0 n ++ piece full size m ∷ []) same

-- a piece that there is begins before the end
pub begins-within : (size i : ℕ) (octets : List ℕ) → 0 < length octets → i < how_many size octets → i * size < length octets
begins-within size i octets some within =
    let low : (length octets - 1) / size * size ≤ length octets - 1 = div-mul-le_self (length octets - 1) size in
    let less : i ≤ (length octets - 1) / size = omega (arith, within) in
    let under : i * size ≤ (length octets - 1) / size * size = mul-le-mul_right size less in
    omega (arith, low, under, some)

-- ---- end to end

product-suc : (size i : ℕ) → (i + 1) * size ≡ i * size + size
product-suc size i = omega arith

pub lie-from : (full : Full) (size i n : ℕ)
    → flat_map payload_of (pieces_from full size i n) ≡ take (n * size) (drop (i * size) (payload_of full))
unfolding pieces_from
lie-from full size i zero = let none : 0 * size ≡ 0 = omega arith in ap (λ k. take k (drop (i * size) (payload_of full))) (sym none)
lie-from full size i (suc n) =
    let octets = payload_of full in
    let rest = lie-from full size (i + 1) n in
    let later : drop ((i + 1) * size) octets ≡ drop size (drop (i * size) octets) =
    ap (λ k. drop k octets) (product-suc size i) ∙ sym (drop-drop size (i * size) octets) in
    let sum : size + n * size ≡ suc n * size = omega arith in
    ap (λ more. octets_in size i octets ++ more) (rest ∙ ap (λ t. take (n * size) t) later)
    ∙ sym (take-add size (n * size) (drop (i * size) octets)) ∙ ap (λ k. take k (drop (i * size) octets)) sum

-- there is room in them for all octets
pub reaches-end : (size : ℕ) (octets : List ℕ) → 0 < size → length octets ≤ how_many size octets * size
reaches-end size octets some =
    let low : length octets - 1 < (length octets - 1) / size * size + size = lt-div-mul-add some in
    let sum : ((length octets - 1) / size + 1) * size ≡ (length octets - 1) / size * size + size =
    product-suc size ((length octets - 1) / size) in
    omega (arith, low, sum)

pub end-to-end : LieEndToEnd
end-to-end full size some = by (is_longer full size) refl
  where
    by : (longer : Bool) → is_longer full size ≡ longer → flat_map payload_of (pieces full size) ≡ payload_of full
    by true is =
        let octets = payload_of full in
        let count = how_many size octets in
        let zero_times : 0 * size ≡ 0 = omega arith in
        rw is (lie-from full size 0 count ∙ ap (λ k. take (count * size) (drop k octets)) zero_times
        ∙ take_all (count * size) octets (reaches-end size octets some))
    by false is = rw is (append-nil (payload_of full))
