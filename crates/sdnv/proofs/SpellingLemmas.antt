-- How many octets go on, and the sum of a text, of a front and of one octet more.

use Rattle.std.proofs.Common.{◌≡◌, ℕ, zero, suc, ◌+◌, ◌*◌, ◌%◌, ◌^◌, ◌<◌, ◌≤◌, Bool, true, false, cond, List, [], ◌∷◌, ◌++◌, length, take, min, arith, length-append, lit<}
use Rattle.std.proofs.Math.Nat.{pow-suc, mul-le-mul_right, pow-le-pow_right}
use Rattle.std.proofs.lemmas.Nat.{pow-add}
use Rattle.std.proofs.lemmas.List.Sums.{prefix_len-le-length}
use Rattle.sdnv.specs.Spelling.{goes_on, high_count, sum_of}

-- no more octets go on than there are
pub high_count-le : (text : List ℕ) → high_count text ≤ length text
high_count-le text = prefix_len-le-length goes_on text

cons_count : (b : Bool) (n k m : ℕ) → m ≡ min n k → cond b (1 + m) 0 ≡ min (suc n) (cond b (1 + k) 0)
cons_count true n k m is = omega arith
cons_count false n k m is = omega arith

-- of a front as many go on as of the whole, or all
pub high_count-take : (n : ℕ) (text : List ℕ) → high_count (take n text) ≡ min n (high_count text)
high_count-take zero text = omega arith
high_count-take (suc n) [] = omega arith
high_count-take (suc n) (x ∷ text) = cons_count (goes_on x) n (high_count text) (high_count (take n text)) (high_count-take n text)

-- the sum of two texts, one after the other
pub sum_of-append : (xs ys : List ℕ) → sum_of (xs ++ ys) ≡ sum_of xs * 128 ^ length ys + sum_of ys
unfolding sum_of
sum_of-append [] ys = omega arith
sum_of-append (x ∷ xs) ys =
    let rest = sum_of-append xs ys in
    rw (length-append xs ys, pow-add 128 (length xs) (length ys), rest) (omega arith)

-- the sum of a text and one octet more
pub sum_of-push : (xs : List ℕ) (b : ℕ) → sum_of (xs ++ b ∷ []) ≡ sum_of xs * 128 + b % 128
unfolding sum_of
sum_of-push xs b = rw (sum_of-append xs (b ∷ [])) (omega arith)

-- each octet has seven bits
pub sum_of-below : (text : List ℕ) → sum_of text < 128 ^ length text
unfolding sum_of
sum_of-below [] = omega arith
sum_of-below (x ∷ text) =
    let rest = sum_of-below text in
    let low : x % 128 + 1 ≤ 128 = omega arith in
    let most = mul-le-mul_right (128 ^ length text) low in
    rw (pow-suc 128 (length text)) (omega (arith, rest, most))

-- eight octets stay below 2 ^ 56 and nine below 2 ^ 63
pub sum_of-eight : (text : List ℕ) → length text ≤ 8 → sum_of text < 2 ^ 56
sum_of-eight text few =
    let power : 128 ^ length text ≤ 128 ^ 8 = pow-le-pow_right {n = 128} (lit< tt) few in
    omega (arith, sum_of-below text, power)

pub sum_of-nine : (text : List ℕ) → length text ≤ 9 → sum_of text < 2 ^ 63
sum_of-nine text few =
    let power : 128 ^ length text ≤ 128 ^ 9 = pow-le-pow_right {n = 128} (lit< tt) few in
    omega (arith, sum_of-below text, power)
