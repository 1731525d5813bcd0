-- How long spellings are at most.
use Rattle.std.proofs.Common.{ℕ, ◌≤◌, ◌^◌, nat_lt, Bool, true, false, if◌then◌else◌, [], ◌∷◌, length, arith}
use Rattle.std.specs.Int.{w8, w16, w32, w64, to_be_bytes}
use Rattle.cbor_lite.specs.Head.{head, first_octet}

-- a head has nine octets at most
pub length-head : (kind n : ℕ) → length (head kind n) ≤ 9
length-head kind n = by (nat_lt n 24) (nat_lt n (2 ^ 8)) (nat_lt n (2 ^ 16)) (nat_lt n (2 ^ 32))
  where
    by : (a b c d : Bool) → length (if a then first_octet kind n ∷ []
        else if b then first_octet kind 24 ∷ to_be_bytes w8 n
        else if c then first_octet kind 25 ∷ to_be_bytes w16 n
        else if d then first_octet kind 26 ∷ to_be_bytes w32 n
        else first_octet kind 27 ∷ to_be_bytes w64 n) ≤ 9
    by true b c d = omega arith
    by false true c d = omega arith
    by false false true d = omega arith
    by false false false true = omega arith
    by false false false false = omega arith
