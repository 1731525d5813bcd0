-- The check of a block is that of its octets and of zeros in place of the check's own.
use Rattle.std.proofs.Common.{◌≡◌, ℕ, List, ◌++◌, bit_xor, ap, sym}
use Rattle.crc_fields.specs.Crc.{take_text}
use Rattle.crc_fields.proofs.Chain.{take_text-append}

pub check-parts : (p ones : ℕ) (block zeros : List ℕ) (start one two result : ℕ)
    → start ≡ ones → one ≡ take_text p start block → two ≡ take_text p one zeros → result ≡ bit_xor two ones
    → result ≡ bit_xor (take_text p ones (block ++ zeros)) ones
check-parts p ones block zeros start one two result begins first second ends =
    rw (ends, second, first, begins) (ap (λ (x : ℕ). bit_xor x ones) (sym (take_text-append p ones block zeros)))
