-- Cyclic redundancy checks over a text, bit by bit. The bits of the text go into a register one after
-- another, the low bit of each octet first.
use Rattle.std.specs.Prelude.{ℕ, ◌+◌, ◌/◌, ◌%◌, ◌==◌, if◌then◌else◌, List, [], ◌∷◌, ◌++◌, take}
use Rattle.std.specs.Prelude.{drop, replicate, bit_xor}

-- A bit meets the register's lowest bit, which leaves. Where the two differ, the polynomial is added,
-- without carries, to what stays.
abbrev pub take_bit : ℕ → ℕ → ℕ → ℕ
take_bit polynomial register bit =
    if (register + bit) % 2 == 1 then bit_xor (register / 2) polynomial else register / 2

-- the bits of a text, one after another
unfoldable pub take_bits : ℕ → ℕ → List ℕ → ℕ
take_bits polynomial register [] = register
take_bits polynomial register (bit ∷ bits) = take_bits polynomial (take_bit polynomial register bit) bits

-- the bits of an octet, the low one first
abbrev pub octet_bits : ℕ → List ℕ
octet_bits b =
    b % 2 ∷ b / 2 % 2 ∷ b / 4 % 2 ∷ b / 8 % 2 ∷ b / 16 % 2 ∷ b / 32 % 2 ∷ b / 64 % 2 ∷ b / 128 % 2 ∷ []

abbrev pub bits_of : List ℕ → List ℕ
bits_of [] = []
bits_of (octet ∷ rest) = octet_bits octet ++ bits_of rest

-- the register after a text
abbrev pub take_text : ℕ → ℕ → List ℕ → ℕ
take_text polynomial register w = take_bits polynomial register (bits_of w)

-- CRC-16 X-25: the polynomial with its low bit first, a register of ones, and the result inverted
abbrev pub crc16_of : List ℕ → ℕ
crc16_of w = bit_xor (take_text 0x8408 0xFFFF w) 0xFFFF

-- CRC-32C (Castagnoli), in the same way
abbrev pub crc32c_of : List ℕ → ℕ
crc32c_of w = bit_xor (take_text 0x82F63B78 0xFFFFFFFF w) 0xFFFFFFFF

-- the text with n octets from a place on taken as zero
abbrev pub zeroed : ℕ → ℕ → List ℕ → List ℕ
zeroed at n w = take at w ++ replicate n 0 ++ drop (at + n) w
