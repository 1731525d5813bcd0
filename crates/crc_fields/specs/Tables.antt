-- What the tables of the code hold.
use Rattle.std.specs.Prelude.{ℕ, ◌+◌, List, [], ◌∷◌, zero, suc}
use Rattle.crc_fields.specs.Crc.{take_bit}

-- the register after so many bits 0
unfoldable pub after_zeros : ℕ → ℕ → ℕ → ℕ
after_zeros polynomial zero register = register
after_zeros polynomial (suc n) register = after_zeros polynomial n (take_bit polynomial register 0)

-- for the octets from b on, n of them, the register after so many bits 0
abbrev pub row : ℕ → ℕ → ℕ → ℕ → List ℕ
row polynomial bits b zero = []
row polynomial bits b (suc n) = after_zeros polynomial bits b ∷ row polynomial bits (b + 1) n

-- n rows, the first for these bits, each for eight bits more
abbrev pub rows : ℕ → ℕ → ℕ → List (List ℕ)
rows polynomial bits zero = []
rows polynomial bits (suc n) = row polynomial bits 0 256 ∷ rows polynomial (bits + 8) n
