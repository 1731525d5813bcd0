-- Flags, bit by bit; bit 0 is the lowest.

use Rattle.std.specs.Prelude.{ℕ, ◌-◌, ◌/◌, ◌%◌, ◌^◌, Bool, ◌==◌, if◌then◌else◌}

abbrev pub has_bit : ℕ → ℕ → Bool
has_bit bit flags = flags / 2 ^ bit % 2 == 1

-- the flags with this bit clear
abbrev pub without : ℕ → ℕ → ℕ
without bit flags = if has_bit bit flags then flags - 2 ^ bit else flags
