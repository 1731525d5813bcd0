-- Flags, bit by bit; bit 0 is the lowest. A mask is a number whose bits name flags.

use Rattle.std.specs.Prelude.{ℕ, ◌/◌, ◌%◌, ◌^◌, Bool, ◌==◌}
use Rattle.std.specs.Int.Bits.{bit_and}

abbrev pub has_bit : ℕ → ℕ → Bool
has_bit bit flags = flags / 2 ^ bit % 2 == 1

-- no flag but those of the mask is set
abbrev pub is_within : ℕ → ℕ → Bool
is_within mask flags = bit_and flags mask == flags

-- no flag of the mask is set
abbrev pub is_without : ℕ → ℕ → Bool
is_without mask flags = bit_and flags mask == 0

-- The flags that mean the same in both versions. Of a bundle: 0 fragment, 1 administrative, 2 must not
-- be fragmented, 5 acknowledgement asked, and reports on 14 reception, 16 forwarding, 17 delivery and
-- 18 deletion.
abbrev pub common : ℕ
common = 0x74027

-- Of a block: 0 replicate in every fragment, 1 report if unprocessable, 2 delete bundle if
-- unprocessable, 4 discard if unprocessable.
abbrev pub block_common : ℕ
block_common = 0x17

-- flags that never stand in a record's version 6 part: the common ones, and 3, custody asked
abbrev pub not_own6 : ℕ
not_own6 = 0x7402F

-- flags of a version 6 block that no value has: 3, last block, and 6, has references
abbrev pub block_marks : ℕ
block_marks = 0x48

-- flags of a payload block that never stand in a record's version 6 part: the common ones, 3 and 6
abbrev pub block_not_own6 : ℕ
block_not_own6 = 0x5F

-- the statuses of a report by bit: 0 received, 2 forwarded, 3 delivered, 4 deleted
abbrev pub statuses : ℕ
statuses = 0x1D
