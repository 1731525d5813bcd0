-- The texts that spell a number (RFC 5050, section 4.1).

use Rattle.std.specs.Prelude.{◌≡◌, ℕ, ◌+◌, ◌*◌, ◌%◌, ◌^◌, ◌<◌, ◌≤◌, Bool, List, [], ◌∷◌, length}
use Rattle.std.specs.Prelude.{nat_le}
use Rattle.std.specs.List.{prefix_len}

-- another octet of the number follows this one: its high bit is set
abbrev pub goes_on : ℕ → Bool
goes_on octet = nat_le 128 octet

-- how many octets, from the front on, say that another follows
abbrev pub high_count : List ℕ → ℕ
high_count text = prefix_len goes_on text

-- no octet of the text ends a number
abbrev pub IsUnended : List ℕ → Type 0
IsUnended text = high_count text ≡ length text

-- the last octet ends a number, and no other does
abbrev pub EndsOnce : List ℕ → Type 0
EndsOnce text = high_count text + 1 ≡ length text

-- the sum of the octets' lower seven bits, an octet's with 128 to the number of octets after it
unfoldable pub sum_of : List ℕ → ℕ
sum_of [] = 0
sum_of (octet ∷ text) = (octet % 128) * 128 ^ length text + sum_of text

-- the text spells the number
pub record Spells (text : List ℕ) (number : ℕ) : Type 0 where
  pub ends : EndsOnce text
  pub short : length text ≤ 10
  pub value : number ≡ sum_of text
  pub small : number < 2 ^ 64
