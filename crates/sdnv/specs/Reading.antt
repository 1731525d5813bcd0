-- What stands at the front of a text: a number and how many octets spell it, or one of the faults.

use Rattle.std.specs.Prelude.{ℕ, ◌+◌, ◌^◌, ◌<◌, ◌≤◌, List, length, take, nat_lt, if◌then◌else◌}
use Rattle.std.specs.Prelude.{Result, Ok, Err}
use Rattle.sdnv.specs.declared.fault.SdnvFault.{SdnvFault}
use Rattle.sdnv.specs.declared.fault.SdnvFault.TheVariants as faults
use Rattle.sdnv.specs.Spelling.{high_count, IsUnended, EndsOnce, sum_of}

-- a number that ends within ten octets, and how many they are: it is to be below 2 ^ 64
abbrev pub judged : ℕ → ℕ → Result (ℕ × ℕ) SdnvFault
judged number octets = if nat_lt number (2 ^ 64) then Ok (number, octets) else Err faults.TooLarge

-- what reading gives of a text with this many high octets in front
abbrev pub read_after : ℕ → List ℕ → Result (ℕ × ℕ) SdnvFault
read_after high text =
    if nat_lt high 10
    then (if nat_lt high (length text)
    then judged (sum_of (take (high + 1) text)) (high + 1)
    else Err faults.Short)
    else Err faults.TooLong

-- what reading gives
unfoldable pub read_of : List ℕ → Result (ℕ × ℕ) SdnvFault
read_of text = read_after (high_count text) text

-- the text ends before a number does, and more octets could end it
pub record IsShort (text : List ℕ) : Type 0 where
  pub unended : IsUnended text
  pub few : length text < 10

-- ten octets stand there, and none of them ends a number
pub record IsTooLong (text : List ℕ) : Type 0 where
  pub unended : IsUnended (take 10 text)
  pub many : 10 ≤ length text

-- a number ends within ten octets, and is too large
pub record IsTooLarge (text : List ℕ) : Type 0 where
  pub octets : ℕ
  pub within : octets ≤ length text
  pub ends : EndsOnce (take octets text)
  pub short : octets ≤ 10
  pub large : 2 ^ 64 ≤ sum_of (take octets text)
