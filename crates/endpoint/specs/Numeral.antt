-- Decimal numbers below 2 ^ 64, without leading zeros.

use Rattle.std.specs.Prelude.{◌≡◌, ℕ, ◌+◌, ◌*◌, ◌^◌, ◌<◌, Bool, true, false, ◌&&◌, ◌||◌, not, ◌==◌}
use Rattle.std.specs.Prelude.{nat_lt}
use Rattle.std.specs.Prelude.{List, [], ◌∷◌, length, Option, None, Some, if◌then◌else◌}
use Rattle.std.specs.Char.{is_ascii_digit, digit_value}
use Rattle.std.specs.List.{list_all, before_first, after_first}
use Rattle.std.specs.Str.Parse.{digits_value}

-- there is an octet, and the first is 0 only where it is the only one
abbrev pub begins_as_numeral : List ℕ → Bool
begins_as_numeral [] = false
begins_as_numeral (octet ∷ more) = not (octet == 48) || length more == 0

-- a text that writes a number: digits, in as few as can be
abbrev pub is_numeral : List ℕ → Bool
is_numeral text = begins_as_numeral text && list_all is_ascii_digit text

-- the number that the text writes, if it is one
unfoldable pub number_of : List ℕ → Option ℕ
number_of text =
    if is_numeral text && nat_lt (digits_value 10 text) (2 ^ 64)
    then Some (digits_value 10 text)
    else None

-- the octet is a digit that the number so far can take after it
abbrev pub TakesDigit : ℕ → ℕ → Type 0
TakesDigit value octet =
    (is_ascii_digit octet ≡ true) × (value * 10 + digit_value octet < 2 ^ 64)

abbrev pub is_dot : ℕ → Bool
is_dot octet = octet == 46

-- two numbers, if both are there
abbrev pub both : Option ℕ → Option ℕ → Option (ℕ × ℕ)
both (Some one) (Some other) = Some (one, other)
both (Some one) None = None
both None other = None

-- the two numbers that the text writes, joined by a dot
unfoldable pub pair_of : List ℕ → Option (ℕ × ℕ)
pair_of text = both (number_of (before_first is_dot text)) (number_of (after_first is_dot text))
