-- The lines of an input. A line ends with a line feed; the last one may lack it, and an input
-- that ends with a line feed has no empty line after it.
use Rattle.std.specs.Prelude.{ℕ, Bool, List, [], ◌∷◌, ◌==◌, nat_lt, length, take, drop, if◌then◌else◌}

-- an octet that ends a line
abbrev pub is_line_feed : ℕ → Bool
is_line_feed octet = octet == 10

-- the lines, with one octet more before the first
abbrev pub before_first_line : ℕ → List (List ℕ) → List (List ℕ)
before_first_line octet [] = (octet ∷ []) ∷ []
before_first_line octet (line ∷ lines) = (octet ∷ line) ∷ lines

-- the lines of a text, without their line feeds
unfoldable pub lines_of : List ℕ → List (List ℕ)
lines_of [] = []
lines_of (octet ∷ text) =
    if is_line_feed octet then [] ∷ lines_of text else before_first_line octet (lines_of text)

-- one octet more before the ended part of a text
abbrev pub before_ended : ℕ → List ℕ → List ℕ
before_ended octet [] = if is_line_feed octet then octet ∷ [] else []
before_ended octet (first ∷ ended) = octet ∷ first ∷ ended

-- the octets up to the last line feed, this one included
unfoldable pub ended_part : List ℕ → List ℕ
ended_part [] = []
ended_part (octet ∷ text) = before_ended octet (ended_part text)

-- the octets after the last line feed
abbrev pub open_part : List ℕ → List ℕ
open_part text = drop (length (ended_part text)) text

-- the lines of an input of at most so many octets; of a longer one those that end within them
unfoldable pub lines_within : ℕ → List ℕ → List (List ℕ)
lines_within most input =
    if nat_lt most (length input) then lines_of (ended_part (take most input)) else lines_of input
