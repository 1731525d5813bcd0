-- What holds of all lines.

use Rattle.std.specs.Prelude.{◌≡◌, ℕ, Bool, true, false, ◌&&◌, nat_le, List, [], ◌∷◌, ◌++◌, codes}
use Rattle.std.specs.Ordering.{nat_cmp, match_ordering}
use Rattle.std.specs.Cmp.Lexicographic.{slice_cmp}
use Rattle.std.specs.List.{list_all}
use Rattle.gate_log.specs.Values.{Entry}

-- the first text stands before the second in the alphabet, octet by octet
abbrev pub is_before : List ℕ → List ℕ → Bool
is_before first second = match_ordering (slice_cmp nat_cmp first second) true false false

-- the keys, each before the next one
abbrev pub are_rising : List Entry → Bool
are_rising [] = true
are_rising (entry ∷ []) = true
are_rising (entry ∷ (next ∷ entries)) = is_before entry.0 next.0 && are_rising (next ∷ entries)

-- a text without control characters, and a line feed
abbrev pub IsOneLine : List ℕ → Type 0
IsOneLine line = (text : List ℕ) × (line ≡ text ++ codes "\n") × (list_all (nat_le 32) text ≡ true)
