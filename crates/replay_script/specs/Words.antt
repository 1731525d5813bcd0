-- The words of a line, which single spaces separate.

use Rattle.std.specs.Prelude.{ℕ, Bool, ◌==◌, List, [], ◌∷◌, ◌++◌}
use Rattle.std.specs.List.{slice_split}
use Rattle.std.specs.Str.{bytes_eq}

abbrev pub is_space : ℕ → Bool
is_space octet = octet == 32

-- the words of a line: a space at its end, or after another space, makes an empty word more
unfoldable pub words_of : List ℕ → List (List ℕ)
words_of line = slice_split is_space line

-- the word is this one
abbrev pub is_word : List ℕ → List ℕ → Bool
is_word word text = bytes_eq word text

-- some words, each after a space
abbrev pub after_spaces : List (List ℕ) → List ℕ
after_spaces [] = []
after_spaces (word ∷ words) = 32 ∷ (word ++ after_spaces words)

-- some words, separated by single spaces
abbrev pub spaced : List (List ℕ) → List ℕ
spaced [] = []
spaced (word ∷ words) = word ++ after_spaces words
