-- The shortest text that spells a number.

use Rattle.std.specs.Prelude.{◌≡◌, ℕ, zero, suc, ◌+◌, ◌/◌, ◌%◌, ◌<◌, ◌≤◌, List, [], ◌∷◌, ◌++◌}
use Rattle.std.specs.Prelude.{length, ◌==◌, if◌then◌else◌, Ok, slice_index}
use Rattle.sdnv.specs.Spelling.{Spells}
use Rattle.sdnv.specs.Reading.{read_of}

-- a number's groups of seven bits, the greatest first, up to the last that isn't zero: they are
-- at most so many, and each says that another octet follows
unfoldable pub leading : ℕ → ℕ → List ℕ
leading zero number = []
leading (suc most) number =
    if number == 0 then [] else leading most (number / 128) ++ (number % 128 + 128) ∷ []

-- the shortest spelling: the last group ends the number
unfoldable pub spelling : ℕ → List ℕ
spelling number = leading 9 (number / 128) ++ number % 128 ∷ []

-- each is an octet
abbrev pub AreOctets : List ℕ → Type 0
AreOctets text = (i : ℕ) → slice_index text i < 256

-- the text spells the number, no text that does is shorter, and none of its length is another
pub record IsShortest (text : List ℕ) (number : ℕ) : Type 0 where
  pub spells : Spells text number
  pub least : (other : List ℕ) → Spells other number → length text ≤ length other
  pub only : (other : List ℕ) → AreOctets other → Spells other number → length other ≡ length text
      → other ≡ text

-- reading gives it back, whatever follows it
abbrev pub ReadsBack : List ℕ → ℕ → Type 0
ReadsBack text number = (rest : List ℕ) → read_of (text ++ rest) ≡ Ok (number, length text)
