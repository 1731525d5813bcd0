-- The names of the ways in which a field isn't there.
use Rattle.std.specs.Prelude.{ℕ, List, codes}
use Rattle.wire_fields.specs.declared.miss.Miss.{Miss}
use Rattle.wire_fields.specs.declared.miss.Miss.TheVariants as misses

abbrev pub word_of : Miss → List ℕ
word_of misses.Truncated = codes "Truncated"
word_of misses.Absent = codes "Absent"
