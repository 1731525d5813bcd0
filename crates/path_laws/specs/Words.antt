-- The names of what an end's joiner answers.

use Rattle.std.specs.Prelude.{ℕ, List, codes}
use Rattle.path_laws.specs.declared.effects.EndJoin.{EndJoin}
use Rattle.path_laws.specs.declared.effects.EndJoin.TheVariants as told

abbrev pub join_word : EndJoin → List ℕ
join_word told.Waiting = codes "Waiting"
join_word told.Repeat = codes "Repeat"
join_word (told.Whole body) = codes "Whole"
join_word told.TooLarge = codes "TooLarge"
join_word told.TotalDiffers = codes "TotalDiffers"
join_word told.Full = codes "Full"
