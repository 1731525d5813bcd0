-- The names of refusals.

use Rattle.std.specs.Prelude.{ℕ, List, codes}
use Rattle.fragments.specs.declared.fault.CutRefused.{CutRefused}
use Rattle.fragments.specs.declared.fault.CutRefused.TheVariants as cuts
use Rattle.fragments.specs.declared.fault.JoinRefused.{JoinRefused}
use Rattle.fragments.specs.declared.fault.JoinRefused.TheVariants as joins

abbrev pub cut_word : CutRefused → List ℕ
cut_word cuts.MustNot = codes "MustNot"
cut_word cuts.Memory = codes "Memory"

-- the variant that says there is no room is called Full, as the record is, in words alone
abbrev pub join_word : JoinRefused → List ℕ
join_word joins.NotFragment = codes "NotFragment"
join_word joins.TooLarge = codes "TooLarge"
join_word joins.TotalDiffers = codes "TotalDiffers"
join_word joins.NoRoom = codes "Full"
join_word joins.Memory = codes "Memory"
