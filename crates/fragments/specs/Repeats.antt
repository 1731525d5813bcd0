-- A fragment that comes again.

use Rattle.std.specs.Prelude.{◌≡◌, true, List, [], ◌∷◌, Result, Ok, Err, ◌⊎◌}
use Rattle.bundle_meaning.specs.declared.full.Full.{Full}
use Rattle.fragments.specs.declared.fault.JoinRefused.{JoinRefused}
use Rattle.fragments.specs.declared.joining.Joined.{Joined}
use Rattle.fragments.specs.declared.joining.Joined.TheVariants as answers
use Rattle.fragments.specs.Joining.{BringsNew}
use Rattle.fragments.specs.Again.{answer, after_records, IsOpenAnswer}
use Rattle.fragments.specs.Payload.{have_one_name}

-- no whole was given
abbrev pub IsNoWhole : Result Joined JoinRefused → Type 0
IsNoWhole (Ok answers.Waiting) = Unit {0}
IsNoWhole (Ok answers.Repeat) = Unit {0}
IsNoWhole (Ok (answers.Whole whole)) = ⊥
IsNoWhole (Err refused) = Unit {0}

-- a record was taken, and no whole of its name was given with it, nor since; the last one first
unfoldable pub IsKeptYet : Full → List Full → Type 0
IsKeptYet full [] = ⊥
IsKeptYet full (came ∷ earlier) =
    ((came ≡ full) × IsOpenAnswer (answer (after_records earlier) came))
    ⊎ (IsKeptYet full earlier
    × (have_one_name full.shared came.shared ≡ true → IsNoWhole (answer (after_records earlier) came)))

-- Whichever records came: one that was taken, and of whose name no whole was given since, brings nothing
-- new when it comes again.
abbrev pub RepeatsBringNothing : Type 0
RepeatsBringNothing = (full : Full) (records : List Full)
    → IsKeptYet full records → BringsNew (after_records records) full → ⊥
