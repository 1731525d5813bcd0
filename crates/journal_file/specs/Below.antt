-- What a file says that was made anew, beside what was kept: all of it, but a greatest id that may be lower.
use Rattle.std.specs.Prelude.{◌≡◌, ◌≤◌}
use Rattle.journal_file.specs.Values.{KeptValue}

-- the same is kept, and no id above the greatest one was given
pub record IsBelow (lower kept : KeptValue) : Type 0 where
  pub pending : lower.pending ≡ kept.pending
  pub marks : lower.marks ≡ kept.marks
  pub old_reserved : lower.old_reserved ≡ kept.old_reserved
  pub new_reserved : lower.new_reserved ≡ kept.new_reserved
  pub greatest : lower.greatest ≤ kept.greatest
