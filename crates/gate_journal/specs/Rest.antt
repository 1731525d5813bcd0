-- A journal between two calls: its file ends with a closed gate, and all of it is on the disk.
use Rattle.std.specs.Prelude.{◌≡◌, ◌⊎◌, ℕ, List, [], ◌∷◌, ◌++◌, length}
use Rattle.store_traits.specs.Disk.{Only}
use Rattle.journal_file.specs.Values.{KeptValue}
use Rattle.journal_file.specs.File.{Reads}
use Rattle.journal_file.specs.Spelling.{Closes}

-- the file is a journal up to the closed gate at this place, with which it ends, this is kept, and a crash
-- leaves no other file
pub record RestsWith (file : List ℕ) (may_leave : List ℕ → Type 0) (gate : ℕ) (kept : KeptValue) : Type 0 where
  pub front : List ℕ
  pub parts : file ≡ front ++ 0 ∷ []
  pub place : gate ≡ length front
  pub closes : Closes file kept
  pub durable : Only file may_leave

-- a file says that this is kept, or that
abbrev pub BeforeOrAfter : KeptValue → KeptValue → List ℕ → Type 0
BeforeOrAfter before after c = Reads c before ⊎ Reads c after
