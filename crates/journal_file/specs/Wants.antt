-- When reading a file takes memory: only to keep something.
use Rattle.std.specs.Prelude.{◌≡◌, ℕ, ◌+◌, ◌<◌, List, [], ◌∷◌, ◌++◌, length}
use Rattle.journal_file.specs.Values.{KeptValue}
use Rattle.journal_file.specs.File.{Reads}

-- a block is pending, or there is a mark
abbrev pub KeepsSome : KeptValue → Type 0
KeepsSome kept = 0 < length kept.pending + length kept.marks

-- up to some place the file is as it should be, and were it closed there, a block would be pending, or
-- there would be a mark
pub record HasToKeep (file : List ℕ) : Type 0 where
  pub front : List ℕ
  pub rest : List ℕ
  pub kept : KeptValue
  pub parts : file ≡ front ++ rest
  pub says : Reads (front ++ 0 ∷ []) kept
  pub some : KeepsSome kept
