-- A file that is made anew of what is kept.
use Rattle.std.specs.Prelude.{◌≡◌, ℕ, ◌^◌, ◌<◌, List, [], ◌∷◌, ◌++◌, length, map}
use Rattle.gate_cases.specs.declared.face.Face.TheVariants.{Old, New}
use Rattle.journal_file.specs.declared.kept.Pending.{Pending}
use Rattle.journal_file.specs.declared.kept.Mark.{Mark}
use Rattle.journal_file.specs.Values.{KeptValue, RecordValue, a_begun, a_mark, a_reserved}
use Rattle.journal_file.specs.Keeping.{marks_with, MARKS_MAX}
use Rattle.journal_file.specs.File.{opening}
use Rattle.journal_file.specs.Spelling.{gated, IsSmall}

-- its records: the numbers that are reserved, the blocks that are pending, each begun under its id, and
-- the marks
abbrev pub anew : KeptValue → List RecordValue
anew kept =
    a_reserved Old kept.old_reserved
    ∷ (a_reserved New kept.new_reserved
    ∷ (map (λ p. a_begun p) kept.pending ++ map (λ m. a_mark m) kept.marks))

-- its octets
abbrev pub file_of : KeptValue → List ℕ
file_of kept = opening ++ gated (anew kept)

-- ---- what it stands for

-- the id of the last of these blocks, or this one
abbrev pub last_id : ℕ → List Pending → ℕ
last_id id [] = id
last_id id (p ∷ pending) = last_id p.id pending

-- all that is kept, and as the greatest id that of the last block that is pending
abbrev pub but_greatest : KeptValue → KeptValue
but_greatest kept = record {
  pending = kept.pending;
  marks = kept.marks;
  old_reserved = kept.old_reserved;
  new_reserved = kept.new_reserved;
  greatest = last_id 0 kept.pending;
}

-- ---- what may be written so

-- ids rise from above this one, and each number has a spelling
abbrev pub AreBegun : ℕ → List Pending → Type 0
AreBegun id [] = Unit {0}
AreBegun id (p ∷ pending) =
    (id < p.id) × (p.id < 2 ^ 64) × (length p.block < 2 ^ 64) × IsSmall p.came
    × AreBegun p.id pending

-- after these marks each further one goes to the end and none leaves: no session has two, and no face
-- too many
abbrev pub AreMarked : List Mark → List Mark → Type 0
AreMarked earlier [] = Unit {0}
AreMarked earlier (m ∷ marks) =
    (m.session < 2 ^ 64) × (m.when < 2 ^ 64)
    × (marks_with MARKS_MAX m earlier ≡ earlier ++ m ∷ [])
    × AreMarked (earlier ++ m ∷ []) marks

-- what is kept can be written
pub record IsSound (kept : KeptValue) : Type 0 where
  pub pending : AreBegun 0 kept.pending
  pub marks : AreMarked [] kept.marks
  pub old_reserved : kept.old_reserved < 2 ^ 64
  pub new_reserved : kept.new_reserved < 2 ^ 64
