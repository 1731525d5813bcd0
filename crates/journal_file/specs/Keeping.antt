-- What each record does to what is kept.
use Rattle.std.specs.Prelude.{ℕ, ◌==◌, Bool, ◌&&◌, nat_lt, if◌then◌else◌, List, [], ◌∷◌, ◌++◌, length, remove}
use Rattle.std.specs.List.{position_or_len, filter}
use Rattle.gate_cases.specs.declared.face.Face.{Face}
use Rattle.gate_cases.specs.declared.face.Face.TheVariants.{Old, New}
use Rattle.journal_file.specs.declared.kept.Pending.{Pending}
use Rattle.journal_file.specs.declared.kept.Mark.{Mark}
use Rattle.journal_file.specs.Values.{KeptValue, RecordValue, a_begun, a_done, a_mark, a_clear, a_reserved}

-- the octet that names a face
abbrev pub octet_of : Face → ℕ
octet_of Old = 0
octet_of New = 1

abbrev pub same_face : Face → Face → Bool
same_face f g = octet_of f == octet_of g

-- without the first that passes a test
abbrev pub without_first : {A : Type 0} → (A → Bool) → List A → List A
without_first test xs =
    if nat_lt (position_or_len test xs) (length xs)
    then remove xs (position_or_len test xs) else xs

-- ---- pending blocks

abbrev pub has_id : ℕ → Pending → Bool
has_id id p = p.id == id

abbrev pub is_pending : ℕ → List Pending → Bool
is_pending id pending = nat_lt (position_or_len (has_id id) pending) (length pending)

-- ---- marks

abbrev pub is_of : Face → Mark → Bool
is_of face mark = same_face mark.face face

abbrev pub is_about : Face → ℕ → Mark → Bool
is_about face session mark = is_of face mark && mark.session == session

abbrev pub marks_of : Face → List Mark → ℕ
marks_of face marks = length (filter (is_of face) marks)

-- of more than so many marks of a face the first leaves
abbrev pub bounded : ℕ → Face → List Mark → List Mark
bounded most face marks =
    if nat_lt most (marks_of face marks) then without_first (is_of face) marks else marks

-- a mark goes to the end, and an older one of its session leaves
unfoldable pub marks_with : ℕ → Mark → List Mark → List Mark
marks_with most mark marks =
    bounded most mark.face (without_first (is_about mark.face mark.session) marks ++ mark ∷ [])

-- the most marks of a face
abbrev pub MARKS_MAX : ℕ
MARKS_MAX = 1024

-- ---- reserved numbers

abbrev pub greater : ℕ → ℕ → ℕ
greater m n = if nat_lt m n then n else m

-- ---- records

abbrev pub with_pending : KeptValue → List Pending → ℕ → KeptValue
with_pending kept pending greatest = record {
  pending = pending;
  marks = kept.marks;
  old_reserved = kept.old_reserved;
  new_reserved = kept.new_reserved;
  greatest = greatest;
}

abbrev pub with_marks : KeptValue → List Mark → KeptValue
with_marks kept marks = record {
  pending = kept.pending;
  marks = marks;
  old_reserved = kept.old_reserved;
  new_reserved = kept.new_reserved;
  greatest = kept.greatest;
}

abbrev pub with_reserved : KeptValue → Face → ℕ → KeptValue
with_reserved kept Old number = record {
  pending = kept.pending;
  marks = kept.marks;
  old_reserved = greater kept.old_reserved number;
  new_reserved = kept.new_reserved;
  greatest = kept.greatest;
}
with_reserved kept New number = record {
  pending = kept.pending;
  marks = kept.marks;
  old_reserved = kept.old_reserved;
  new_reserved = greater kept.new_reserved number;
  greatest = kept.greatest;
}

-- what is kept after a record
unfoldable pub kept_with : KeptValue → RecordValue → KeptValue
kept_with kept (a_begun p) = with_pending kept (kept.pending ++ p ∷ []) p.id
kept_with kept (a_done id how) =
    with_pending kept (without_first (has_id id) kept.pending) kept.greatest
kept_with kept (a_mark mark) = with_marks kept (marks_with MARKS_MAX mark kept.marks)
kept_with kept (a_clear face session) =
    with_marks kept (without_first (is_about face session) kept.marks)
kept_with kept (a_reserved face number) = with_reserved kept face number

-- what is kept after records, one after another
abbrev pub kept_after : KeptValue → List RecordValue → KeptValue
kept_after kept [] = kept
kept_after kept (r ∷ rs) = kept_after (kept_with kept r) rs
