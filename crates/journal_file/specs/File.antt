-- A journal's file: what it says is kept, or where and why it is damaged.
use Rattle.std.specs.Prelude.{◌≡◌, ℕ, ◌==◌, nat_eq, if◌then◌else◌, List, [], ◌++◌, length, codes, Result, Ok, Err, ◌⊎◌}
use Rattle.std.specs.List.{starts_with}
use Rattle.wire_fields.specs.Format.{Spells}
use Rattle.wire_fields.specs.Refusal.{Stop, because, Refusal}
use Rattle.wire_fields.specs.Reading.{read}
use Rattle.journal_file.specs.declared.fault.JournalCause.{JournalCause}
use Rattle.journal_file.specs.declared.fault.JournalCause.TheVariants as causes
use Rattle.journal_file.specs.Values.{KeptValue, nothing_kept}
use Rattle.journal_file.specs.Table.{records}

-- the first octets of each journal
abbrev pub opening : List ℕ
opening = codes "fimjrnl1"

-- the file has records up to a closed gate, and this is kept after them; the rest counts for nothing
pub record Says (file : List ℕ) (kept : KeptValue) : Type 0 where
  pub text : List ℕ
  pub rest : List ℕ
  pub most : ℕ
  pub parts : file ≡ opening ++ (text ++ rest)
  pub spells : Spells (records most nothing_kept) opening text kept

-- a file stands for what is kept: no octets at all for nothing
abbrev pub Reads : List ℕ → KeptValue → Type 0
Reads file kept = ((file ≡ []) × (kept ≡ nothing_kept)) ⊎ Says file kept

-- the file has octets, and begins with others than a journal
pub record HasBadStart (file : List ℕ) : Type 0 where
  pub some : file ≡ [] → ⊥
  pub other : (rest : List ℕ) → file ≡ opening ++ rest → ⊥

-- The file is damaged at a place: its start, or after the right start the field there, where the
-- octets before it spell the earlier fields with their conditions.
abbrev pub IsDamaged : List ℕ → ℕ → Stop JournalCause → Type 0
IsDamaged file at s =
    (HasBadStart file × (at ≡ 0) × (s ≡ because causes.Start))
    ⊎ ((rest : List ℕ) × (file ≡ opening ++ rest)
    × Refusal (records (length file) nothing_kept) opening rest at s)

-- what is read, without the place where it ends
abbrev pub only_kept : Result (KeptValue × ℕ) (ℕ × Stop JournalCause) → Result KeptValue (ℕ × Stop JournalCause)
only_kept (Ok x) = Ok x.0
only_kept (Err s) = Err s

-- what reading a file gives: no octets are nothing kept, and what follows the closed gate counts for
-- nothing
unfoldable pub read_file : List ℕ → Result KeptValue (ℕ × Stop JournalCause)
read_file file =
    if length file == 0 then Ok nothing_kept
    else (if starts_with nat_eq file opening
    then only_kept (read (records (length file) nothing_kept) file (length opening))
    else Err (0, because causes.Start))
