-- What holds of the records of each step and of each half, in other words than their definitions'.

use Rattle.std.specs.Prelude.{◌≡◌, ℕ, ◌+◌, ◌^◌, ◌<◌, ◌≤◌, ◌⊎◌, ◌&&◌, Bool, true, false, ◌==◌, List, [], ◌∷◌, Option, None, Some, IfSome, if◌then◌else◌}
use Rattle.std.specs.List.{list_any}
use Rattle.gate_cases.specs.declared.face.Face.{Face}
use Rattle.gateway_core.specs.declared.effects.Routed.{Routed}
use Rattle.journal_file.specs.declared.kept.Pending.{Pending}
use Rattle.journal_file.specs.declared.kept.Mark.{Mark}
use Rattle.journal_file.specs.Values.{KeptValue, RecordValue, a_begun, a_done, a_mark, a_clear, a_reserved}
use Rattle.journal_file.specs.Keeping.{is_pending, is_about, is_of, marks_of, same_face, MARKS_MAX, kept_after}
use Rattle.journal_file.specs.Spelling.{MayFollow}
use Rattle.journal_file.specs.Legal.{IsLegal}
use Rattle.journal_file.specs.Anew.{IsSound}
use Rattle.gate_records.specs.declared.named.Named.{Named}
use Rattle.gate_records.specs.Named.{has_id}
use Rattle.gate_records.specs.Happened.{Happened, reports_on, is_over}
use Rattle.gate_records.specs.Keeping.{KeepingValue, first_of, recovered, starts_keeping}
use Rattle.gate_records.specs.Records.{is_marked}
use Rattle.gate_records.specs.Halves.{Recorded, recording}

-- ---- what is known is right

-- each session's id is that of a pending block
abbrev pub ArePending : List Pending → List Named → Type 0
ArePending pending [] = Unit {0}
ArePending pending (n ∷ named) =
    (is_pending n.id pending ≡ true) × ArePending pending named

-- no two sessions have an id
abbrev pub HaveOwnIds : List Named → Type 0
HaveOwnIds [] = Unit {0}
HaveOwnIds (n ∷ named) = (list_any (has_id n.id) named ≡ false) × HaveOwnIds named

pub record IsKeeping (k : KeepingValue) : Type 0 where
  pub legal : IsLegal k.kept
  pub pending : ArePending (k.kept).pending k.named
  pub own_ids : HaveOwnIds k.named

-- ---- a step that fits: what it names has a spelling

abbrev pub ReportSmall : List Routed → Type 0
ReportSmall [] = Unit {0}
ReportSmall (routed ∷ more) =
    IfSome (reports_on routed.datagram) (λ session. session < 2 ^ 64) × ReportSmall more

pub record Fits (h : Happened) (k : KeepingValue) : Type 0 where
  pub wall : h.wall < 2 ^ 64
  pub sessions : ReportSmall h.out

-- ---- ids

abbrev pub ends_of : RecordValue → Option ℕ
ends_of (a_begun p) = None
ends_of (a_done id how) = Some id
ends_of (a_mark mark) = None
ends_of (a_clear face session) = None
ends_of (a_reserved face number) = None

abbrev pub is_end : ℕ → Option ℕ → Bool
is_end id None = false
is_end id (Some ended) = ended == id

-- the ids that records begin rise from above this one
unfoldable pub BeginRising : ℕ → List RecordValue → Type 0
BeginRising id [] = Unit {0}
BeginRising id (a_begun p ∷ more) = (id < p.id) × BeginRising p.id more
BeginRising id (a_done ended how ∷ more) = BeginRising id more
BeginRising id (a_mark mark ∷ more) = BeginRising id more
BeginRising id (a_clear face session ∷ more) = BeginRising id more
BeginRising id (a_reserved face number ∷ more) = BeginRising id more

-- no two records end an id
unfoldable pub EndOnce : List RecordValue → Type 0
EndOnce [] = Unit {0}
EndOnce (a_begun p ∷ more) = EndOnce more
EndOnce (a_done id how ∷ more) =
    (list_any (λ said. is_end id (ends_of said)) more ≡ false) × EndOnce more
EndOnce (a_mark mark ∷ more) = EndOnce more
EndOnce (a_clear face session ∷ more) = EndOnce more
EndOnce (a_reserved face number ∷ more) = EndOnce more

-- Of all records of a run, one half after the other: each id is begun at most once, and ids rise; each is
-- done at most once.
abbrev pub IdsAreUsedOnce : Type 0
IdsAreUsedOnce =
    (kept : KeptValue) (records : List RecordValue) → IsLegal kept → MayFollow kept records
    → BeginRising kept.greatest records × EndOnce records

-- ---- those of a half

abbrev pub FitAll : List Happened → Recorded → Type 0
FitAll [] r = Unit {0}
FitAll (h ∷ steps) r = Fits h r.keeping × FitAll steps (recording h r)

-- ---- reports

-- a record that clears a session is of one that is over
abbrev pub ClearsIfOver : Happened → RecordValue → Type 0
ClearsIfOver h (a_begun p) = Unit {0}
ClearsIfOver h (a_done id how) = Unit {0}
ClearsIfOver h (a_mark mark) = Unit {0}
ClearsIfOver h (a_clear face session) = is_over h face session ≡ true
ClearsIfOver h (a_reserved face number) = Unit {0}

abbrev pub AllClearIfOver : Happened → List RecordValue → Type 0
AllClearIfOver h [] = Unit {0}
AllClearIfOver h (said ∷ more) = ClearsIfOver h said × AllClearIfOver h more

-- the marks that stand after the one about a session
unfoldable pub after_mark : Face → ℕ → List Mark → List Mark
after_mark face session [] = []
after_mark face session (mark ∷ marks) =
    if is_about face session mark then marks else after_mark face session marks

-- how many of a face do
abbrev pub later_marks : Face → ℕ → List Mark → ℕ
later_marks face session marks = marks_of face (after_mark face session marks)

-- how many marks of a face records make
abbrev pub makes_mark : Face → RecordValue → ℕ
makes_mark face (a_begun p) = 0
makes_mark face (a_done id how) = 0
makes_mark face (a_mark mark) = if is_of face mark then 1 else 0
makes_mark face (a_clear f session) = 0
makes_mark face (a_reserved f number) = 0

unfoldable pub made_marks : Face → List RecordValue → ℕ
made_marks face [] = 0
made_marks face (said ∷ more) = makes_mark face said + made_marks face more

abbrev pub clears_mark : Face → ℕ → RecordValue → Bool
clears_mark face session (a_begun p) = false
clears_mark face session (a_done id how) = false
clears_mark face session (a_mark mark) = false
clears_mark face session (a_clear f number) = same_face f face && number == session
clears_mark face session (a_reserved f number) = false

-- A session that is marked stays so, whatever records follow, until one clears it, or 1,024 later marks
-- of its face stand after its own.
abbrev pub MarkStays : Type 0
MarkStays =
    (kept : KeptValue) (records : List RecordValue) (face : Face) (session : ℕ)
    → is_marked face session kept.marks ≡ true
    → is_marked face session (kept_after kept records).marks ≡ false
    → (list_any (clears_mark face session) records ≡ true)
    ⊎ (MARKS_MAX ≤ later_marks face session kept.marks + made_marks face records)

-- ---- a start

-- what is recovered is legal, so the file may be made anew of it; it has the same pending blocks, and
-- the numbers of this run are above those of earlier ones
pub record Recovers (wall old_first new_first : ℕ) (kept : KeptValue) : Type 0 where
  pub legal : IsLegal (recovered wall old_first new_first kept)
  pub sound : IsSound (recovered wall old_first new_first kept)
  pub pending : (recovered wall old_first new_first kept).pending ≡ kept.pending
  pub old : kept.old_reserved ≤ first_of old_first kept.old_reserved
  pub new : kept.new_reserved ≤ first_of new_first kept.new_reserved
  pub keeping : IsKeeping (starts_keeping (recovered wall old_first new_first kept))
