-- A session of the peer on which a run reports before it is handed up is marked in its journal.

use Rattle.std.specs.Prelude.{◌≡◌, ℕ, ◌+◌, ◌≤◌, true, false, List, [], ◌∷◌, ◌++◌, ◌⊎◌, Some}
use Rattle.gate_cases.specs.declared.face.Face.{Face}
use Rattle.journal_file.specs.declared.kept.Mark.{Mark}
use Rattle.journal_file.specs.Values.{KeptValue}
use Rattle.journal_file.specs.Keeping.{MARKS_MAX}
use Rattle.gateway_core.specs.declared.effects.Routed.{Routed}
use Rattle.gate_records.specs.Happened.{is_over, reports_on}
use Rattle.gate_records.specs.Records.{is_marked, mark_records, marks_after}
use Rattle.gate_records.specs.Laws.{later_marks, made_marks}
use Rattle.peer_records.specs.Happened.{marking}
use Rattle.peer_half.specs.Half.{Came}
use Rattle.peer_half.specs.Runs.{Run}
use Rattle.peer_journal_laws.specs.Keeps.{known_after}
use Rattle.peer_journal_laws.specs.Steps.{JournalStep, records_of, steps_of}

-- with one of some steps the block of a session came whole, or its sender cancelled it
abbrev pub IsOverIn : Face → ℕ → List JournalStep → Type 0
IsOverIn face session [] = ⊥
IsOverIn face session (step ∷ more) =
    (is_over (marking step.happened) face session ≡ true) ⊎ IsOverIn face session more

-- how many marks of a face some steps make
abbrev pub marks_made : Face → List JournalStep → ℕ
marks_made face [] = 0
marks_made face (step ∷ more) = made_marks face (records_of step) + marks_made face more

-- the marks that stand once some of a step's datagrams are marked
abbrev pub marks_at : JournalStep → List Routed → List Mark
marks_at step out = marks_after (marking step.happened) out ((step.keeping).kept).marks

-- how many marks of a face the step makes with the datagrams after those
abbrev pub made_after : Face → JournalStep → (out after : List Routed) → ℕ
made_after face step out after =
    made_marks face (mark_records (marking step.happened) after (marks_at step out))

-- A report on a session of the peer goes out with a step, the last of some of its datagrams, and others after it: the
-- session is marked in what is kept, or with this step or a later one it was over, or 1,024 later marks of its face
-- came: those that stood after its own, those that the step made with the datagrams after the report, and those of
-- later steps.
abbrev pub IsMarkKept :
    Face → ℕ → (out after : List Routed) → JournalStep → List JournalStep → KeptValue → Type 0
IsMarkKept face session out after step later kept =
    (is_marked face session kept.marks ≡ true)
    ⊎ (IsOverIn face session (step ∷ later)
    ⊎ (MARKS_MAX
    ≤ later_marks face session (marks_at step out) + (made_after face step out after + marks_made face later)))

-- So it is with each report that goes out with a step of a run with a journal, on a session that isn't handed up by
-- then, once the records of the step's half or of a later one are committed, and so at each datagram from then on.
abbrev pub KeepsMarks : Run → Face → Came → KeptValue → Type 0
KeepsMarks r face came kept =
    (earlier : List JournalStep) (step : JournalStep) (later : List JournalStep)
    → steps_of face came r ≡ earlier ++ step ∷ later
    → (before : List Routed) (routed : Routed) (after : List Routed)
    → (step.happened).out ≡ before ++ routed ∷ after
    → (session : ℕ) → reports_on routed.datagram ≡ Some session
    → (step.happened).is_handed_up routed.face session ≡ false
    → IsMarkKept routed.face session (before ++ routed ∷ []) after step later kept

abbrev pub MarksAreKept : Type 0
MarksAreKept =
    (r : Run) (face : Face) (came : Came) (kept : KeptValue)
    → known_after face came r ≡ Some kept → KeepsMarks r face came kept
