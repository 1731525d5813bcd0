-- Why a body that spells no report is refused: the first cause that holds. This is where the order
-- of the refusals is said; it is our own rule.

use Rattle.std.specs.Prelude.{◌≡◌, ℕ, ◌/◌, ◌%◌, ◌==◌, not, nat_lt, List, [], ◌∷◌, if◌then◌else◌, Result, Ok, Err, IsOk}
use Rattle.wire_fields.specs.Format.{Format, Spells, ◌>>=◌}
use Rattle.wire_fields.specs.Words.{any_unsigned, exact_array}
use Rattle.wire_fields.specs.Reading.{read}
use Rattle.wire_fields.specs.Whole.{read_whole}
use Rattle.wire_fields.specs.Refusal.{Stop}
use Rattle.status_reports.specs.declared.fault.AdminFault.{AdminFault}
use Rattle.status_reports.specs.declared.fault.AdminFault.TheVariants.{CustodySignal, CustodyReport, AdminUnknown, BadAdmin, Memory}
use Rattle.status_reports.specs.declared.report6.Report6.{Report6}
use Rattle.status_reports.specs.declared.report7.Report7.{Report7}
use Rattle.status_reports.specs.Fields.{is_set}
use Rattle.status_reports.specs.Table6.{report6}
use Rattle.status_reports.specs.Table7.{report7}

-- ---- version 6

-- of the octets after the first: the status custody accepted makes it a report on custody
abbrev pub status_cause : List ℕ → AdminFault
status_cause [] = BadAdmin
status_cause (octet ∷ rest) = if is_set 2 octet then CustodyReport else BadAdmin

-- The record type stands in the high half of the first octet: 2 is a custody signal, 1 a status
-- report, and no other is known. A status report's flags are 0 or 1.
abbrev pub cause6 : List ℕ → AdminFault
cause6 [] = BadAdmin
cause6 (octet ∷ rest) =
    if octet / 16 == 2 then CustodySignal
    else if not (octet / 16 == 1) then AdminUnknown
    else if nat_lt 1 (octet % 16) then BadAdmin
    else status_cause rest

-- ---- version 7

-- an array of two items, and a record type
unfoldable pub front7 : Format AdminFault ℕ
front7 = do
  items ← exact_array 2 BadAdmin
  any_unsigned BadAdmin

-- the record type 1 is a status report, and no other is known
abbrev pub type_cause : Result (ℕ × ℕ) (ℕ × Stop AdminFault) → AdminFault
type_cause (Ok x) = if x.0 == 1 then BadAdmin else AdminUnknown
type_cause (Err stop) = BadAdmin

abbrev pub cause7 : List ℕ → AdminFault
cause7 body = type_cause (read front7 body 0)

-- ---- what a reader answers

-- the report, or the cause
abbrev pub told : {A : Type 0} → AdminFault → Result A (ℕ × Stop AdminFault) → Result A AdminFault
told cause (Ok report) = Ok report
told cause (Err stop) = Err cause

-- the answer to a whole body of version 6
abbrev pub answer6 : List ℕ → Result Report6 AdminFault
answer6 body = told (cause6 body) (read_whole report6 BadAdmin body)

-- the answer to a whole body of version 7
abbrev pub answer7 : List ℕ → Result Report7 AdminFault
answer7 body = told (cause7 body) (read_whole report7 BadAdmin body)

-- a result is this answer; memory runs out only where that is a report
abbrev pub Answers : {A : Type 0} → Result A AdminFault → Result A AdminFault → Type 0
Answers (Ok report) answer = answer ≡ Ok report
Answers (Err Memory) answer = IsOk answer
Answers (Err fault) answer = answer ≡ Err fault

-- no report is spelled by the body
abbrev pub SpellsNone : {A : Type 0} → Format AdminFault A → List ℕ → Type 0
SpellsNone {A} f body = (report : A) → Spells f [] body report → ⊥
