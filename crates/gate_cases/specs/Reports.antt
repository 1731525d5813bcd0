-- Which status report a bundle asks for, and what it says (RFC 5050, section 6.1.1; RFC 9171, section
-- 6.1.1).
use Rattle.std.specs.Prelude.{ℕ, Bool, true, false, ◌&&◌, ◌||◌, not, if◌then◌else◌, Option, Some, None}
use Rattle.bundle6.specs.Bits.{has_bit}
use Rattle.endpoint.specs.Endpoints.{is_null}
use Rattle.gate_cases.specs.declared.case.GateCase.{GateCase}
use Rattle.gate_cases.specs.declared.case.GateCase.TheVariants as cases
use Rattle.gate_cases.specs.declared.face.Face.{Face}
use Rattle.gate_cases.specs.declared.face.Face.TheVariants.{Old, New}
use Rattle.gate_cases.specs.declared.report.AskedReport.{AskedReport}
use Rattle.gate_cases.specs.declared.report.Creation.{Creation}
use Rattle.gate_cases.specs.declared.report.Creation.TheVariants.{Six, Seven}
use Rattle.gate_cases.specs.declared.report.Statuses.{Statuses}
use Rattle.gate_cases.specs.Blocks.{Subject}

-- the face at which a bundle of this version comes and goes
abbrev pub face_of : Creation → Face
face_of (Six id) = Old
face_of (Seven id) = New

-- ---- the case

-- the reason code: 1 lifetime expired, 4 depleted storage, 9 hop limit exceeded, 0 no additional
-- information
abbrev pub reason_of : GateCase → ℕ
reason_of (cases.BadBundle at cause) = 0
reason_of (cases.Untranslated cause) = 0
reason_of cases.Expired = 1
reason_of cases.HopLimit = 9
reason_of cases.Storage = 4
reason_of cases.Passed = 0

abbrev pub is_passed : GateCase → Bool
is_passed (cases.BadBundle at cause) = false
is_passed (cases.Untranslated cause) = false
is_passed cases.Expired = false
is_passed cases.HopLimit = false
is_passed cases.Storage = false
is_passed cases.Passed = true

-- the bundle is deleted; of a block that is none nothing is said
abbrev pub is_deleted : GateCase → Bool
is_deleted (cases.BadBundle at cause) = false
is_deleted (cases.Untranslated cause) = true
is_deleted cases.Expired = true
is_deleted cases.HopLimit = true
is_deleted cases.Storage = true
is_deleted cases.Passed = false

-- ---- what is asked

-- bundle flags: 14 asks for a report on reception, 16 on forwarding, 18 on deletion
abbrev pub statuses_of : ℕ → GateCase → Statuses
statuses_of flags case = record {
  received = has_bit 14 flags;
  forwarded = has_bit 16 flags && is_passed case;
  deleted = has_bit 18 flags && is_deleted case;
}

abbrev pub is_any : Statuses → Bool
is_any statuses = statuses.received || statuses.forwarded || statuses.deleted

-- one of the statuses is asked for; an administrative bundle, which flag bit 1 says, asks for no report,
-- and there is none for nobody
abbrev pub is_asked : Subject → GateCase → Bool
is_asked subject case =
    not (has_bit 1 subject.flags) && not (is_null subject.report_to) && is_any (statuses_of subject.flags case)

abbrev pub report_on : Subject → GateCase → AskedReport
report_on subject case = record {
  report_to = subject.report_to;
  source = subject.source;
  creation = subject.creation;
  fragment = subject.fragment;
  statuses = statuses_of subject.flags case;
  reason = reason_of case;
  timed = subject.timed;
}

abbrev pub asked : Subject → GateCase → Option AskedReport
asked subject case = if is_asked subject case then Some (report_on subject case) else None
