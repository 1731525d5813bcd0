-- Administrative bundles: a status report in the place of a payload's octets (RFC 5050, section 6.1;
-- RFC 9171, section 6.1). Flag bit 1 says so. No other administrative record is translated.

use Rattle.std.specs.Prelude.{ℕ, ◌==◌, Bool, false, ◌&&◌, not, if◌then◌else◌, List, Option, Some, None, Result, Ok, Err}
use Rattle.std.specs.List.{list_all}
use Rattle.std.specs.Result.{result_ok}
use Rattle.bundle6.specs.Bits.{has_bit}
use Rattle.bundle_meaning.specs.declared.shared.Content.{Content}
use Rattle.bundle_meaning.specs.declared.shared.Content.TheVariants as contents
use Rattle.status_reports.specs.declared.fault.AdminFault.{AdminFault}
use Rattle.status_reports.specs.declared.fault.AdminFault.TheVariants as faults
use Rattle.status_reports.specs.declared.report6.Report6.{Report6}
use Rattle.status_reports.specs.declared.report7.Report7.{Report7}
use Rattle.status_reports.specs.Order.{answer6, answer7}
use Rattle.status_reports.specs.Pairing.{shared_of6, has_counterpart6, takes, shared_of7, has_counterpart7, takes_rests}
use Rattle.translate.specs.declared.refused.Refused.{Refused}
use Rattle.translate.specs.declared.refused.Refused.TheVariants as causes

-- ---- why an administrative record isn't translated

abbrev pub refused_by : AdminFault → Refused
refused_by faults.CustodySignal = causes.CustodySignal
refused_by faults.CustodyReport = causes.CustodyReport
refused_by faults.AdminUnknown = causes.AdminUnknown
refused_by faults.BadAdmin = causes.BadAdmin
-- no payload is refused so
refused_by faults.Memory = causes.BadAdmin

-- by what reading it answers; a report without a counterpart is as bad as none
abbrev pub admin_cause : {A : Type 0} → Result A AdminFault → Refused
admin_cause (Ok report) = causes.BadAdmin
admin_cause (Err fault) = refused_by fault

-- ---- version 6: by a bundle's flags and its payload's octets

-- the report that the bundle carries
abbrev pub report6_in : ℕ → List ℕ → Option Report6
report6_in flags octets = if has_bit 1 flags then result_ok (answer6 octets) else None

abbrev pub is_paired6 : Option Report6 → Bool
is_paired6 (Some report) = has_counterpart6 report
is_paired6 None = false

-- it is administrative and carries no report that has a counterpart
abbrev pub lacks_report6 : ℕ → List ℕ → Bool
lacks_report6 flags octets = has_bit 1 flags && not (is_paired6 (report6_in flags octets))

-- statuses of the report that may be without a time; without a report there are none
abbrev pub takes_mask : Option Report6 → ℕ → Bool
takes_mask (Some report) bare = takes report.status report.times bare
takes_mask None bare = bare == 0

-- what the payload says, where these statuses have no time
abbrev pub content6 : Option Report6 → ℕ → List ℕ → Content
content6 (Some report) bare octets = contents.Report (shared_of6 report bare)
content6 None bare octets = contents.Bytes octets

-- ---- version 7

abbrev pub report7_in : ℕ → List ℕ → Option Report7
report7_in flags octets = if has_bit 1 flags then result_ok (answer7 octets) else None

abbrev pub is_paired7 : Option Report7 → Bool
is_paired7 (Some report) = has_counterpart7 report
is_paired7 None = false

abbrev pub lacks_report7 : ℕ → List ℕ → Bool
lacks_report7 flags octets = has_bit 1 flags && not (is_paired7 (report7_in flags octets))

-- parts below one millisecond that the report's times may have; without a report they are 0
abbrev pub takes_parts : Option Report7 → List ℕ → Bool
takes_parts (Some report) rests = takes_rests report.stamps rests
takes_parts None rests = list_all (λ rest. rest == 0) rests

-- what the payload says, where its times have these parts
abbrev pub content7 : Option Report7 → List ℕ → List ℕ → Content
content7 (Some report) rests octets = contents.Report (shared_of7 report rests)
content7 None rests octets = contents.Bytes octets
