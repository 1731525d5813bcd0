-- Single fields of reports. Each that isn't there as it should be makes the body no report.

use Rattle.std.specs.Prelude.{ℕ, Bool, ◌/◌, ◌%◌, ◌==◌, Option, Some}
use Rattle.endpoint.specs.declared.name.Endpoint.{Endpoint}
use Rattle.wire_fields.specs.Format.{Format}
use Rattle.wire_fields.specs.Refusal.{Stop, truncated, because}
use Rattle.wire_fields.specs.declared.miss.Miss.{Miss}
use Rattle.wire_fields.specs.declared.miss.Miss.TheVariants as misses
use Rattle.bundle_meaning.specs.Body.{shortest, below, name}
use Rattle.bundle7.specs.Eid.{eid}
use Rattle.status_reports.specs.declared.fault.AdminFault.{AdminFault}
use Rattle.status_reports.specs.declared.fault.AdminFault.TheVariants.{BadAdmin}
use Rattle.status_reports.specs.declared.field.Unfit.{Unfit}
use Rattle.status_reports.specs.Causes.{with_cause}

-- a number of seven bits an octet, in as few octets as can be
abbrev pub number : Format AdminFault ℕ
number = with_cause BadAdmin shortest

-- such a number below a limit
abbrev pub number_below : ℕ → Format AdminFault ℕ
number_below limit = with_cause BadAdmin (below limit)

-- an endpoint as a text with its length before it
abbrev pub source6 : Format AdminFault Endpoint
source6 = with_cause BadAdmin name

-- an endpoint as version 7 spells it
abbrev pub source7 : Format AdminFault Endpoint
source7 = with_cause BadAdmin eid

-- the bit of a status is set: 1 received, 4 forwarded, 8 delivered, 16 deleted
abbrev pub is_set : ℕ → ℕ → Bool
is_set bit statuses = statuses / bit % 2 == 1

-- ---- what code says of a field that isn't there

abbrev pub why : Miss → Stop AdminFault
why misses.Truncated = truncated
why misses.Absent = because BadAdmin

abbrev pub refusal : Unfit → Option (ℕ × Stop AdminFault)
refusal unfit = Some (unfit.at, why unfit.miss)
