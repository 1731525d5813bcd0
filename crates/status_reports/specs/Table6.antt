-- The layout of a status report of version 6 (RFC 5050, section 6.1.1).

use Rattle.std.specs.Prelude.{ℕ, Bool, ◌==◌, ◌&&◌, ◌||◌, not, nat_lt, List, [], ◌∷◌}
use Rattle.wire_fields.specs.Format.{Format, give, such_that, ◌>>=◌}
use Rattle.wire_fields.specs.Words.{needs, any_octet, choice, optional}
use Rattle.bundle_meaning.specs.declared.report.Part.{Part}
use Rattle.status_reports.specs.declared.fault.AdminFault.{AdminFault}
use Rattle.status_reports.specs.declared.fault.AdminFault.TheVariants.{BadAdmin}
use Rattle.status_reports.specs.declared.report6.Report6.{Report6}
use Rattle.status_reports.specs.declared.report6.Time6.{Time6}
use Rattle.status_reports.specs.Fields.{number, number_below, source6, is_set}

-- the record type 1, a status report, and as its flags 0, or 1 for the report on a fragment
abbrev pub lead : Format AdminFault ℕ
lead = such_that (any_octet BadAdmin) (λ octet. needs (octet == 0x10 || octet == 0x11) BadAdmin)

-- no status but received, forwarded, delivered and deleted
abbrev pub is_status : ℕ → Bool
is_status octet = nat_lt octet 0x20 && not (is_set 2 octet)

abbrev pub status : Format AdminFault ℕ
status = such_that (any_octet BadAdmin) (λ octet. needs (is_status octet) BadAdmin)

-- the part of the subject's payload
unfoldable pub part6 : Format AdminFault Part
part6 = do
  offset ← number
  length ← number
  give (record { offset = offset; length = length })

-- a time: seconds since the start of the year 2000, and nanoseconds
unfoldable pub time : Format AdminFault Time6
time = do
  seconds ← number
  nanos ← number_below 1000000000
  give (record { seconds = seconds; nanos = nanos })

-- the time of a status that isn't set
abbrev pub zero_time : Time6
zero_time = record { seconds = 0; nanos = 0 }

-- a status has a time where it is set
abbrev pub time_if : Bool → Format AdminFault Time6
time_if set = choice set time (give zero_time)

-- the times of received, forwarded, delivered and deleted, in this order
unfoldable pub times : ℕ → Format AdminFault (List Time6)
times statuses = do
  received ← time_if (is_set 1 statuses)
  forwarded ← time_if (is_set 4 statuses)
  delivered ← time_if (is_set 8 statuses)
  deleted ← time_if (is_set 16 statuses)
  give (received ∷ forwarded ∷ delivered ∷ deleted ∷ [])

-- the whole body: after the times the creation timestamp and the source of the subject
unfoldable pub report6 : Format AdminFault Report6
report6 = do
  octet ← lead
  statuses ← status
  reason ← any_octet BadAdmin
  fragment ← optional (octet == 0x11) part6
  all ← times statuses
  seconds ← number
  sequence ← number
  source ← source6
  give (record {
    status = statuses;
    reason = reason;
    fragment = fragment;
    times = all;
    seconds = seconds;
    sequence = sequence;
    source = source;
  })
