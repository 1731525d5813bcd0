-- The layout of a status report of version 7 (RFC 9171, section 6.1): an array of the record type 1
-- and the report, which is an array too.

use Rattle.std.specs.Prelude.{ℕ, Bool, ◌==◌, ◌&&◌, ◌||◌, nat_lt, if◌then◌else◌, List, [], ◌∷◌}
use Rattle.wire_fields.specs.Format.{Format, give, such_that, ◌>>=◌}
use Rattle.wire_fields.specs.Words.{needs, any_octet, any_unsigned, any_array, exact_unsigned, exact_array, choice, optional}
use Rattle.bundle_meaning.specs.declared.report.Part.{Part}
use Rattle.bundle_meaning.specs.declared.report.Stamp.{Stamp}
use Rattle.bundle_meaning.specs.declared.report.Stamp.TheVariants.{No, Yes, At}
use Rattle.status_reports.specs.declared.fault.AdminFault.{AdminFault}
use Rattle.status_reports.specs.declared.fault.AdminFault.TheVariants.{BadAdmin}
use Rattle.status_reports.specs.declared.report7.Report7.{Report7}
use Rattle.status_reports.specs.Fields.{source7}

-- the octets of false and true
abbrev pub no_octet : ℕ
no_octet = 0xF4

abbrev pub yes_octet : ℕ
yes_octet = 0xF5

-- ---- one status: [false], [true], or [true, time]

abbrev pub stamp_items : Format AdminFault ℕ
stamp_items = such_that (any_array BadAdmin) (λ n. needs (n == 1 || n == 2) BadAdmin)

-- a status with a time is set
abbrev pub may_say : ℕ → ℕ → Bool
may_say items octet = octet == yes_octet || (octet == no_octet && items == 1)

abbrev pub stamp_octet : ℕ → Format AdminFault ℕ
stamp_octet items = such_that (any_octet BadAdmin) (λ octet. needs (may_say items octet) BadAdmin)

-- without a time
abbrev pub plain : ℕ → Stamp
plain octet = if octet == yes_octet then Yes else No

-- with a time, in milliseconds since the start of the year 2000
unfoldable pub timed : Format AdminFault Stamp
timed = do
  millis ← any_unsigned BadAdmin
  give (At millis)

unfoldable pub stamp : Format AdminFault Stamp
stamp = do
  items ← stamp_items
  octet ← stamp_octet items
  choice (items == 2) timed (give (plain octet))

-- received, forwarded, delivered and deleted, in this order
unfoldable pub stamps : Format AdminFault (List Stamp)
stamps = do
  items ← exact_array 4 BadAdmin
  received ← stamp
  forwarded ← stamp
  delivered ← stamp
  deleted ← stamp
  give (received ∷ forwarded ∷ delivered ∷ deleted ∷ [])

-- ---- the other fields

abbrev pub report_items : Format AdminFault ℕ
report_items = such_that (any_array BadAdmin) (λ n. needs (n == 4 || n == 6) BadAdmin)

abbrev pub reason : Format AdminFault ℕ
reason = such_that (any_unsigned BadAdmin) (λ n. needs (nat_lt n 256) BadAdmin)

-- the part of the subject's payload
unfoldable pub part7 : Format AdminFault Part
part7 = do
  offset ← any_unsigned BadAdmin
  length ← any_unsigned BadAdmin
  give (record { offset = offset; length = length })

-- the report: of 6 items where its subject is a fragment, else of 4
unfoldable pub inner : Format AdminFault Report7
inner = do
  items ← report_items
  all ← stamps
  code ← reason
  source ← source7
  pair ← exact_array 2 BadAdmin
  millis ← any_unsigned BadAdmin
  sequence ← any_unsigned BadAdmin
  fragment ← optional (items == 6) part7
  give (record {
    stamps = all;
    reason = code;
    source = source;
    millis = millis;
    sequence = sequence;
    fragment = fragment;
  })

-- the whole body
unfoldable pub report7 : Format AdminFault Report7
report7 = do
  items ← exact_array 2 BadAdmin
  kind ← exact_unsigned 1 BadAdmin
  inner
