-- The one spelling of each report: its octets.

use Rattle.std.specs.Prelude.{◌≡◌, ℕ, Bool, true, false, List, [], ◌∷◌, ◌++◌, get_or, Option, Some, None, Ok}
use Rattle.sdnv.specs.Shortest.{spelling}
use Rattle.cbor_lite.specs.Head.{head}
use Rattle.wire_fields.specs.Format.{Format, Spells}
use Rattle.wire_fields.specs.Whole.{read_whole}
use Rattle.bundle_meaning.specs.declared.report.Part.{Part}
use Rattle.bundle_meaning.specs.declared.report.Stamp.{Stamp}
use Rattle.bundle_meaning.specs.declared.report.Stamp.TheVariants.{No, Yes, At}
use Rattle.bundle_meaning.specs.Body.{name_octets}
use Rattle.bundle7.specs.Spelling.{eid_octets}
use Rattle.status_reports.specs.declared.fault.AdminFault.{AdminFault}
use Rattle.status_reports.specs.declared.fault.AdminFault.TheVariants.{BadAdmin}
use Rattle.status_reports.specs.declared.report6.Report6.{Report6}
use Rattle.status_reports.specs.declared.report6.Time6.{Time6}
use Rattle.status_reports.specs.declared.report7.Report7.{Report7}
use Rattle.status_reports.specs.Fields.{is_set}
use Rattle.status_reports.specs.Table6.{zero_time}
use Rattle.status_reports.specs.Table7.{no_octet, yes_octet}

-- ---- version 6

abbrev pub lead_octet : Option Part → ℕ
lead_octet None = 0x10
lead_octet (Some part) = 0x11

abbrev pub part6_octets : Option Part → List ℕ
part6_octets None = []
part6_octets (Some part) = spelling part.offset ++ spelling part.length

-- of a status that is set, or of one that isn't
abbrev pub time_octets : Bool → Time6 → List ℕ
time_octets true time = spelling time.seconds ++ spelling time.nanos
time_octets false time = []

unfoldable pub times_octets : ℕ → List Time6 → List ℕ
times_octets statuses times =
    time_octets (is_set 1 statuses) (get_or times 0 zero_time)
    ++ (time_octets (is_set 4 statuses) (get_or times 1 zero_time)
    ++ (time_octets (is_set 8 statuses) (get_or times 2 zero_time)
    ++ time_octets (is_set 16 statuses) (get_or times 3 zero_time)))

unfoldable pub report6_octets : Report6 → List ℕ
report6_octets report =
    lead_octet report.fragment ∷ report.status ∷ report.reason ∷ (part6_octets report.fragment
    ++ (times_octets report.status report.times ++ (spelling report.seconds
    ++ (spelling report.sequence ++ name_octets report.source))))

-- ---- version 7

abbrev pub stamp_octets : Stamp → List ℕ
stamp_octets No = head 4 1 ++ no_octet ∷ []
stamp_octets Yes = head 4 1 ++ yes_octet ∷ []
stamp_octets (At millis) = head 4 2 ++ yes_octet ∷ head 0 millis

unfoldable pub stamps_octets : List Stamp → List ℕ
stamps_octets stamps =
    head 4 4 ++ (stamp_octets (get_or stamps 0 No) ++ (stamp_octets (get_or stamps 1 No)
    ++ (stamp_octets (get_or stamps 2 No) ++ stamp_octets (get_or stamps 3 No))))

-- how many items the report has
abbrev pub items_of : Option Part → ℕ
items_of None = 4
items_of (Some part) = 6

abbrev pub part7_octets : Option Part → List ℕ
part7_octets None = []
part7_octets (Some part) = head 0 part.offset ++ head 0 part.length

unfoldable pub report7_octets : Report7 → List ℕ
report7_octets report =
    head 4 2 ++ (head 0 1 ++ (head 4 (items_of report.fragment) ++ (stamps_octets report.stamps
    ++ (head 0 report.reason ++ (eid_octets report.source ++ (head 4 2 ++ (head 0 report.millis
    ++ (head 0 report.sequence ++ part7_octets report.fragment))))))))

-- what a writer promises: these octets, that they spell the report, and that they are read back
pub record IsWritten {A : Type 0} (f : Format AdminFault A) (report : A)
    (made octets : List ℕ) : Type 0 where
  pub is : octets ≡ made
  pub spells : Spells f [] octets report
  pub again : read_whole f BadAdmin octets ≡ Ok report
