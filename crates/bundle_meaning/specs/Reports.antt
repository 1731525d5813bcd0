-- What a report says that only one version has a place for.

use Rattle.std.specs.Prelude.{◌≡◌, ℕ, ◌+◌, ◌^◌, ◌<◌, Bool, true, false, ◌&&◌, ◌||◌, ◌==◌, nat_lt, List, [], ◌∷◌, length, get_or, Option, Some, None}
use Rattle.std.specs.List.{All}
use Rattle.endpoint.specs.Endpoints.{IsEndpoint}
use Rattle.bundle_meaning.specs.declared.report.Stamp.{Stamp}
use Rattle.bundle_meaning.specs.declared.report.Stamp.TheVariants.{No, Yes, At}
use Rattle.bundle_meaning.specs.declared.report.Part.{Part}
use Rattle.bundle_meaning.specs.declared.report.Report.{Report}
use Rattle.bundle_meaning.specs.declared.shared.Content.{Content}
use Rattle.bundle_meaning.specs.declared.shared.Content.TheVariants as contents
use Rattle.bundle_meaning.specs.Creation.{id6_of}

abbrev pub is_report : Content → Bool
is_report (contents.Bytes octets) = false
is_report (contents.Report report) = true

-- ---- times

-- a bit where the status is reported without a time
abbrev pub untimed : Stamp → ℕ → ℕ
untimed No bit = 0
untimed Yes bit = bit
untimed (At millis) bit = 0

-- the statuses of a report that have no time, which version 6 can't say: 1 received, 4 forwarded,
-- 8 delivered, 16 deleted
abbrev pub no_time : List Stamp → ℕ
no_time stamps =
    untimed (get_or stamps 0 No) 1 + untimed (get_or stamps 1 No) 4
    + untimed (get_or stamps 2 No) 8 + untimed (get_or stamps 3 No) 16

abbrev pub no_time_of : Content → ℕ
no_time_of (contents.Bytes octets) = 0
no_time_of (contents.Report report) = no_time report.stamps

-- the parts of the times below one millisecond, in nanoseconds, which version 7 can't say
abbrev pub rests_of : Content → List ℕ
rests_of (contents.Bytes octets) = 0 ∷ 0 ∷ 0 ∷ 0 ∷ []
rests_of (contents.Report report) = report.rests

-- ---- reports of valid records

abbrev pub has_time : Stamp → Bool
has_time No = false
has_time Yes = false
has_time (At millis) = true

-- a rest is below one millisecond, and 0 where there is no time
abbrev pub is_rest : Stamp → ℕ → Bool
is_rest stamp rest = nat_lt rest 1000000 && (has_time stamp || rest == 0)

abbrev pub are_rests : List Stamp → List ℕ → Bool
are_rests [] rests = true
are_rests (stamp ∷ stamps) [] = true
are_rests (stamp ∷ stamps) (rest ∷ rests) = is_rest stamp rest && are_rests stamps rests

abbrev pub IsStamp : Stamp → Type 0
IsStamp No = Unit {0}
IsStamp Yes = Unit {0}
IsStamp (At millis) = millis < 2 ^ 64

abbrev pub IsReportPart : Option Part → Type 0
IsReportPart None = Unit {0}
IsReportPart (Some part) = (part.offset < 2 ^ 64) × (part.length < 2 ^ 64)

-- a report in a valid record
pub record IsReport (report : Report) : Type 0 where
  pub source : IsEndpoint report.source
  pub millis : report.millis < 2 ^ 64
  -- the subject's creation timestamp has a counterpart in version 6
  pub counterpart : (id6_of report.millis report.sequence).sequence < 2 ^ 64
  pub four_stamps : length report.stamps ≡ 4
  pub four_rests : length report.rests ≡ 4
  -- each time is a number of milliseconds
  pub stamps : All IsStamp report.stamps
  pub rests : are_rests report.stamps report.rests ≡ true
  pub reason : report.reason < 256
  pub fragment : IsReportPart report.fragment
