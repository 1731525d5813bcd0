-- The reports that a layout spells.

use Rattle.std.specs.Prelude.{◌≡◌, ℕ, ◌^◌, ◌<◌, Bool, true, false, List, length, get_or}
use Rattle.std.specs.List.{All}
use Rattle.endpoint.specs.Endpoints.{IsEndpoint}
use Rattle.bundle_meaning.specs.Reports.{IsStamp, IsReportPart}
use Rattle.status_reports.specs.declared.report6.Report6.{Report6}
use Rattle.status_reports.specs.declared.report6.Time6.{Time6}
use Rattle.status_reports.specs.declared.report7.Report7.{Report7}
use Rattle.status_reports.specs.Fields.{is_set}
use Rattle.status_reports.specs.Table6.{is_status, zero_time}

-- ---- version 6

-- the time of a status that is set, or of one that isn't
abbrev pub IsTime : Bool → Time6 → Type 0
IsTime true time = (time.seconds < 2 ^ 64) × (time.nanos < 1000000000)
IsTime false time = time ≡ zero_time

-- a time for each of the four statuses
pub record AreTimes (statuses : ℕ) (times : List Time6) : Type 0 where
  pub four : length times ≡ 4
  pub received : IsTime (is_set 1 statuses) (get_or times 0 zero_time)
  pub forwarded : IsTime (is_set 4 statuses) (get_or times 1 zero_time)
  pub delivered : IsTime (is_set 8 statuses) (get_or times 2 zero_time)
  pub deleted : IsTime (is_set 16 statuses) (get_or times 3 zero_time)

pub record IsReport6 (report : Report6) : Type 0 where
  pub status : is_status report.status ≡ true
  pub reason : report.reason < 256
  pub fragment : IsReportPart report.fragment
  pub times : AreTimes report.status report.times
  pub seconds : report.seconds < 2 ^ 64
  pub sequence : report.sequence < 2 ^ 64
  pub source : IsEndpoint report.source

-- ---- version 7

pub record IsReport7 (report : Report7) : Type 0 where
  pub four : length report.stamps ≡ 4
  pub stamps : All IsStamp report.stamps
  pub reason : report.reason < 256
  pub source : IsEndpoint report.source
  pub millis : report.millis < 2 ^ 64
  pub sequence : report.sequence < 2 ^ 64
  pub fragment : IsReportPart report.fragment
