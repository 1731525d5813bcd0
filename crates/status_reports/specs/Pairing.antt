-- Which report of one version says the same as a report of the other (own rule). Version 6 has no
-- place for a status without a time, and version 7 none for the part of a time below one
-- millisecond: these stand in the shared report, and the residue of a bundle carries them.

use Rattle.std.specs.Prelude.{◌≡◌, ℕ, ◌+◌, ◌*◌, ◌/◌, ◌%◌, ◌^◌, Bool, true, false, ◌==◌, ◌&&◌, ◌||◌, not, nat_lt, List, [], ◌∷◌, get_or}
use Rattle.bundle_meaning.specs.declared.report.Stamp.{Stamp}
use Rattle.bundle_meaning.specs.declared.report.Stamp.TheVariants.{No, Yes, At}
use Rattle.bundle_meaning.specs.declared.report.Report.{Report}
use Rattle.bundle_meaning.specs.Creation.{id6_of, id7_of}
use Rattle.bundle_meaning.specs.Reports.{no_time, is_rest}
use Rattle.status_reports.specs.declared.report6.Report6.{Report6}
use Rattle.status_reports.specs.declared.report6.Time6.{Time6}
use Rattle.status_reports.specs.declared.report7.Report7.{Report7}
use Rattle.status_reports.specs.Fields.{is_set}
use Rattle.status_reports.specs.Table6.{is_status, zero_time}

-- ---- one time

-- its whole milliseconds, and the nanoseconds after them
abbrev pub millis_of : Time6 → ℕ
millis_of time = 1000 * time.seconds + time.nanos / 1000000

abbrev pub rest_of : Time6 → ℕ
rest_of time = time.nanos % 1000000

-- the time of so many milliseconds and nanoseconds after them
abbrev pub time_of : ℕ → ℕ → Time6
time_of millis rest = record {
  seconds = millis / 1000;
  nanos = millis % 1000 * 1000000 + rest;
}

-- ---- one status; it is bare where it is reported without a time

-- whether it is set, whether it is bare, and its time
abbrev pub stamp_of : Bool → Bool → Time6 → Stamp
stamp_of false bare time = No
stamp_of true true time = Yes
stamp_of true false time = At (millis_of time)

-- its bit, where it is reported
abbrev pub bit_of : Stamp → ℕ → ℕ
bit_of No bit = 0
bit_of Yes bit = bit
bit_of (At millis) bit = bit

-- its time; a status without one has the time 0, 0
abbrev pub stamped : Stamp → ℕ → Time6
stamped No rest = zero_time
stamped Yes rest = zero_time
stamped (At millis) rest = time_of millis rest

-- ---- all four

unfoldable pub stamps_of : ℕ → ℕ → List Time6 → List Stamp
stamps_of statuses bare times =
    stamp_of (is_set 1 statuses) (is_set 1 bare) (get_or times 0 zero_time)
    ∷ stamp_of (is_set 4 statuses) (is_set 4 bare) (get_or times 1 zero_time)
    ∷ stamp_of (is_set 8 statuses) (is_set 8 bare) (get_or times 2 zero_time)
    ∷ stamp_of (is_set 16 statuses) (is_set 16 bare) (get_or times 3 zero_time)
    ∷ []

unfoldable pub rests_of : List Time6 → List ℕ
rests_of times =
    rest_of (get_or times 0 zero_time) ∷ rest_of (get_or times 1 zero_time)
    ∷ rest_of (get_or times 2 zero_time) ∷ rest_of (get_or times 3 zero_time) ∷ []

unfoldable pub statuses_of : List Stamp → ℕ
statuses_of stamps =
    bit_of (get_or stamps 0 No) 1 + bit_of (get_or stamps 1 No) 4
    + bit_of (get_or stamps 2 No) 8 + bit_of (get_or stamps 3 No) 16

unfoldable pub times_of : List Stamp → List ℕ → List Time6
times_of stamps rests =
    stamped (get_or stamps 0 No) (get_or rests 0 0)
    ∷ stamped (get_or stamps 1 No) (get_or rests 1 0)
    ∷ stamped (get_or stamps 2 No) (get_or rests 2 0)
    ∷ stamped (get_or stamps 3 No) (get_or rests 3 0) ∷ []

-- ---- version 6 and the shared report

-- what a report of version 6 says, where the statuses of the mask are bare
abbrev pub shared_of6 : Report6 → ℕ → Report
shared_of6 report bare = record {
  stamps = stamps_of report.status bare report.times;
  rests = rests_of report.times;
  reason = report.reason;
  source = report.source;
  millis = (id7_of report.seconds report.sequence).millis;
  sequence = (id7_of report.seconds report.sequence).sequence;
  fragment = report.fragment;
}

-- the report of version 6 that says it, but for which statuses are bare
abbrev pub report6_of : Report → Report6
report6_of report = record {
  status = statuses_of report.stamps;
  reason = report.reason;
  fragment = report.fragment;
  times = times_of report.stamps report.rests;
  seconds = (id6_of report.millis report.sequence).seconds;
  sequence = (id6_of report.millis report.sequence).sequence;
  source = report.source;
}

-- Each is the other's; the mask of bare statuses is what version 6 has no place for.
pub record Pair6 (old : Report6) (bare : ℕ) (shared : Report) : Type 0 where
  pub there : shared ≡ shared_of6 old bare
  pub back : old ≡ report6_of shared
  pub mask : bare ≡ no_time shared.stamps

-- a status of the mask is set, and its time is 0, 0
abbrev pub may_lack : Bool → Bool → Time6 → Bool
may_lack bare set time = not bare || (set && time.seconds == 0 && time.nanos == 0)

-- the mask is one that a report of version 6 can have
unfoldable pub takes : ℕ → List Time6 → ℕ → Bool
takes statuses times bare =
    is_status bare
    && may_lack (is_set 1 bare) (is_set 1 statuses) (get_or times 0 zero_time)
    && may_lack (is_set 4 bare) (is_set 4 statuses) (get_or times 1 zero_time)
    && may_lack (is_set 8 bare) (is_set 8 statuses) (get_or times 2 zero_time)
    && may_lack (is_set 16 bare) (is_set 16 statuses) (get_or times 3 zero_time)

-- a time of version 6 has a counterpart: its milliseconds are a number of version 7
abbrev pub fits : Time6 → Bool
fits time = nat_lt (millis_of time) (2 ^ 64)

unfoldable pub times_fit : List Time6 → Bool
times_fit times =
    fits (get_or times 0 zero_time) && fits (get_or times 1 zero_time)
    && fits (get_or times 2 zero_time) && fits (get_or times 3 zero_time)

-- each time of the report and its subject's name have a counterpart in version 7
abbrev pub has_counterpart6 : Report6 → Bool
has_counterpart6 report =
    nat_lt (id7_of report.seconds report.sequence).millis (2 ^ 64) && times_fit report.times

-- ---- version 7 and the shared report

-- what a report of version 7 says, with these parts of its times below one millisecond
abbrev pub shared_of7 : Report7 → List ℕ → Report
shared_of7 report rests = record {
  stamps = report.stamps;
  rests = rests;
  reason = report.reason;
  source = report.source;
  millis = report.millis;
  sequence = report.sequence;
  fragment = report.fragment;
}

-- the report of version 7 that says it, but for those parts
abbrev pub report7_of : Report → Report7
report7_of report = record {
  stamps = report.stamps;
  reason = report.reason;
  source = report.source;
  millis = report.millis;
  sequence = report.sequence;
  fragment = report.fragment;
}

-- Each is the other's; the rests, parts of times below one millisecond, are what version 7 has no
-- place for.
pub record Pair7 (new : Report7) (rests : List ℕ) (shared : Report) : Type 0 where
  pub there : shared ≡ shared_of7 new rests
  pub back : new ≡ report7_of shared
  pub parts : rests ≡ shared.rests

abbrev pub no_rests : List ℕ
no_rests = 0 ∷ 0 ∷ 0 ∷ 0 ∷ []

-- rests that a report of version 7 can have: each is below one millisecond, and 0 without a time
unfoldable pub takes_rests : List Stamp → List ℕ → Bool
takes_rests stamps rests =
    is_rest (get_or stamps 0 No) (get_or rests 0 0)
    && is_rest (get_or stamps 1 No) (get_or rests 1 0)
    && is_rest (get_or stamps 2 No) (get_or rests 2 0)
    && is_rest (get_or stamps 3 No) (get_or rests 3 0)

-- the name of the report's subject has a counterpart in version 6; its times always have one
abbrev pub has_counterpart7 : Report7 → Bool
has_counterpart7 report = nat_lt (id6_of report.millis report.sequence).sequence (2 ^ 64)
