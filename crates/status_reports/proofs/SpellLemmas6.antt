-- What is written of a report of version 6 spells it.

use Rattle.std.proofs.Common.{◌≡◌, ℕ, ◌^◌, ◌<◌, Bool, true, false, ◌==◌, List, [], ◌∷◌, ◌++◌, get_or, Option, Some, None, refl, sym, ◌∙◌, arith, append_assoc}
use Rattle.std.proofs.lemmas.List.{append-nil}
use Rattle.sdnv.specs.Shortest.{spelling}
use Rattle.wire_fields.specs.Format.{Spells}
use Rattle.wire_fields.specs.Words.{optional}
use Rattle.bundle_meaning.specs.declared.report.Part.{Part}
use Rattle.bundle_meaning.specs.Reports.{IsReportPart}
use Rattle.bundle_meaning.specs.Body.{name_octets}
use Rattle.status_reports.specs.declared.report6.Report6.{Report6}
use Rattle.status_reports.specs.declared.report6.Time6.{Time6}
use Rattle.status_reports.specs.Fields.{is_set}
use Rattle.status_reports.specs.Table6.{lead, part6, time, time_if, times, zero_time, report6}
use Rattle.status_reports.specs.Legal.{IsTime, AreTimes, IsReport6}
use Rattle.status_reports.specs.Spelling.{lead_octet, part6_octets, time_octets, times_octets, report6_octets, IsWritten}
use Rattle.status_reports.proofs.FieldLemmas.{number-spells, below-number-spells, source6-spells, four-list, written}

lead-spells : (front : List ℕ) (fragment : Option Part) → Spells lead front (lead_octet fragment ∷ []) (lead_octet fragment)
lead-spells front None = (refl, refl)
lead-spells front (Some part) = (refl, refl)

part-spells : (front : List ℕ) (part : Part) → part.offset < 2 ^ 64 → part.length < 2 ^ 64
    → Spells part6 front (spelling part.offset ++ spelling part.length) part
unfolding part6
part-spells front part one other = (
  spelling part.offset,
  spelling part.length,
  part.offset,
  refl,
  number-spells front part.offset one,
  (
    spelling part.length,
    [],
    part.length,
    sym (append-nil (spelling part.length)),
    number-spells (front ++ spelling part.offset) part.length other,
    (refl, refl),
  ),
)

fragment-spells : (front : List ℕ) (fragment : Option Part) → IsReportPart fragment
    → Spells (optional (lead_octet fragment == 0x11) part6) front (part6_octets fragment) fragment
fragment-spells front None is = (refl, refl)
fragment-spells front (Some part) is = (
  part6_octets (Some part),
  [],
  part,
  sym (append-nil (part6_octets (Some part))),
  part-spells front part is.0 is.1,
  (refl, refl),
)

-- ---- times

time-spells : (front : List ℕ) (t : Time6) → t.seconds < 2 ^ 64 → t.nanos < 1000000000
    → Spells time front (spelling t.seconds ++ spelling t.nanos) t
unfolding time
time-spells front t one other = (
  spelling t.seconds,
  spelling t.nanos,
  t.seconds,
  refl,
  number-spells front t.seconds one,
  (
    spelling t.nanos,
    [],
    t.nanos,
    sym (append-nil (spelling t.nanos)),
    below-number-spells (front ++ spelling t.seconds) 1000000000 t.nanos other (omega (arith, other)),
    (refl, refl),
  ),
)

time_if-spells : (front : List ℕ) (set : Bool) (t : Time6) → IsTime set t → Spells (time_if set) front (time_octets set t) t
time_if-spells front true t is = time-spells front t is.0 is.1
time_if-spells front false t is = (refl, is)

times-spells : (front : List ℕ) (statuses : ℕ) (all : List Time6) → AreTimes statuses all
    → Spells (times statuses) front (times_octets statuses all) all
unfolding times times_octets
times-spells front statuses all are = (
  time_octets (is_set 1 statuses) (get_or all 0 zero_time),
  _,
  get_or all 0 zero_time,
  refl,
  time_if-spells front (is_set 1 statuses) (get_or all 0 zero_time) are.received,
  (
    time_octets (is_set 4 statuses) (get_or all 1 zero_time),
    _,
    get_or all 1 zero_time,
    refl,
    time_if-spells _ (is_set 4 statuses) (get_or all 1 zero_time) are.forwarded,
    (
      time_octets (is_set 8 statuses) (get_or all 2 zero_time),
      _,
      get_or all 2 zero_time,
      refl,
      time_if-spells _ (is_set 8 statuses) (get_or all 2 zero_time) are.delivered,
      (
        time_octets (is_set 16 statuses) (get_or all 3 zero_time),
        [],
        get_or all 3 zero_time,
        sym (append-nil (time_octets (is_set 16 statuses) (get_or all 3 zero_time))),
        time_if-spells _ (is_set 16 statuses) (get_or all 3 zero_time) are.deleted,
        (refl, four-list all zero_time are.four),
      ),
    ),
  ),
)

-- ---- the whole

pub report6-spells : (report : Report6) → IsReport6 report → Spells report6 [] (report6_octets report) report
unfolding report6 report6_octets
report6-spells report is = (
  lead_octet report.fragment ∷ [],
  _,
  lead_octet report.fragment,
  refl,
  lead-spells [] report.fragment,
  (
    report.status ∷ [],
    _,
    report.status,
    refl,
    (refl, rw is.status refl),
    (
      report.reason ∷ [],
      _,
      report.reason,
      refl,
      refl,
      (
        part6_octets report.fragment,
        _,
        report.fragment,
        refl,
        fragment-spells _ report.fragment is.fragment,
        (
          times_octets report.status report.times,
          _,
          report.times,
          refl,
          times-spells _ report.status report.times is.times,
          (
            spelling report.seconds,
            _,
            report.seconds,
            refl,
            number-spells _ report.seconds is.seconds,
            (
              spelling report.sequence,
              _,
              report.sequence,
              refl,
              number-spells _ report.sequence is.sequence,
              (
                name_octets report.source,
                [],
                report.source,
                sym (append-nil (name_octets report.source)),
                source6-spells _ report.source is.source,
                (refl, refl),
              ),
            ),
          ),
        ),
      ),
    ),
  ),
)

joined : (a b c : ℕ) (part times seconds sequence source : List ℕ)
    → ((((((([] ++ a ∷ []) ++ b ∷ []) ++ c ∷ []) ++ part) ++ times) ++ seconds) ++ sequence) ++ source
    ≡ a ∷ b ∷ c ∷ (part ++ (times ++ (seconds ++ (sequence ++ source))))
joined a b c part times seconds sequence source = simp (append_assoc)

pub report6-written : (report : Report6) (start one two three four five six seven octets : List ℕ) → IsReport6 report
    → start ≡ [] → one ≡ start ++ lead_octet report.fragment ∷ [] → two ≡ one ++ report.status ∷ []
    → three ≡ two ++ report.reason ∷ [] → four ≡ three ++ part6_octets report.fragment
    → five ≡ four ++ times_octets report.status report.times → six ≡ five ++ spelling report.seconds
    → seven ≡ six ++ spelling report.sequence → octets ≡ seven ++ name_octets report.source
    → IsWritten report6 report (report6_octets report) octets
unfolding report6_octets
report6-written report start one two three four five six seven octets is e0 e1 e2 e3 e4 e5 e6 e7 e8 =
    let made : octets ≡ report6_octets report =
    e8 ∙ rw (e7, e6, e5, e4, e3, e2, e1, e0) (joined (lead_octet report.fragment) report.status report.reason
    (part6_octets report.fragment) (times_octets report.status report.times) (spelling report.seconds)
    (spelling report.sequence) (name_octets report.source)) in
    written report6 report (report6_octets report) octets (report6-spells report is) made
