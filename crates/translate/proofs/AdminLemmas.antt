-- Reports in the place of a payload's octets, read and written.

use Rattle.std.proofs.Common.{◌≡◌, ◌≢◌, ℕ, ◌^◌, ◌<◌, Bool, true, false, not, ◌==◌, List, [], ◌∷◌, length, Option, Some, None, Result, Ok, Err, refl, sym, ap, ◌∙◌, arith, eqb-true}
use Rattle.std.proofs.lemmas.Bool.{and_parts, ltb-true}
use Rattle.std.specs.List.{list_all}
use Rattle.wire_fields.specs.Reading.{IsOctets}
use Rattle.wire_fields.proofs.WholeLemmas.{whole-only}
use Rattle.bundle6.specs.Bits.{has_bit}
use Rattle.bundle_meaning.specs.declared.report.Report.{Report}
use Rattle.bundle_meaning.specs.declared.shared.Content.{Content}
use Rattle.bundle_meaning.specs.declared.shared.Content.TheVariants as contents
use Rattle.bundle_meaning.specs.Creation.{id7_of}
use Rattle.bundle_meaning.specs.Reports.{is_report, IsReport, no_time_of, rests_of}
use Rattle.bundle_meaning.specs.Valid.{IsContent}
use Rattle.status_reports.specs.declared.fault.AdminFault.{AdminFault}
use Rattle.status_reports.specs.declared.fault.AdminFault.TheVariants as faults
use Rattle.status_reports.specs.declared.report6.Report6.{Report6}
use Rattle.status_reports.specs.declared.report7.Report7.{Report7}
use Rattle.status_reports.specs.Table6.{report6}
use Rattle.status_reports.specs.Table7.{report7}
use Rattle.status_reports.specs.Order.{cause6, cause7, told, answer6, answer7}
use Rattle.status_reports.specs.Spelling.{report6_octets, report7_octets}
use Rattle.status_reports.specs.Pairing.{shared_of6, report6_of, times_fit, has_counterpart6, takes, report7_of, no_rests, has_counterpart7}
use Rattle.status_reports.proofs.PairLemmas.{takes-none, none-bare, pair6-there, pair6-back, shared6-valid, report6-legal, report6-takes, report6-fits, zero-rests, report7-legal, report7-takes, report7-fits, shared7-valid}
use Rattle.status_reports.proofs.SpellLemmas6.{report6-spells}
use Rattle.status_reports.proofs.SpellLemmas7.{report7-spells}
use Rattle.status_reports.proofs.SpelledLemmas6 as six
use Rattle.status_reports.proofs.SpelledLemmas7 as seven
use Rattle.translate.specs.declared.refused.Refused.TheVariants as causes
use Rattle.translate.specs.Admin.{admin_cause, report6_in, lacks_report6, takes_mask, content6, report7_in, lacks_report7, takes_parts, content7}
use Rattle.translate.specs.View6.{octets6_of}
use Rattle.translate.specs.View7.{octets7_of, has_no_rest}

report_is : Report → Content
report_is report = contents.Report report

-- ---- version 6, written

-- what is written is read as the report
answer6-back : (report : Report) → IsReport report → answer6 (report6_octets (report6_of report)) ≡ Ok (report6_of report)
answer6-back report is =
    let octets = report6_octets (report6_of report) in
    ap (told (cause6 octets))
    (whole-only report6 faults.BadAdmin octets (report6_of report) (report6-spells (report6_of report) (report6-legal report is)))

pub content6-back : (flags : ℕ) (content : Content) → has_bit 1 flags ≡ is_report content → IsContent content
    → content6 (report6_in flags (octets6_of content)) (no_time_of content) (octets6_of content) ≡ content
unfolding report_is
content6-back flags (contents.Bytes octets) bit is = rw bit refl
content6-back flags (contents.Report report) bit is =
    rw (bit, answer6-back report is) (ap report_is (sym (pair6-back report (report6_of report) is refl).there))

pub takes6-back : (flags : ℕ) (content : Content) → has_bit 1 flags ≡ is_report content → IsContent content
    → takes_mask (report6_in flags (octets6_of content)) (no_time_of content) ≡ true
takes6-back flags (contents.Bytes octets) bit is = rw bit refl
takes6-back flags (contents.Report report) bit is = rw (bit, answer6-back report is) (report6-takes report)

pub lacks6-back : (flags : ℕ) (content : Content) → has_bit 1 flags ≡ is_report content → IsContent content
    → lacks_report6 flags (octets6_of content) ≡ false
lacks6-back flags (contents.Bytes octets) bit is = rw bit refl
lacks6-back flags (contents.Report report) bit is = rw (bit, answer6-back report is, report6-fits report is) refl

-- ---- version 6, read

-- without a residue each status has its time
pub takes-zero : (carried : Option Report6) → takes_mask carried 0 ≡ true
takes-zero (Some report) = takes-none report.status report.times
takes-zero None = refl

pub no-bare : (carried : Option Report6) (octets : List ℕ) → no_time_of (content6 carried 0 octets) ≡ 0
no-bare (Some report) octets = none-bare report.status report.times
no-bare None octets = refl

pub report-bit6 : (flags bare : ℕ) (octets : List ℕ) → lacks_report6 flags octets ≡ false
    → has_bit 1 flags ≡ is_report (content6 (report6_in flags octets) bare octets)
report-bit6 flags bare octets lacks = by (has_bit 1 flags) (answer6 octets) refl refl
  where
    by : (t : Bool) (r : Result Report6 AdminFault) → has_bit 1 flags ≡ t → answer6 octets ≡ r
        → has_bit 1 flags ≡ is_report (content6 (report6_in flags octets) bare octets)
    by false r bit is = rw bit refl
    by true (Ok report) bit is = rw (bit, is) refl
    by true (Err fault) bit is = let no = rw (bit, is) at lacks in absurd (cc)

not-not : (b : Bool) → not b ≡ false → b ≡ true
not-not true is = refl
not-not false is = absurd (cc)

said6-is : (report : Report6) (bare : ℕ) (octets : List ℕ) → IsOctets octets → answer6 octets ≡ Ok report
    → takes report.status report.times bare ≡ true → not (has_counterpart6 report) ≡ false → IsReport (shared_of6 report bare)
said6-is report bare octets fits is may paired =
    let both = and_parts _ (times_fit report.times) (not-not (has_counterpart6 report) paired) in
    shared6-valid report bare (six.answers-legal (Ok report) octets fits is) may both.1 (ltb-true (id7_of report.seconds report.sequence).millis (2 ^ 64) both.0)

pub content6-is : (flags bare : ℕ) (octets : List ℕ) → length octets < 2 ^ 64 → IsOctets octets
    → takes_mask (report6_in flags octets) bare ≡ true → lacks_report6 flags octets ≡ false
    → IsContent (content6 (report6_in flags octets) bare octets)
content6-is flags bare octets size fits may lacks = by (has_bit 1 flags) (answer6 octets) refl refl
  where
    by : (t : Bool) (r : Result Report6 AdminFault) → has_bit 1 flags ≡ t → answer6 octets ≡ r
        → IsContent (content6 (report6_in flags octets) bare octets)
    by false r bit is = rw bit size
    by true (Ok report) bit is = rw (bit, is) (said6-is report bare octets fits is (rw (bit, is) at may) (rw (bit, is) at lacks))
    by true (Err fault) bit is = rw (bit, is) size

pub octets6-back : (flags bare : ℕ) (octets : List ℕ) → IsOctets octets → takes_mask (report6_in flags octets) bare ≡ true
    → octets6_of (content6 (report6_in flags octets) bare octets) ≡ octets
octets6-back flags bare octets fits may = by (has_bit 1 flags) (answer6 octets) refl refl
  where
    by : (t : Bool) (r : Result Report6 AdminFault) → has_bit 1 flags ≡ t → answer6 octets ≡ r
        → octets6_of (content6 (report6_in flags octets) bare octets) ≡ octets
    by false r bit is = rw bit refl
    by true (Ok report) bit is =
        let pair = pair6-there report bare (shared_of6 report bare) (six.answers-legal (Ok report) octets fits is) (rw (bit, is) at may) refl in
        let same = six.answers-same (Ok report) octets fits is in
        rw (bit, is) (ap report6_octets (sym pair.back) ∙ sym same)
    by true (Err fault) bit is = rw (bit, is) refl

-- ---- version 7, written

answer7-back : (report : Report) → IsReport report → answer7 (report7_octets (report7_of report)) ≡ Ok (report7_of report)
answer7-back report is =
    let octets = report7_octets (report7_of report) in
    ap (told (cause7 octets))
    (whole-only report7 faults.BadAdmin octets (report7_of report) (report7-spells (report7_of report) (report7-legal report is)))

pub content7-back : (flags : ℕ) (content : Content) → has_bit 1 flags ≡ is_report content → IsContent content
    → content7 (report7_in flags (octets7_of content)) (rests_of content) (octets7_of content) ≡ content
content7-back flags (contents.Bytes octets) bit is = rw bit refl
content7-back flags (contents.Report report) bit is = rw (bit, answer7-back report is) refl

pub takes7-back : (flags : ℕ) (content : Content) → has_bit 1 flags ≡ is_report content → IsContent content
    → takes_parts (report7_in flags (octets7_of content)) (rests_of content) ≡ true
takes7-back flags (contents.Bytes octets) bit is = rw bit refl
takes7-back flags (contents.Report report) bit is = rw (bit, answer7-back report is) (report7-takes report is)

pub lacks7-back : (flags : ℕ) (content : Content) → has_bit 1 flags ≡ is_report content → IsContent content
    → lacks_report7 flags (octets7_of content) ≡ false
lacks7-back flags (contents.Bytes octets) bit is = rw bit refl
lacks7-back flags (contents.Report report) bit is = rw (bit, answer7-back report is, report7-fits report is) refl

-- where no time has a part below one millisecond
zeros : (rests : List ℕ) → length rests ≡ 4 → list_all (λ rest. rest == 0) rests ≡ true → rests ≡ no_rests
zeros [] four all = absurd (omega (arith, four))
zeros (a ∷ []) four all = absurd (omega (arith, four))
zeros (a ∷ b ∷ []) four all = absurd (omega (arith, four))
zeros (a ∷ b ∷ c ∷ []) four all = absurd (omega (arith, four))
zeros (a ∷ b ∷ c ∷ d ∷ []) four all =
    let p = and_parts (a == 0) _ all in
    let q = and_parts (b == 0) _ p.1 in
    let r = and_parts (c == 0) _ q.1 in
    let s = and_parts (d == 0) _ r.1 in
    rw (eqb-true a 0 p.0, eqb-true b 0 q.0, eqb-true c 0 r.0, eqb-true d 0 s.0) refl
zeros (a ∷ b ∷ c ∷ d ∷ e ∷ rests) four all = absurd (omega (arith, four))

pub no-rests : (content : Content) → has_no_rest content ≡ true → IsContent content → rests_of content ≡ no_rests
no-rests (contents.Bytes octets) none is = refl
no-rests (contents.Report report) none is = zeros report.rests is.four_rests none

-- ---- version 7, read

pub parts-zero : (carried : Option Report7) → takes_parts carried no_rests ≡ true
parts-zero (Some report) = zero-rests report.stamps
parts-zero None = refl

pub no-parts : (carried : Option Report7) (octets : List ℕ) → has_no_rest (content7 carried no_rests octets) ≡ true
no-parts (Some report) octets = refl
no-parts None octets = refl

pub report-bit7 : (flags : ℕ) (rests octets : List ℕ) → lacks_report7 flags octets ≡ false
    → has_bit 1 flags ≡ is_report (content7 (report7_in flags octets) rests octets)
report-bit7 flags rests octets lacks = by (has_bit 1 flags) (answer7 octets) refl refl
  where
    by : (t : Bool) (r : Result Report7 AdminFault) → has_bit 1 flags ≡ t → answer7 octets ≡ r
        → has_bit 1 flags ≡ is_report (content7 (report7_in flags octets) rests octets)
    by false r bit is = rw bit refl
    by true (Ok report) bit is = rw (bit, is) refl
    by true (Err fault) bit is = let no = rw (bit, is) at lacks in absurd (cc)

pub content7-is : (flags : ℕ) (rests octets : List ℕ) → length octets < 2 ^ 64 → IsOctets octets → length rests ≡ 4
    → takes_parts (report7_in flags octets) rests ≡ true → lacks_report7 flags octets ≡ false
    → IsContent (content7 (report7_in flags octets) rests octets)
content7-is flags rests octets size fits four may lacks = by (has_bit 1 flags) (answer7 octets) refl refl
  where
    by : (t : Bool) (r : Result Report7 AdminFault) → has_bit 1 flags ≡ t → answer7 octets ≡ r
        → IsContent (content7 (report7_in flags octets) rests octets)
    by false r bit is = rw bit size
    by true (Ok report) bit is =
        let paired = not-not (has_counterpart7 report) (rw (bit, is) at lacks) in
        rw (bit, is) (shared7-valid report rests report.source (seven.answers-legal (Ok report) octets fits is) refl paired four (rw (bit, is) at may))
    by true (Err fault) bit is = rw (bit, is) size

pub octets7-back : (flags : ℕ) (rests octets : List ℕ) → IsOctets octets
    → octets7_of (content7 (report7_in flags octets) rests octets) ≡ octets
octets7-back flags rests octets fits = by (has_bit 1 flags) (answer7 octets) refl refl
  where
    by : (t : Bool) (r : Result Report7 AdminFault) → has_bit 1 flags ≡ t → answer7 octets ≡ r
        → octets7_of (content7 (report7_in flags octets) rests octets) ≡ octets
    by false r bit is = rw bit refl
    by true (Ok report) bit is = rw (bit, is) (sym (seven.answers-same (Ok report) octets fits is))
    by true (Err fault) bit is = rw (bit, is) refl

-- ---- causes

-- no payload wants memory
pub no-memory : {A : Type 0} (r : Result A AdminFault) → admin_cause r ≢ causes.Memory
no-memory (Ok report) is = absurd (cc)
no-memory (Err faults.CustodySignal) is = absurd (cc)
no-memory (Err faults.CustodyReport) is = absurd (cc)
no-memory (Err faults.AdminUnknown) is = absurd (cc)
no-memory (Err faults.BadAdmin) is = absurd (cc)
no-memory (Err faults.Memory) is = absurd (cc)
