-- What is written of a report of version 7 spells it.

use Rattle.std.proofs.Common.{◌≡◌, ℕ, ◌^◌, ◌<◌, ◌==◌, List, [], ◌∷◌, ◌++◌, length, get_or, Option, Some, None, refl, sym, ◌∙◌, arith, append_assoc}
use Rattle.std.proofs.lemmas.List.{append-nil}
use Rattle.std.proofs.lemmas.Bool.{lt-ltb}
use Rattle.std.specs.List.{All}
use Rattle.cbor_lite.specs.Head.{head}
use Rattle.wire_fields.specs.Format.{Spells}
use Rattle.wire_fields.specs.Words.{optional}
use Rattle.bundle_meaning.specs.declared.report.Part.{Part}
use Rattle.bundle_meaning.specs.declared.report.Stamp.{Stamp}
use Rattle.bundle_meaning.specs.declared.report.Stamp.TheVariants.{No, Yes, At}
use Rattle.bundle_meaning.specs.Reports.{IsStamp, IsReportPart}
use Rattle.bundle7.specs.Spelling.{eid_octets}
use Rattle.status_reports.specs.declared.report7.Report7.{Report7}
use Rattle.status_reports.specs.Table7.{no_octet, yes_octet, timed, stamp, stamps, report_items, part7, inner, report7}
use Rattle.status_reports.specs.Legal.{IsReport7}
use Rattle.status_reports.specs.Spelling.{stamp_octets, stamps_octets, items_of, part7_octets, report7_octets, IsWritten}
use Rattle.status_reports.proofs.FieldLemmas.{head-spells, source7-spells, four-list, written}

-- ---- statuses

stamp-spells : (front : List ℕ) (s : Stamp) → IsStamp s → Spells stamp front (stamp_octets s) s
unfolding stamp timed
stamp-spells front No is = (
  head 4 1,
  no_octet ∷ [],
  1,
  refl,
  (head-spells 4 1 (omega arith), refl),
  (no_octet ∷ [], [], no_octet, refl, (refl, refl), (refl, refl)),
)
stamp-spells front Yes is = (
  head 4 1,
  yes_octet ∷ [],
  1,
  refl,
  (head-spells 4 1 (omega arith), refl),
  (yes_octet ∷ [], [], yes_octet, refl, (refl, refl), (refl, refl)),
)
stamp-spells front (At millis) is = (
  head 4 2,
  yes_octet ∷ head 0 millis,
  2,
  refl,
  (head-spells 4 2 (omega arith), refl),
  (
    yes_octet ∷ [],
    head 0 millis,
    yes_octet,
    refl,
    (refl, refl),
    (head 0 millis, [], millis, sym (append-nil (head 0 millis)), head-spells 0 millis is, (refl, refl)),
  ),
)

stamps-spells : (front : List ℕ) (all : List Stamp) → length all ≡ 4 → All IsStamp all
    → Spells stamps front (stamps_octets all) all
unfolding stamps stamps_octets
stamps-spells front all four are = (
  head 4 4,
  _,
  4,
  refl,
  (head-spells 4 4 (omega arith), refl),
  (
    stamp_octets (get_or all 0 No),
    _,
    get_or all 0 No,
    refl,
    stamp-spells _ (get_or all 0 No) (are 0 No (omega (arith, four))),
    (
      stamp_octets (get_or all 1 No),
      _,
      get_or all 1 No,
      refl,
      stamp-spells _ (get_or all 1 No) (are 1 No (omega (arith, four))),
      (
        stamp_octets (get_or all 2 No),
        _,
        get_or all 2 No,
        refl,
        stamp-spells _ (get_or all 2 No) (are 2 No (omega (arith, four))),
        (
          stamp_octets (get_or all 3 No),
          [],
          get_or all 3 No,
          sym (append-nil (stamp_octets (get_or all 3 No))),
          stamp-spells _ (get_or all 3 No) (are 3 No (omega (arith, four))),
          (refl, four-list all No four),
        ),
      ),
    ),
  ),
)

-- ---- the subject

part-spells : (front : List ℕ) (part : Part) → part.offset < 2 ^ 64 → part.length < 2 ^ 64
    → Spells part7 front (head 0 part.offset ++ head 0 part.length) part
unfolding part7
part-spells front part one other = (
  head 0 part.offset,
  head 0 part.length,
  part.offset,
  refl,
  head-spells 0 part.offset one,
  (
    head 0 part.length,
    [],
    part.length,
    sym (append-nil (head 0 part.length)),
    head-spells 0 part.length other,
    (refl, refl),
  ),
)

fragment-spells : (front : List ℕ) (fragment : Option Part) → IsReportPart fragment
    → Spells (optional (items_of fragment == 6) part7) front (part7_octets fragment) fragment
fragment-spells front None is = (refl, refl)
fragment-spells front (Some part) is = (
  part7_octets (Some part),
  [],
  part,
  sym (append-nil (part7_octets (Some part))),
  part-spells front part is.0 is.1,
  (refl, refl),
)

items-spells : (front : List ℕ) (fragment : Option Part) → Spells report_items front (head 4 (items_of fragment)) (items_of fragment)
items-spells front None = (head-spells 4 4 (omega arith), refl)
items-spells front (Some part) = (head-spells 4 6 (omega arith), refl)

-- ---- the whole

inner_octets : Report7 → List ℕ
inner_octets report =
    head 4 (items_of report.fragment) ++ (stamps_octets report.stamps
    ++ (head 0 report.reason ++ (eid_octets report.source ++ (head 4 2 ++ (head 0 report.millis
    ++ (head 0 report.sequence ++ part7_octets report.fragment))))))

inner-spells : (front : List ℕ) (report : Report7) → IsReport7 report → Spells inner front (inner_octets report) report
unfolding inner inner_octets
inner-spells front report is = (
  head 4 (items_of report.fragment),
  _,
  items_of report.fragment,
  refl,
  items-spells front report.fragment,
  (
    stamps_octets report.stamps,
    _,
    report.stamps,
    refl,
    stamps-spells _ report.stamps is.four is.stamps,
    (
      head 0 report.reason,
      _,
      report.reason,
      refl,
      (head-spells 0 report.reason (omega (arith, is.reason)), rw (lt-ltb report.reason 256 is.reason) refl),
      (
        eid_octets report.source,
        _,
        report.source,
        refl,
        source7-spells _ report.source is.source,
        (
          head 4 2,
          _,
          2,
          refl,
          (head-spells 4 2 (omega arith), refl),
          (
            head 0 report.millis,
            _,
            report.millis,
            refl,
            head-spells 0 report.millis is.millis,
            (
              head 0 report.sequence,
              _,
              report.sequence,
              refl,
              head-spells 0 report.sequence is.sequence,
              (
                part7_octets report.fragment,
                [],
                report.fragment,
                sym (append-nil (part7_octets report.fragment)),
                fragment-spells _ report.fragment is.fragment,
                (refl, refl),
              ),
            ),
          ),
        ),
      ),
    ),
  ),
)

pub report7-spells : (report : Report7) → IsReport7 report → Spells report7 [] (report7_octets report) report
unfolding report7 report7_octets inner_octets
report7-spells report is = (
  head 4 2,
  _,
  2,
  refl,
  (head-spells 4 2 (omega arith), refl),
  (head 0 1, inner_octets report, 1, refl, (head-spells 0 1 (omega arith), refl), inner-spells _ report is),
)

joined : (a b c d e f g h i j : List ℕ)
    → ((((((((([] ++ a) ++ b) ++ c) ++ d) ++ e) ++ f) ++ g) ++ h) ++ i) ++ j
    ≡ a ++ (b ++ (c ++ (d ++ (e ++ (f ++ (g ++ (h ++ (i ++ j))))))))
joined a b c d e f g h i j = simp (append_assoc)

pub report7-written : (report : Report7) (start one two three four five six seven eight nine octets : List ℕ) → IsReport7 report
    → start ≡ [] → one ≡ start ++ head 4 2 → two ≡ one ++ head 0 1 → three ≡ two ++ head 4 (items_of report.fragment)
    → four ≡ three ++ stamps_octets report.stamps → five ≡ four ++ head 0 report.reason
    → six ≡ five ++ eid_octets report.source → seven ≡ six ++ head 4 2 → eight ≡ seven ++ head 0 report.millis
    → nine ≡ eight ++ head 0 report.sequence → octets ≡ nine ++ part7_octets report.fragment
    → IsWritten report7 report (report7_octets report) octets
unfolding report7_octets
report7-written report start one two three four five six seven eight nine octets is e0 e1 e2 e3 e4 e5 e6 e7 e8 e9 e10 =
    let made : octets ≡ report7_octets report =
    e10 ∙ rw (e9, e8, e7, e6, e5, e4, e3, e2, e1, e0) (joined (head 4 2) (head 0 1) (head 4 (items_of report.fragment))
    (stamps_octets report.stamps) (head 0 report.reason) (eid_octets report.source) (head 4 2) (head 0 report.millis)
    (head 0 report.sequence) (part7_octets report.fragment)) in
    written report7 report (report7_octets report) octets (report7-spells report is) made
