-- A report on a block of octets is no longer than a session carries.

use Rattle.std.proofs.Common.{◌≡◌, ℕ, ◌^◌, ◌<◌, Bool, true, false, ◌==◌, if◌then◌else◌, List, []}
use Rattle.std.proofs.Common.{◌∷◌, length, take, drop, take-append-drop, Option, None, Some, Result}
use Rattle.std.proofs.Common.{Ok, Err, All, refl, sym, subst, arith}
use Rattle.std.proofs.lemmas.List.Elements.{All-head, All-tail}
use Rattle.endpoint.specs.declared.extent.Fragment.{Fragment}
use Rattle.endpoint.specs.declared.name.Endpoint.{Endpoint}
use Rattle.endpoint.specs.Endpoints.{IsEndpoint}
use Rattle.wire_fields.specs.Reading.{IsOctets, read}
use Rattle.wire_fields.specs.Refusal.{Stop}
use Rattle.wire_fields.proofs.StayLemmas.{octets-parts, read-begins}
use Rattle.bundle6.specs.declared.block.Block6.{Block6}
use Rattle.bundle6.specs.declared.bundle.Bundle6.{Bundle6}
use Rattle.bundle6.specs.declared.fault.Cause6.{Cause6}
use Rattle.bundle6.specs.Legal as six
use Rattle.bundle6.specs.Table as table6
use Rattle.bundle6.proofs.LegalLemmas.{begun-legal}
use Rattle.bundle7.specs.declared.bundle.Bundle7.{Bundle7}
use Rattle.bundle7.specs.declared.fault.Cause7.{Cause7}
use Rattle.bundle7.specs.Legal as seven
use Rattle.bundle7.specs.Table as table7
use Rattle.bundle7.proofs.BlockLaws.{bundle-spelled}
use Rattle.bundle_meaning.specs.Reports.{IsReportPart}
use Rattle.translate.specs.Reading6.{payload_in}
use Rattle.gate_cases.specs.declared.case.GateCase.{GateCase}
use Rattle.gate_cases.specs.declared.case.GateCase.TheVariants as cases
use Rattle.gate_cases.specs.declared.case.Room.{Room}
use Rattle.gate_cases.specs.declared.cause.BadCause.TheVariants as bads
use Rattle.gate_cases.specs.declared.face.Face.{Face}
use Rattle.gate_cases.specs.declared.face.Face.TheVariants as faces
use Rattle.gate_cases.specs.declared.report.AskedReport.{AskedReport}
use Rattle.gate_cases.specs.declared.report.Creation.{Creation}
use Rattle.gate_cases.specs.declared.report.Creation.TheVariants as creations
use Rattle.gate_cases.specs.Blocks.{Arrival, Found, Subject, alone, arrival6, arrival7, bad, found6}
use Rattle.gate_cases.specs.Blocks.{found7, found_at, one, part_of, subject6, subject7}
use Rattle.gate_cases.specs.Bundles.{status_bundle, status_octets}
use Rattle.gate_cases.specs.Cases.{case_of, judged, judgement_of}
use Rattle.gate_cases.specs.Promises.{AreAskable, IsAskable, IsBlock}
use Rattle.gate_cases.specs.Reports.{is_asked, reason_of, report_on}
use Rattle.gate_cases.proofs.ReportLengths.{report6-block, report7-block}

-- ---- what a report says of its subject can be spelled

small-reason : (case : GateCase) → reason_of case < 256
small-reason (cases.BadBundle at cause) = omega arith
small-reason (cases.Untranslated cause) = omega arith
small-reason cases.Expired = omega arith
small-reason cases.HopLimit = omega arith
small-reason cases.Storage = omega arith
small-reason cases.Passed = omega arith

-- whatever becomes of it
abbrev IsSubject : Subject → Type 0
IsSubject subject = (case : GateCase) → IsAskable (report_on subject case)

part-is : (part : Option Fragment) (size : ℕ) → six.IsPart part → size < 2 ^ 64
    → IsReportPart (part_of part size)
part-is None size legal small = tt
part-is (Some part) size legal small = (legal.0, small)

payload-is : (blocks : List Block6) → All six.IsLegalBlock blocks
    → length (payload_in blocks).body < 2 ^ 64
unfolding payload_in
payload-is [] legal = omega arith
payload-is (block ∷ blocks) legal =
    let rest = payload-is blocks (All-tail six.IsLegalBlock block blocks legal) in
    by rest (table6.is_payload block)
  where
    by : length (payload_in blocks).body < 2 ^ 64 → (t : Bool)
        → length (if t then block else payload_in blocks).body < 2 ^ 64
    by rest true = (All-head six.IsLegalBlock block blocks legal).size
    by rest false = rest

six-is : (b : Bundle6) → six.IsLegal b → IsSubject (subject6 b)
six-is b legal case = record {
  report_to = (legal.primary).report_to;
  source = (legal.primary).source;
  creation = ((legal.primary).seconds, (legal.primary).sequence);
  fragment = part-is b.primary.fragment (length (payload_in b.blocks).body)
      (legal.primary).fragment (payload-is b.blocks legal.blocks);
  reason = small-reason case;
}

seven-part : (part : Option Fragment) → seven.IsPart part → six.IsPart part
seven-part None legal = tt
seven-part (Some part) legal = legal

seven-is : (b : Bundle7) → seven.IsLegal 64 b → IsSubject (subject7 b)
seven-is b legal case = record {
  report_to = (legal.primary).report_to;
  source = (legal.primary).source;
  creation = ((legal.primary).millis, (legal.primary).sequence);
  fragment = part-is b.primary.fragment (length b.payload.body)
      (seven-part b.primary.fragment (legal.primary).fragment) (legal.payload).size;
  reason = small-reason case;
}

-- ---- so it is with what stands in a block of octets

abbrev IsSubjectFound : Found → Type 0
IsSubjectFound (one arrival) = IsSubject arrival.subject
IsSubjectFound (bad at cause) = Unit {0}

alone-is : (size end : ℕ) (arrival : Arrival) → IsSubject arrival.subject
    → IsSubjectFound (alone size end arrival)
alone-is size end arrival is = by (end == size)
  where
    by : (t : Bool) → IsSubjectFound (if t then one arrival else bad end bads.Trailing)
    by true = is
    by false = tt

found-is : (face : Face) (block : List ℕ) → IsOctets block → IsSubjectFound (found_at face block)
unfolding found_at
found-is faces.Old block fits = by (read (table6.bundle 64) block 0) refl
  where
    by : (r : Result (Bundle6 × ℕ) (ℕ × Stop Cause6)) → read (table6.bundle 64) block 0 ≡ r
        → IsSubjectFound (found6 (length block) r)
    by (Ok x) is = alone-is (length block) x.1 (arrival6 x.0)
        (six-is x.0 (begun-legal block x.1 x.0 fits
        (read-begins (table6.bundle 64) block x.1 x.0 fits is)).legal)
    by (Err stop) is = tt
found-is faces.New block fits = by (read (table7.bundle 64) block 0) refl
  where
    by : (r : Result (Bundle7 × ℕ) (ℕ × Stop Cause7)) → read (table7.bundle 64) block 0 ≡ r
        → IsSubjectFound (found7 (length block) r)
    by (Ok x) is = alone-is (length block) x.1 (arrival7 x.0)
        (seven-is x.0 ((bundle-spelled 64 (take x.1 block) x.0
        (read-begins (table7.bundle 64) block x.1 x.0 fits is).spells).0
        (octets-parts block (take x.1 block) (drop x.1 block)
        (sym (take-append-drop x.1 block)) fits).0))
    by (Err stop) is = tt

-- ---- and with what is decided about it

asked-is : (face : Face) (found : Found) (cut : ℕ) (case : GateCase) → IsSubjectFound found
    → AreAskable (judgement_of face found cut case).report
asked-is face (bad at cause) cut case is = tt
asked-is face (one arrival) cut case is = by (is_asked arrival.subject case)
  where
    by : (t : Bool) → AreAskable (if t then Some (report_on arrival.subject case) else None)
    by true = is case
    by false = tt

judged-asks : (face : Face) (block : List ℕ) (now cut : ℕ) (room : Room) → IsOctets block
    → AreAskable (judged face block now cut room).report
unfolding judged
judged-asks face block now cut room fits =
    asked-is face (found_at face block) cut (case_of face (found_at face block) now cut room)
    (found-is face block fits)

-- in either version
report-is : (gate : Endpoint) (number now : ℕ) (asked : AskedReport) → IsEndpoint gate
    → IsAskable asked → IsBlock (status_bundle gate number now asked)
unfolding status_bundle
report-is gate number now asked legal askable = by asked.creation
  where
    by : (creation : Creation) → IsBlock (status_octets gate number now asked creation)
    by (creations.Six id) = report6-block gate number now asked id askable legal
    by (creations.Seven id) = report7-block gate number now asked id askable legal

pub asked-block : (gate : Endpoint) (number : ℕ) (face : Face) (block : List ℕ) (now cut : ℕ)
    (room : Room) (asked : AskedReport) → IsEndpoint gate → IsOctets block
    → (judged face block now cut room).report ≡ Some asked
    → IsBlock (status_bundle gate number now asked)
asked-block gate number face block now cut room asked legal fits asks =
    report-is gate number now asked legal
    (subst AreAskable asks (judged-asks face block now cut room fits))
