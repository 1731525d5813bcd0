-- A report can be added: it has no age.

use Rattle.std.proofs.Common.{◌≡◌, ℕ, ◌^◌, ◌<◌, Bool, true, false, ◌&&◌, if◌then◌else◌, List, [], length, Option, Some, None, refl, sym, subst, arith}
use Rattle.std.specs.Option.{option_map, is_none}
use Rattle.std.proofs.lemmas.List.Elements.{All-head}
use Rattle.endpoint.specs.declared.name.Endpoint.{Endpoint}
use Rattle.endpoint.specs.Endpoints.{IsEndpoint}
use Rattle.bundle6.specs.declared.block.Block6.{Block6}
use Rattle.bundle6.specs.declared.bundle.Bundle6.{Bundle6}
use Rattle.bundle6.specs.Spelling.{canon6}
use Rattle.bundle7.specs.declared.bundle.Bundle7.{Bundle7}
use Rattle.bundle7.specs.Legal.{IsLegal7}
use Rattle.bundle7.specs.Spelling.{octets7}
use Rattle.status_reports.specs.Spelling.{report6_octets, report7_octets}
use Rattle.translate.specs.Legal.{IsSized6}
use Rattle.translate.specs.Reading6.{full6_of}
use Rattle.translate.specs.Reading7.{full7_of}
use Rattle.translate.specs.Refusals.{first_that_holds}
use Rattle.translate.proofs.SpelledLemmas.{canon-sized, octets7-sized}
use Rattle.gate_cases.specs.declared.case.GateCase.{GateCase}
use Rattle.gate_cases.specs.declared.face.Face.{Face}
use Rattle.gate_cases.specs.declared.face.Face.TheVariants as faces
use Rattle.gate_cases.specs.declared.report.AskedReport.{AskedReport}
use Rattle.gate_cases.specs.declared.report.Creation.{Creation}
use Rattle.gate_cases.specs.declared.report.Creation.TheVariants as creations
use Rattle.gate_cases.specs.Blocks.{Subject}
use Rattle.gate_cases.specs.Bundles.{bundle6_with, bundle7_with, report6_of, report7_of, status_octets, status_bundle}
use Rattle.gate_cases.specs.Promises.{IsAskable, AreAskable, IsBlock}
use Rattle.gate_cases.specs.Reports.{face_of, asked, is_asked, report_on}
use Rattle.gate_cases.proofs.SpellLemmas.{bundle6-legal}
use Rattle.block_types.specs.declared.types.BlockTypes.{BlockTypes}
use Rattle.block_types.specs.Relabelled.{relabelled6, relabelled7}
use Rattle.bundle_age.specs.Raised.{has_age}
use Rattle.peer_cases.specs.declared.decision.Decision.{Decision}
use Rattle.peer_cases.specs.declared.pieces.SizedPiece.{SizedPiece}
use Rattle.peer_cases.specs.declared.room.FaceRoom.{FaceRoom}
use Rattle.peer_cases.specs.declared.settings.PeerSettings.{PeerSettings}
use Rattle.peer_cases.specs.Arrivals.{Came, came6, came7}
use Rattle.peer_cases.specs.Cases.{decided}
use Rattle.peer_cases.specs.Rows.{came_in, decided_in}
use Rattle.peer_gateway.specs.Going.{piece_at}
use Rattle.peer_gateway.specs.Ties.{CanBeAdded, IsReport}
use Rattle.peer_gateway.proofs.AgeLemmas.{came-old-in, came-new-in}
use Rattle.peer_gateway.proofs.SizedLemmas.{raises_of, ReadsWithin, sized-at}

-- ---- a report is a legal bundle

bundle7-legal : (gate : Endpoint) (counter now : ℕ) (report : AskedReport) (body : List ℕ) → IsAskable report → IsEndpoint gate
    → counter < 2 ^ 32 → now < 2 ^ 62 → length body < 2 ^ 64 → IsLegal7 (bundle7_with gate counter now report body)
bundle7-legal gate counter now report body askable legal few soon size = record {
  primary = record {
    flags = omega arith;
    crc = omega arith;
    destination = askable.report_to;
    source = legal;
    report_to = tt;
    millis = omega (arith, soon);
    sequence = omega (arith, few);
    lifetime = omega arith;
    fragment_bit = refl;
    fragment = tt;
  };
  few = omega arith;
  exts = tt;
  payload = record {
    kind = omega arith;
    once = refl;
    number = refl;
    number_fits = omega arith;
    flags = omega arith;
    crc = omega arith;
    size = size;
    within = refl;
    body = record {
      if_previous_node = λ is. absurd (omega (arith, is));
      if_bundle_age = λ is. absurd (omega (arith, is));
      if_hop_count = λ is. absurd (omega (arith, is));
    };
  };
  payload_kind = refl;
}

-- ---- it reads as a record without an age

ageless6 : (types : BlockTypes) (gate : Endpoint) (counter now : ℕ) (report : AskedReport) (body : List ℕ)
    → has_age (full6_of (relabelled6 types (bundle6_with gate counter now report body))) ≡ false
unfolding relabelled6
ageless6 types gate counter now report body = refl

ageless7 : (types : BlockTypes) (gate : Endpoint) (counter now : ℕ) (report : AskedReport) (body : List ℕ)
    → has_age (full7_of (relabelled7 types (bundle7_with gate counter now report body))) ≡ false
unfolding relabelled7
ageless7 types gate counter now report body = refl

never-raised : (came : Came) → has_age (came.arrival).full ≡ false → raises_of came ≡ false
never-raised came ageless = by (is_none (first_that_holds (came.arrival).refusals)) (has_age (came.arrival).full) ageless
  where
    by : (t u : Bool) → u ≡ false → (t && u) ≡ false
    by true u is = is
    by false u is = refl

as-it-is : (s : PeerSettings) (face : Face) (octets : List ℕ) (came : Came) → has_age (came.arrival).full ≡ false
    → ReadsWithin s face octets (length octets) (Some came)
as-it-is s face octets came ageless =
    let never = never-raised came ageless in (λ raises. absurd (cc), λ kept. omega arith)

reads-old : (s : PeerSettings) (gate : Endpoint) (counter now : ℕ) (report : AskedReport) (body : List ℕ) → IsAskable report → IsEndpoint gate
    → counter < 2 ^ 32 → now < 2 ^ 62 → length (canon6 (bundle6_with gate counter now report body)) < 2 ^ 64
    → ReadsWithin s faces.Old (canon6 (bundle6_with gate counter now report body)) (length (canon6 (bundle6_with gate counter now report body)))
    (came_in s faces.Old (canon6 (bundle6_with gate counter now report body)))
reads-old s gate counter now report body askable legal few soon small =
    let b = bundle6_with gate counter now report body in
    let sized = canon-sized b small in
    let block : Block6 = record { kind = 1; flags = 0; refs = []; body = body } in
    let is = bundle6-legal gate counter now report body askable legal few soon (All-head IsSized6 block [] sized.0) in
    subst (ReadsWithin s faces.Old (canon6 b) (length (canon6 b))) (sym (came-old-in s b is sized.1))
    (as-it-is s faces.Old (canon6 b) (came6 s b) (ageless6 s.types gate counter now report body))

reads-new : (s : PeerSettings) (gate : Endpoint) (counter now : ℕ) (report : AskedReport) (body : List ℕ) → IsAskable report → IsEndpoint gate
    → counter < 2 ^ 32 → now < 2 ^ 62 → length (octets7 (bundle7_with gate counter now report body)) < 2 ^ 64
    → ReadsWithin s faces.New (octets7 (bundle7_with gate counter now report body)) (length (octets7 (bundle7_with gate counter now report body)))
    (came_in s faces.New (octets7 (bundle7_with gate counter now report body)))
reads-new s gate counter now report body askable legal few soon small =
    let b = bundle7_with gate counter now report body in
    let is = bundle7-legal gate counter now report body askable legal few soon (octets7-sized b small).payload in
    subst (ReadsWithin s faces.New (octets7 b) (length (octets7 b))) (sym (came-new-in s b is))
    (as-it-is s faces.New (octets7 b) (came7 s b) (ageless7 s.types gate counter now report body))

reads-status : (s : PeerSettings) (gate : Endpoint) (counter now : ℕ) (report : AskedReport) (creation : Creation) → IsAskable report → IsEndpoint gate
    → counter < 2 ^ 32 → now < 2 ^ 62 → length (status_octets gate counter now report creation) < 2 ^ 64
    → ReadsWithin s (face_of creation) (status_octets gate counter now report creation) (length (status_octets gate counter now report creation))
    (came_in s (face_of creation) (status_octets gate counter now report creation))
reads-status s gate counter now report (creations.Six subject) askable legal few soon small =
    reads-old s gate counter now report (report6_octets (report6_of report subject now)) askable legal few soon small
reads-status s gate counter now report (creations.Seven subject) askable legal few soon small =
    reads-new s gate counter now report (report7_octets (report7_of report subject now)) askable legal few soon small

report-added : (s : PeerSettings) (face : Face) (gate : Endpoint) (counter now : ℕ) (report : AskedReport) → IsReport face (Some report)
    → IsEndpoint gate → counter < 2 ^ 32 → now < 2 ^ 62 → IsBlock (status_bundle gate counter now report)
    → CanBeAdded s face (record { octets = status_bundle gate counter now report; size = length (status_bundle gate counter now report); is_dated = false })
unfolding status_bundle
report-added s face gate counter now report goes legal few soon block = record {
  small = block.small;
  sized = λ m leaves early.
      let piece : SizedPiece = record { octets = status_bundle gate counter now report; size = length (status_bundle gate counter now report); is_dated = false } in
      sized-at s face leaves (piece_at m face piece) block.some block.small early (λ kept. omega arith)
      (λ raises. subst (λ (f : Face). ReadsWithin s f (status_octets gate counter now report report.creation)
      (length (status_octets gate counter now report report.creation)) (came_in s f (status_octets gate counter now report report.creation))) goes.1
      (reads-status s gate counter now report report.creation goes.0 legal few soon (omega (arith, block.small))));
}

-- as the code has it
pub report-made : (s : PeerSettings) (face : Face) (gate : Endpoint) (counter now : ℕ) (reports : Option AskedReport) (report : AskedReport) (octets : List ℕ)
    → reports ≡ Some report → IsReport face reports → IsEndpoint gate → counter < 2 ^ 32 → now < 2 ^ 62 → octets ≡ status_bundle gate counter now report
    → IsBlock octets → CanBeAdded s face (record { octets = octets; size = length octets; is_dated = false })
report-made s face gate counter now reports report octets some goes legal few soon is block =
    subst (λ (w : List ℕ). CanBeAdded s face (record { octets = w; size = length w; is_dated = false })) (sym is)
    (report-added s face gate counter now report (subst (IsReport face) some goes) legal few soon (subst IsBlock is block))

-- ---- it goes back at the face at which its bundle came

asked-at : (face : Face) (subject : Subject) (case : GateCase) → face_of subject.creation ≡ face → AreAskable (asked subject case)
    → IsReport face (asked subject case)
asked-at face subject case is = by (is_asked subject case)
  where
    by : (t : Bool) → AreAskable (if t then Some (report_on subject case) else None) → IsReport face (if t then Some (report_on subject case) else None)
    by true askable = (askable, is)
    by false askable = tt

came-face : (s : PeerSettings) (face : Face) (octets : List ℕ) (came : Came) → came_in s face octets ≡ Some came
    → face_of ((came.arrival).subject).creation ≡ face
unfolding came_in
came-face s faces.Old octets came is = old-one _ came is
  where
    old-one : (r : Option (Bundle6 × ℕ)) (came : Came) → option_map (λ (x : Bundle6 × ℕ). came6 s x.0) r ≡ Some came
        → face_of ((came.arrival).subject).creation ≡ faces.Old
    old-one None came is = absurd (cc)
    old-one (Some x) came is =
        let same : came6 s x.0 ≡ came = cc in subst (λ (c : Came). face_of ((c.arrival).subject).creation ≡ faces.Old) same refl
came-face s faces.New octets came is = new-one _ came is
  where
    new-one : (r : Option (Bundle7 × ℕ)) (came : Came) → option_map (λ (x : Bundle7 × ℕ). came7 s x.0) r ≡ Some came
        → face_of ((came.arrival).subject).creation ≡ faces.New
    new-one None came is = absurd (cc)
    new-one (Some x) came is =
        let same : came7 s x.0 ≡ came = cc in subst (λ (c : Came). face_of ((c.arrival).subject).creation ≡ faces.New) same refl

report-one : (s : PeerSettings) (face : Face) (octets : List ℕ) (now cut : ℕ) (room : FaceRoom) (d : Decision) (came : Option Came)
    → came_in s face octets ≡ came → option_map (λ (c : Came). decided s face c now cut room) came ≡ Some d → AreAskable d.report
    → IsReport face d.report
unfolding decided
report-one s face octets now cut room d None is gives askable = absurd (cc)
report-one s face octets now cut room d (Some came) is gives askable =
    let same : decided s face came now cut room ≡ d = cc in
    subst (λ (x : Decision). IsReport face x.report) same
    (asked-at face (came.arrival).subject _ (came-face s face octets came is) (subst (λ (x : Decision). AreAskable x.report) (sym same) askable))

pub decided-report : (s : PeerSettings) (face : Face) (octets : List ℕ) (now cut : ℕ) (room : FaceRoom) (d : Decision)
    → decided_in s face octets now cut room ≡ Some d → AreAskable d.report → IsReport face d.report
unfolding decided_in
decided-report s face octets now cut room d gives askable =
    report-one s face octets now cut room d (came_in s face octets) refl gives askable
