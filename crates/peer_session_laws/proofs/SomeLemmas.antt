-- Pieces that a step adds have an octet, and so have the blocks that are made of them.

use Rattle.std.proofs.Common.{ℕ, ◌<◌, List, [], ◌∷◌, length, map, arith}
use Rattle.std.specs.List.{AllByRecursion}
use Rattle.bundle6.specs.Spelling as six
use Rattle.bundle7.specs.Spelling as seven
use Rattle.bundle_meaning.specs.declared.full.Full.{Full}
use Rattle.endpoint.specs.declared.name.Endpoint.{Endpoint}
use Rattle.gate_cases.specs.declared.case.GateCase.{GateCase}
use Rattle.gate_cases.specs.declared.case.GateCase.TheVariants as cases
use Rattle.gate_cases.specs.declared.face.Face.{Face}
use Rattle.gate_cases.specs.declared.report.AskedReport.{AskedReport}
use Rattle.gate_cases.specs.declared.report.Creation.{Creation}
use Rattle.gate_cases.specs.declared.report.Creation.TheVariants.{Six, Seven}
use Rattle.gate_cases.specs.Bundles.{status_bundle, status_octets}
use Rattle.gate_cases.specs.Cases.{records_of}
use Rattle.gate_cases.specs.Faces.{other_of}
use Rattle.peer_cases.specs.declared.pieces.SizedPiece.{SizedPiece}
use Rattle.peer_cases.specs.declared.room.FaceRoom.{FaceRoom}
use Rattle.peer_cases.specs.declared.settings.PeerSettings.{PeerSettings}
use Rattle.peer_cases.specs.Arrivals.{Came}
use Rattle.peer_cases.specs.Cases.{case_of, decided, decision_in}
use Rattle.peer_cases.specs.Pieces.{piece_of}
use Rattle.peer_gateway.proofs.SizedLemmas.{wire-some}

abbrev pub IsSome : SizedPiece → Type 0
IsSome piece = 0 < length piece.octets

-- ---- pieces of a bundle

records-some : (s : PeerSettings) (to : Face) (records : List Full) → AllByRecursion IsSome (map (piece_of s to) records)
records-some s to [] = tt
records-some s to (full ∷ records) = (wire-some s to full, records-some s to records)

case-some : (s : PeerSettings) (to : Face) (came : Came) (cut : ℕ) (case : GateCase) → AllByRecursion IsSome (decision_in s to came cut case).pieces
case-some s to came cut (cases.BadBundle at cause) = tt
case-some s to came cut (cases.Untranslated cause) = tt
case-some s to came cut cases.Expired = tt
case-some s to came cut cases.HopLimit = tt
case-some s to came cut cases.Storage = tt
case-some s to came cut cases.Passed = records-some s to (records_of came.onward cut)

pub decided-some : (s : PeerSettings) (face : Face) (came : Came) (now cut : ℕ) (room : FaceRoom) → AllByRecursion IsSome (decided s face came now cut room).pieces
unfolding decided
decided-some s face came now cut room = case-some s (other_of face) came cut (case_of s (other_of face) came now cut room)

-- ---- a report

pub report-some : (gate : Endpoint) (counter now : ℕ) (asked : AskedReport) → 0 < length (status_bundle gate counter now asked)
unfolding status_bundle six.canon6 six.primary_octets seven.octets7
report-some gate counter now asked = by asked.creation where
  by : (creation : Creation) → 0 < length (status_octets gate counter now asked creation)
  by (Six subject) = omega arith
  by (Seven subject) = omega arith
