-- What a caller can rely on: that what is decided can be sent.
use Rattle.std.specs.Prelude.{◌≡◌, ℕ, ◌+◌, ◌*◌, ◌^◌, ◌<◌, ◌≤◌, List, length, Option, Some, None}
use Rattle.std.specs.List.{All}
use Rattle.endpoint.specs.declared.name.Endpoint.{Endpoint}
use Rattle.endpoint.specs.Endpoints.{IsEndpoint}
use Rattle.bundle_meaning.specs.Reports.{IsReportPart}
use Rattle.gate_cases.specs.declared.case.TheConstants.{BLOCK_MAX, SENDING_MAX, NUMBERS}
use Rattle.gate_cases.specs.declared.case.GateCase.TheVariants.{Passed}
use Rattle.gate_cases.specs.declared.case.Room.{Room}
use Rattle.gate_cases.specs.declared.face.Face.{Face}
use Rattle.gate_cases.specs.declared.report.AskedReport.{AskedReport}
use Rattle.gate_cases.specs.declared.report.Creation.{Creation}
use Rattle.gate_cases.specs.declared.report.Creation.TheVariants.{Six, Seven}
use Rattle.gate_cases.specs.Bundles.{bundle6_with, bundle7_with}
use Rattle.gate_cases.specs.Cases.{judged}

-- a session carries the octets as one block
pub record IsBlock (octets : List ℕ) : Type 0 where
  pub some : 0 < length octets
  pub small : length octets ≤ BLOCK_MAX

-- there is a session for each of the pieces, which carries it; and there is a piece
pub record HaveRoom (room : Room) (pieces : List (List ℕ)) : Type 0 where
  pub some : 0 < length pieces
  pub blocks : All IsBlock pieces
  pub sessions : room.sending + length pieces ≤ SENDING_MAX
  pub numbers : room.next_session + length pieces ≤ NUMBERS

-- the pieces of a bundle that goes on have room
abbrev pub PiecesHaveRoom : Type 0
PiecesHaveRoom = (face : Face) (block : List ℕ) (now cut : ℕ) (room : Room)
    → (judged face block now cut room).case ≡ Passed
    → HaveRoom room (judged face block now cut room).pieces

-- ---- reports

-- The bundle in which a report goes back lives a day: in seconds (RFC 5050, section 4.5.1), and in
-- milliseconds (RFC 9171, section 4.3.1).
pub record ReportsLiveADay : Type 0 where
  pub seconds : (gate : Endpoint) (counter now : ℕ) (asked : AskedReport) (body : List ℕ)
      → (bundle6_with gate counter now asked body).primary.lifetime ≡ 24 * 60 * 60
  pub millis : (gate : Endpoint) (counter now : ℕ) (asked : AskedReport) (body : List ℕ)
      → (bundle7_with gate counter now asked body).primary.lifetime ≡ 24 * 60 * 60 * 1000

abbrev pub IsCreation : Creation → Type 0
IsCreation (Six id) = (id.seconds < 2 ^ 64) × (id.sequence < 2 ^ 64)
IsCreation (Seven id) = (id.millis < 2 ^ 64) × (id.sequence < 2 ^ 64)

-- a report that can be spelled
pub record IsAskable (asked : AskedReport) : Type 0 where
  pub report_to : IsEndpoint asked.report_to
  pub source : IsEndpoint asked.source
  pub creation : IsCreation asked.creation
  pub fragment : IsReportPart asked.fragment
  pub reason : asked.reason < 256

-- a report that is asked for can be
abbrev pub AreAskable : Option AskedReport → Type 0
AreAskable None = Unit {0}
AreAskable (Some asked) = IsAskable asked
