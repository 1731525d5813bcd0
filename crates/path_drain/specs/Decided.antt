-- What an end begins is what an event sends there. What the gate begins is of the block that the same
-- event hands up: as it decides about that block by the clock, and by its room at the other face, as
-- the event comes.

use Rattle.std.specs.Prelude.{◌≡◌, ℕ, List, ◌∷◌, ◌++◌, Some, slice_get}
use Rattle.ltp_laws.specs.View.{IsIn}
use Rattle.gate_cases.specs.declared.report.AskedReport.{AskedReport}
use Rattle.gate_cases.specs.Bundles.{status_bundle}
use Rattle.gateway_core.specs.Gate.{judged_at}
use Rattle.path_laws.specs.declared.effects.UpAt.{UpAt}
use Rattle.path_laws.specs.declared.places.PathEnd.{PathEnd}
use Rattle.path_laws.specs.Places.{face_of, face_place}
use Rattle.path_laws.specs.Path.{PathSetup, Path, PathEvent, path_run, path_step, sends}
use Rattle.path_laws.specs.Log.{Begun, Origin, a_piece, a_report, a_send, begun_at, begun_in}

-- the i-th piece of what becomes of an end's n-th send, which is among what is handed up
pub record IsPieceAt
    (s : PathSetup) (w : Path) (ups : List UpAt) (end : PathEnd) (n i : ℕ) (block : List ℕ)
    : Type 0 where
  pub bundle : List ℕ
  pub came :
      IsIn (record { place = face_place (face_of end); session = n; body = bundle }) ups
  pub piece :
      slice_get (judged_at s.gate (face_of end) w.now bundle w.gate).pieces i ≡ Some block

-- the report on it: with the moment of the clock, and the number that the gate's counter has
pub record IsReportAt
    (s : PathSetup) (w : Path) (ups : List UpAt) (end : PathEnd) (n : ℕ) (block : List ℕ)
    : Type 0 where
  pub bundle : List ℕ
  pub came :
      IsIn (record { place = face_place (face_of end); session = n; body = bundle }) ups
  pub asked : AskedReport
  pub asks : (judged_at s.gate (face_of end) w.now bundle w.gate).report ≡ Some asked
  pub spelled : block ≡ status_bundle s.gate.gate w.gate.counter w.now asked

-- a session of this origin, with this block, is begun so by an event that comes to the path w and
-- hands these blocks up: a send's by the send of that block
abbrev pub IsDecidedAt :
    PathSetup → Path → PathEvent → List UpAt → Origin → List ℕ → Type 0
IsDecidedAt s w event ups (a_send end n) block = event ≡ sends end block
IsDecidedAt s w event ups (a_piece end n i) block = IsPieceAt s w ups end n i block
IsDecidedAt s w event ups (a_report end n) block = IsReportAt s w ups end n block

-- one of some events begins a session
pub record IsBegunIn (s : PathSetup) (w : Path) (events : List PathEvent) (b : Begun) : Type 0
  where
    pub earlier : List PathEvent
    pub event : PathEvent
    pub later : List PathEvent
    pub among : events ≡ earlier ++ event ∷ later
    pub begins : IsIn b (begun_at s (path_run s w earlier) event)
    pub decided :
        IsDecidedAt s (path_run s w earlier) event
        (path_step s (path_run s w earlier) event).effects.ups b.origin b.block

-- so it is with each session that is begun in a run
abbrev pub BegunAreDecided : Type 0
BegunAreDecided =
    (s : PathSetup) (w : Path) (events : List PathEvent) (b : Begun) → IsIn b (begun_in s w events)
    → IsBegunIn s w events b
