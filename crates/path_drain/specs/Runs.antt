-- What holds of every run of a path, whether or not a drain follows.

use Rattle.std.specs.Prelude.{◌≡◌, ℕ, List, ◌++◌}
use Rattle.ltp_laws.specs.View.{IsIn}
use Rattle.ltp_drain.specs.Hopeful.{IsHanded}
use Rattle.gate_cases.specs.declared.face.Face.{Face}
use Rattle.path_laws.specs.declared.effects.UpAt.{UpAt}
use Rattle.path_laws.specs.declared.places.Place.{Place}
use Rattle.path_laws.specs.Places.{across, face_place}
use Rattle.path_laws.specs.Path.{PathSetup, Path, PathEvent, path_run, starts_path}
use Rattle.path_laws.specs.Log.{Begun, begun_in, ups_in}
use Rattle.path_laws.specs.Laws.{IsLinked}
use Rattle.path_drain.specs.Pieces.{case_at}
use Rattle.path_drain.specs.Completion.{IsCaseNotedIn}
use Rattle.path_drain.specs.Effects.{IsUpAt, notes_in}
use Rattle.path_drain.specs.Hopeful.{session_at}

-- ---- a run from the start

-- where a run leads to, and what it begins and hands up
abbrev pub run_path : PathSetup → ℕ → List PathEvent → Path
run_path s start events = path_run s (starts_path s start) events

abbrev pub run_begun : PathSetup → ℕ → List PathEvent → List Begun
run_begun s start events = begun_in s (starts_path s start) events

abbrev pub run_ups : PathSetup → ℕ → List PathEvent → List UpAt
run_ups s start events = ups_in s (starts_path s start) events

-- a receiver that is kept where a run led to, and has handed its red part up, did so in the run
abbrev pub HandedUpInRuns : Type 0
HandedUpInRuns =
    (s : PathSetup) (start : ℕ) (events : List PathEvent) → IsLinked s → (place : Place) (n : ℕ)
    → IsHanded (session_at s (run_path s start events) place n).receiver
    → IsUpAt (run_ups s start events) (across place) n

-- ---- a run from any path

-- each block that is handed up at the gate has its case noted with it
abbrev pub CasesAreNotedInRuns : Type 0
CasesAreNotedInRuns =
    (s : PathSetup) (w : Path) (events : List PathEvent) (face : Face) (up : UpAt)
    → IsIn up (ups_in s w events) → up.place ≡ face_place face → IsCaseNotedIn s w events face up

-- and that note stands among those of the run
abbrev pub CaseNotesStandInRuns : Type 0
CaseNotesStandInRuns =
    (s : PathSetup) (w : Path) (events : List PathEvent) (face : Face) (up : UpAt)
    → (case : IsCaseNotedIn s w events face up)
    → IsIn
    (record {
      place = face_place face;
      note = case_at s.gate face (path_run s w case.earlier).now up.session up.body
          (path_run s w case.earlier).gate;
    }) (notes_in s w events)

-- of some events and then others: where they lead to, and what they begin, hand up and note
pub record GoesOn (s : PathSetup) (w : Path) (events made : List PathEvent) : Type 0 where
  pub leads : path_run s w (events ++ made) ≡ path_run s (path_run s w events) made
  pub begun :
      begun_in s w (events ++ made) ≡ begun_in s w events ++ begun_in s (path_run s w events) made
  pub ups : ups_in s w (events ++ made) ≡ ups_in s w events ++ ups_in s (path_run s w events) made
  pub notes :
      notes_in s w (events ++ made) ≡ notes_in s w events ++ notes_in s (path_run s w events) made

abbrev pub RunsGoOn : Type 0
RunsGoOn = (s : PathSetup) (w : Path) (events made : List PathEvent) → GoesOn s w events made
