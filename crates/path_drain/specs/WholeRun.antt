-- What a run of a path promises together with a drain after it: of each session that was open where
-- the drain begins, whatever had happened before, and of each block that ever came whole to the gate.

use Rattle.std.specs.Prelude.{◌≡◌, ℕ, ◌≤◌, false, List, ◌++◌, length, None, Some}
use Rattle.ltp_session.specs.Receiver.{Receiving, is_cancelling}
use Rattle.ltp_laws.specs.View.{IsIn}
use Rattle.ltp_drain.specs.Hopeful.{IsKeptSender}
use Rattle.gate_cases.specs.declared.face.Face.{Face}
use Rattle.path_laws.specs.declared.effects.UpAt.{UpAt}
use Rattle.path_laws.specs.declared.places.Place.{Place}
use Rattle.path_laws.specs.Places.{face_place}
use Rattle.path_laws.specs.Path.{PathSetup, Path, PathEvent, path_run, starts_path}
use Rattle.path_laws.specs.Log.{Begun, begun_in, ups_in}
use Rattle.path_laws.specs.Laws.{IsLinked}
use Rattle.path_drain.specs.PathRoom.{PathRoom}
use Rattle.path_drain.specs.RoomKept.{IsOfLength, NoneForRoom}
use Rattle.path_drain.specs.Clean.{AreCleanOnPathFrom, path_clean_event, path_deadline}
use Rattle.path_drain.specs.Clean.{path_passed}
use Rattle.path_drain.specs.Completion.{IsCaseNotedIn}
use Rattle.path_drain.specs.Effects.{IsNotedSent, IsShort, IsUpWhole, notes_in}
use Rattle.path_drain.specs.Hopeful.{AreAlikeOnPath, PathHopeful, path_cost, session_at}
pub use Rattle.path_drain.specs.Runs.{run_begun, run_path, run_ups}

-- session n of a place was begun there, and its whole block was handed up across its link
pub record IsHandedWhole (begun : List Begun) (ups : List UpAt) (from : Place) (n : ℕ) : Type 0
  where
    pub session : Begun
    pub among : IsIn session begun
    pub place : session.place ≡ from
    pub number : session.session ≡ n
    pub up : IsUpWhole ups session

-- What a run and then the events of a drain, which lead from w to v, have done to the sessions.
pub record IsRunCompleteFrom
    (s : PathSetup) (start : ℕ) (events : List PathEvent) (w : Path) (made : List PathEvent)
    (v : Path) : Type 0 where
  -- the drain has no more events than the sessions cost
  pub bound : length made ≤ path_cost s w v
  -- each session that was open at its sender in w is noted in the drain as sent
  pub sent :
      (place : Place) (n : ℕ) → IsKeptSender (session_at s w place n).sender
      → IsNotedSent (notes_in s w made) place n
  -- its block was handed up whole, in the drain or before
  pub handed :
      (place : Place) (n : ℕ) → IsKeptSender (session_at s w place n).sender
      → IsHandedWhole (run_begun s start (events ++ made)) (run_ups s start (events ++ made))
      place n
  -- each session that was begun in the drain is noted so too, and handed up whole
  pub begun_sent :
      (b : Begun) → IsIn b (begun_in s w made) → IsNotedSent (notes_in s w made) b.place b.session
  pub begun_handed :
      (b : Begun) → IsIn b (begun_in s w made) → IsUpWhole (ups_in s w made) b
  -- each block that was handed up at the gate, in the drain or before, has its case noted with it
  pub cases :
      (face : Face) (up : UpAt) → IsIn up (run_ups s start (events ++ made))
      → up.place ≡ face_place face
      → IsCaseNotedIn s (starts_path s start) (events ++ made) face up
  -- in the drain no session is closed to make room, and none is refused for want of it
  pub noted : NoneForRoom (notes_in s w made)
  -- and a bundle is stopped for want of storage only since a piece of it is longer than a session
  -- carries
  pub storage :
      (face : Face) (n : ℕ) → IsShort (notes_in s w made) face n
      → IsOfLength s (ups_in s w made) face n
  -- at the end no sender is kept, no receiver is cancelling, and no timer runs
  pub no_sender : (place : Place) (n : ℕ) → (session_at s v place n).sender ≡ None
  pub no_cancel :
      (place : Place) (n : ℕ) (r : Receiving) → (session_at s v place n).receiver ≡ Some r
      → is_cancelling r.phase ≡ false
  pub no_timer : path_deadline v ≡ None

abbrev pub IsRunComplete : PathSetup → ℕ → List PathEvent → List PathEvent → Type 0
IsRunComplete s start events made =
    IsRunCompleteFrom s start events (run_path s start events) made
    (path_run s (run_path s start events) made)

-- A run led to a path that is hopeful and has room, and from there the clean events of a drain went
-- on until none could follow: then the drain completes the sessions.
abbrev pub WholeRunsComplete : Type 0
WholeRunsComplete =
    (s : PathSetup) (start : ℕ) (events made : List PathEvent) → IsLinked s → AreAlikeOnPath s
    → PathHopeful s (run_path s start events) → PathRoom s (run_path s start events)
    → AreCleanOnPathFrom s (run_path s start events) made
    → path_clean_event (path_run s (run_path s start events) made)
    (path_passed (length (run_path s start events).sent) made) ≡ None
    → IsRunComplete s start events made
